-- The items of a proper sheet may follow one another, and are read back.
use Rattle.std.proofs.Common.{◌≡◌, ℕ, ◌+◌, ◌≤◌, true, List, [], ◌∷◌, ◌++◌, length, None, Ok, Option, ap, arith, rules}
use Rattle.std.proofs.lemmas.List.{append_assoc, length_push, get_or_push}
use Rattle.std.proofs.lemmas.Bool.Decides.{nat_tests}
use Rattle.fault.specs.declared.Fault.{Fault}
use Rattle.theory.specs.Lists.{All}
use Rattle.theory.specs.Tasks.{Task}
use Rattle.tasks.specs.Levels.{ascending, top, level_fault}
use Rattle.tasks.specs.Ranges.{task_refusal}
use Rattle.tasks.specs.Tables.{task_fault}
use Rattle.sheet.specs.Sheets.{body, start_fault}
use Rattle.sheet.specs.Written.{each_text}
use Rattle.sheet.proofs.Back.{Back}

-- What holds of each element, made weaker.
pub all_weaker : {X : Type 0} {P Q : X → Type 0} → ((x : X) → P x → Q x) → (xs : List X) → All P xs → All Q xs
all_weaker f [] h = tt
all_weaker f (x ∷ xs) h = (f x h.0, all_weaker f xs h.1)

-- Each item may follow those before it.
abbrev pub Follow : {X : Type 0} → (ℕ → List X → X → Option Fault) → ℕ → List X → List X → Type 0
Follow check base done [] = Unit {0}
Follow check base done (x ∷ xs) = (check (base + (length done + 1)) done x ≡ None) × Follow check base (done ++ (x ∷ [])) xs

module _ {X : Type 0} (form : List ℕ → Option X) (text : X → List ℕ) (check : ℕ → List X → X → Option Fault) (base : ℕ) where
  -- The texts of such items are read back.
  pub body_back : (xs done : List X) (rest : List ℕ) → All (Back form text) xs → Follow check base done xs → body form check base (length xs) done (each_text text xs ++ rest) ≡ Ok (done ++ xs, rest)
  body_back [] done rest b f = search rules
  body_back (x ∷ xs) done rest b f = rw (append_assoc (text x) (each_text text xs) rest) (rw (b.0 (base + (length done + 1)) (length done + 1) (each_text text xs ++ rest)) (rw f.0 (rw (body_back xs (done ++ (x ∷ [])) rest b.1 f.1) (ap (λ l. Ok (l, rest)) (append_assoc done (x ∷ []) xs)))))

-- Levels that ascend.
pub levels_follow : (base : ℕ) (xs done : List ℕ) → ascending (top done) xs ≡ true → length done + length xs ≤ 64 → Follow level_fault base done xs
levels_follow base [] done h few = tt
levels_follow base (x ∷ xs) done h few = (grind (arith, nat_tests), levels_follow base xs (done ++ (x ∷ [])) (grind (arith, nat_tests, get_or_push, length_push)) (omega (arith, length_push done x)))

-- They are at most 1,000.
pub levels_low : (low : ℕ) (xs : List ℕ) → ascending low xs ≡ true → All (λ x. x ≤ 1000) xs
levels_low low [] h = tt
levels_low low (x ∷ xs) h = (grind (arith, nat_tests), levels_low x xs (grind (arith, nat_tests)))

-- Tasks in their ranges.
pub tasks_follow : (base : ℕ) (xs done : List Task) → All (λ t. task_refusal t.period t.deadline t.work ≡ None) xs → length done + length xs ≤ 32 → Follow task_fault base done xs
tasks_follow base [] done h few = tt
tasks_follow base (x ∷ xs) done h few = (grind (arith, nat_tests), tasks_follow base xs (done ++ (x ∷ [])) h.1 (omega (arith, length_push done x)))

-- The numbers of a task are below the highest that a sheet may have.
pub record Low (t : Task) : Type 0 where
  pub period : t.period ≤ 65535
  pub deadline : t.deadline ≤ 65535
  pub work : t.work ≤ 16000000

-- So are those of a task in its ranges.
pub task_low : (t : Task) → task_refusal t.period t.deadline t.work ≡ None → Low t
task_low t h = grind (arith, nat_tests)

-- First releases in their range.
pub starts_follow : (base : ℕ) (xs done : List ℕ) → All (λ s. s ≤ 65535) xs → Follow start_fault base done xs
starts_follow base [] done h = tt
starts_follow base (x ∷ xs) done h = (grind (arith, nat_tests), starts_follow base xs (done ++ (x ∷ [])) h.1)
