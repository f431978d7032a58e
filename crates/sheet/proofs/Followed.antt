-- The items of a body that is read may follow one another, and the text is theirs.
use Rattle.std.proofs.Common.{◌≡◌, ℕ, zero, suc, ◌+◌, ◌≤◌, true, List, [], ◌∷◌, ◌++◌, length, None, Ok, Option, sym, refl, ap, ◌∙◌, arith}
use Rattle.std.proofs.lemmas.List.{append-nil, append_assoc, length_push, get_or_push}
use Rattle.std.proofs.lemmas.Bool.Decides.{nat_tests}
use Rattle.fault.specs.declared.Fault.{Fault}
use Rattle.theory.specs.Lists.{All}
use Rattle.theory.specs.Tasks.{Task}
use Rattle.tasks.specs.Levels.{ascending, top, level_fault}
use Rattle.tasks.specs.Ranges.{task_refusal}
use Rattle.tasks.specs.Tables.{task_fault}
use Rattle.sheet.specs.Sheets.{item_at, body, start_fault}
use Rattle.sheet.specs.Written.{each_text}
use Rattle.sheet.proofs.Exact.{Exact, item_exact}
use Rattle.sheet.proofs.Parts.{ok_parts}
use Rattle.sheet.proofs.Passing.{Follow}

module _ {X : Type 0} (form : List ℕ → Option X) (text : X → List ℕ) (exact : Exact form text) (check : ℕ → List X → X → Option Fault) (base : ℕ) where
  -- Where n items are read after others, each may follow, and the whole text is their texts and the text after them.
  items_exact : {Z : Type 0} (n : ℕ) (done : List X) (whole : List ℕ) {p : List X × List ℕ} → body form check base n done whole ≡ Ok p → ((xs : List X) → done ++ xs ≡ p.0 → length xs ≡ n → whole ≡ each_text text xs ++ p.1 → Follow check base done xs → Z) → Z
  items_exact zero done whole {p} h on = let same = append-nil done in on [] (cc) (refl {a = zero}) (cc) tt
  items_exact (suc n) done whole {p} h on = ok_parts (item_at form (base + (length done + 1)) (length done + 1) whole) _ h (λ q first h.
      let item = item_exact form text exact _ _ whole first in
      items_exact n (done ++ (q.0 ∷ [])) q.1 {p = p} (grind arith) (λ xs all many rest follow.
      on (q.0 ∷ xs) (sym (append_assoc done (q.0 ∷ []) xs) ∙ all) (ap suc many) (item ∙ ap (λ l. text q.0 ++ l) rest ∙ sym (append_assoc (text q.0) (each_text text xs) p.1)) (grind arith, follow)))

  -- A body of n items that may follow one another, and whose texts are at the front of the whole text.
  pub record Body (n : ℕ) (whole : List ℕ) (xs : List X) (rest : List ℕ) : Type 0 where
    pub many : length xs ≡ n
    pub texts : whole ≡ each_text text xs ++ rest
    pub follow : Follow check base [] xs

  -- What is read as a body is one.
  pub body_exact : (n : ℕ) (whole : List ℕ) {p : List X × List ℕ} → body form check base n [] whole ≡ Ok p → Body n whole p.0 p.1
  body_exact n whole {p} h =
      items_exact n [] whole h (λ xs all many texts follow. rw (sym all) (record { many = many; texts = texts; follow = follow }))

-- Levels that may follow one another ascend.
pub follow_levels : (base : ℕ) (xs done : List ℕ) → Follow level_fault base done xs → ascending (top done) xs ≡ true
follow_levels base [] done h = refl
follow_levels base (x ∷ xs) done h = grind (arith, nat_tests, get_or_push, length_push, follow_levels base xs (done ++ (x ∷ [])) h.1)

-- Tasks that may follow one another are in their ranges.
pub follow_tasks : (base : ℕ) (xs done : List Task) → Follow task_fault base done xs → All (λ t. task_refusal t.period t.deadline t.work ≡ None) xs
follow_tasks base [] done h = tt
follow_tasks base (x ∷ xs) done h = (grind (arith, nat_tests), follow_tasks base xs (done ++ (x ∷ [])) h.1)

-- First releases that may follow one another are in their range.
pub follow_starts : (base : ℕ) (xs done : List ℕ) → Follow start_fault base done xs → All (λ s. s ≤ 65535) xs
follow_starts base [] done h = tt
follow_starts base (x ∷ xs) done h = (grind (arith, nat_tests), follow_starts base xs (done ++ (x ∷ [])) h.1)
