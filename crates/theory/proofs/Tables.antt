-- The answers of a table, place by place.
use Rattle.std.proofs.Common.{◌≡◌, ℕ, zero, suc, ◌+◌, ◌<◌, List, [], ◌∷◌, ◌++◌, length, get_or, take, Some, None, refl, ap, ◌∙◌, append_assoc, append-nil, arith, rules}
use Rattle.theory.specs.Tasks.{Task, no_task}
use Rattle.theory.specs.Test.{down_to, answer, answers, passing, first_failing}

-- Each of the first n rows of the table has the answer found for it.
abbrev pub Answered : ℕ → List Task → ℕ → List (ℕ × ℕ) → Type 0
Answered f table n found = (k : ℕ) → k < n → answer f (take k table) (get_or table k no_task) ≡ Some (get_or found k (0, 0))

-- Under the rows hi, each of the first n rows of lo has the answer that g gives for its place.
abbrev Under : ℕ → List Task → List Task → ℕ → (ℕ → ℕ × ℕ) → Type 0
Under f hi lo n g = (k : ℕ) → k < n → answer f (hi ++ take k lo) (get_or lo k no_task) ≡ Some (g k)

-- A row has the same answer under hi as under hi and no rows more.
answer_first : (f : ℕ) (hi : List Task) (i : Task) → answer f hi i ≡ answer f (hi ++ []) i
answer_first f hi i = grind (arith, append-nil)

-- A row has the same answer under hi with i, and then the rows of mid, as under hi, and then i and the rows of mid.
answer_next : (f : ℕ) (hi : List Task) (i : Task) (mid : List Task) (r : Task) → answer f (down_to hi i ++ mid) r ≡ answer f (hi ++ (i ∷ mid)) r
answer_next f hi i mid r = ap (λ (l : List Task). answer f l r) (append_assoc hi (i ∷ []) mid)

-- The rows after the first have their answers under hi and the first.
under_next : (f : ℕ) (hi : List Task) (i : Task) (lo : List Task) (n : ℕ) (g : ℕ → ℕ × ℕ) → Under f hi (i ∷ lo) (suc n) g →
    Under f (down_to hi i) lo n (λ k. g (suc k))
under_next f hi i lo n g h k lt = grind (arith, answer_next)

-- Where each row under hi has its answer, the answers are those.
all_under : (f : ℕ) (hi lo : List Task) (found : List (ℕ × ℕ)) → Under f hi lo (length lo) (λ k. get_or found k (0, 0)) → length found ≡ length lo →
    answers f hi lo ≡ Some found
all_under f hi [] [] h e = refl
all_under f hi [] (a ∷ found) h e = absurd (omega arith)
all_under f hi (i ∷ lo) [] h e = absurd (omega arith)
all_under f hi (i ∷ lo) (a ∷ found) h e =
    let first = h 0 (omega arith) in
    grind (arith, answer_first, all_under f (down_to hi i) lo found, under_next f hi i lo (length lo) (λ k. get_or (a ∷ found) k (0, 0)) h)

-- Where each row of a table has its answer, the answers are those.
pub all_answered : (f : ℕ) (table : List Task) (found : List (ℕ × ℕ)) → Answered f table (length table) found → length found ≡ length table →
    answers f [] table ≡ Some found
all_answered f table found h e = all_under f [] table found h e

-- Under hi, where the rows before the place n have answers and the row there has none, there are no answers, and n rows pass.
fails_under : (f : ℕ) (hi lo : List Task) (n : ℕ) (g : ℕ → ℕ × ℕ) → n < length lo → Under f hi lo n g →
    answer f (hi ++ take n lo) (get_or lo n no_task) ≡ None → (answers f hi lo ≡ None) × (passing f hi lo ≡ n)
fails_under f hi [] n g lt h e = absurd (omega arith)
fails_under f hi (i ∷ lo) zero g lt h e = search rules
fails_under f hi (i ∷ lo) (suc n) g lt h e =
    let here : answer f hi i ≡ Some (g 0) = answer_first f hi i ∙ h 0 (omega arith) in
    let rest = fails_under f (down_to hi i) lo n (λ k. g (suc k)) (omega arith) (under_next f hi i lo n g h) (grind (arith, answer_next)) in
    grind arith

-- Where the rows before the place n have answers and the row there has none, there are no answers, and the row there is the
-- first that does not pass.
pub first_fails : (f : ℕ) (table : List Task) (n : ℕ) (found : List (ℕ × ℕ)) → n < length table → Answered f table n found →
    answer f (take n table) (get_or table n no_task) ≡ None → (answers f [] table ≡ None) × (first_failing f table ≡ n + 1)
first_fails f table n found lt h e =
    let both = fails_under f [] table n (λ k. get_or found k (0, 0)) lt h e in grind arith
