-- One more level at the end of a list.
use Rattle.std.proofs.Common.{◌≡◌, ℕ, zero, suc, ◌-◌, ◌<◌, ◌≤◌, true, nat_lt, nat_le, List, [], ◌∷◌, ◌++◌, length, get_or, refl, ap, ◌∙◌, arith}
use Rattle.std.proofs.lemmas.Bool.{and_parts, and_from, lt-ltb, le-leb, ltb-true, leb-true}
use Rattle.tasks.specs.Levels.{ascending, top}

-- The last level, or `low` where there is none.
abbrev last_from : ℕ → List ℕ → ℕ
last_from low [] = low
last_from low (x ∷ xs) = last_from x xs

last_at : (x : ℕ) (xs : List ℕ) → get_or (x ∷ xs) (length xs) 0 ≡ last_from x xs
last_at x [] = refl
last_at x (y ∷ ys) = last_at y ys

top_is : (xs : List ℕ) → top xs ≡ last_from 0 xs
top_is [] = refl
top_is (x ∷ xs) =
    let e : length (x ∷ xs) - 1 ≡ length xs = omega arith in
    ap (λ n. get_or (x ∷ xs) n 0) e ∙ last_at x xs

more : (low : ℕ) (xs : List ℕ) (x : ℕ) → ascending low xs ≡ true → last_from low xs < x → x ≤ 1000 → ascending low (xs ++ (x ∷ [])) ≡ true
more low [] x h lt le = and_from (nat_lt low x) _ (lt-ltb _ _ lt) (and_from (nat_le x 1000) _ (le-leb _ _ le) refl)
more low (y ∷ ys) x h lt le =
    let a = and_parts (nat_lt low y) _ h in
    let b = and_parts (nat_le y 1000) _ a.1 in
    and_from (nat_lt low y) _ a.0 (and_from (nat_le y 1000) _ b.0 (more y ys x b.1 lt le))

-- A level above the last one, up to 1,000, may stand at the end of a list.
pub ascending_more : (xs : List ℕ) (x : ℕ) → ascending 0 xs ≡ true → top xs < x → x ≤ 1000 → ascending 0 (xs ++ (x ∷ [])) ≡ true
ascending_more xs x h lt le = more 0 xs x h (omega (arith, top_is xs)) le

-- Each level is above `low`, and at most 1,000.
in_range : (low : ℕ) (xs : List ℕ) (k : ℕ) → ascending low xs ≡ true → k < length xs → (low < get_or xs k 0) × (get_or xs k 0 ≤ 1000)
in_range low [] k h lt = absurd (omega arith)
in_range low (x ∷ xs) zero h lt =
    let a = and_parts (nat_lt low x) _ h in
    (ltb-true _ _ a.0, leb-true _ _ (and_parts (nat_le x 1000) _ a.1).0)
in_range low (x ∷ xs) (suc k) h lt =
    let a = and_parts (nat_lt low x) _ h in
    let rest = in_range x xs k (and_parts (nat_le x 1000) _ a.1).1 (omega arith) in
    (omega (arith, ltb-true _ _ a.0), rest.1)

-- Each listed level is from 1 to 1,000.
pub level_at : (xs : List ℕ) (k : ℕ) → ascending 0 xs ≡ true → k < length xs → (1 ≤ get_or xs k 0) × (get_or xs k 0 ≤ 1000)
level_at xs k h lt = in_range 0 xs k h lt
