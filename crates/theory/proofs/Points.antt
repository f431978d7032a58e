-- The listed points of a row: its deadline, and the multiples of the rows' periods up to it.
use Rattle.std.proofs.Common.{◌≡◌, ℕ, zero, suc, ◌*◌, ◌/◌, ◌≤◌, ◌⊎◌, List, [], ◌∷◌, inl, inr, ⊎_elim, mul-le-mul_left, arith, nat_le, rules}
use Rattle.std.proofs.lemmas.Bool.{cases_lt, cond_both}
use Rattle.theory.specs.Lists.{All, Any, In}
use Rattle.theory.specs.Tasks.{Task, Valid}
use Rattle.theory.specs.Test.{down_to, multiples, points_of, points}
use Rattle.theory.proofs.Lists.{in_left, in_right, in_either, valid_above}

-- t is m times the period of the row j, for an m from 1 to (the period of i) / (the period of j).
abbrev pub Multiple : Task → ℕ → Task → Type 0
Multiple i t j = (m : ℕ) × (1 ≤ m) × (m ≤ i.period / j.period) × (t ≡ m * j.period)

-- t is the deadline of the row i, or such a multiple of the period of one of the rows, up to the deadline.
abbrev pub Point : Task → List Task → ℕ → Type 0
Point i rows t = (t ≡ i.deadline) ⊎ ((t ≤ i.deadline) × Any (Multiple i t) rows)

-- t is m * p, for an m from 1 to n, and at most d.
abbrev Listed : ℕ → ℕ → ℕ → ℕ → Type 0
Listed d p n t = (m : ℕ) × (1 ≤ m) × (m ≤ n) × (t ≡ m * p) × (t ≤ d)

-- What stands in the list of multiples is such a multiple.
multiples_are : (d p n t : ℕ) → In t (multiples d p n) → Listed d p n t
multiples_are d p zero t a = absurd a
multiples_are d p (suc n) t a =
    (cond_both (nat_le (suc n * p) d) (suc n * p ∷ multiples d p n) (multiples d p n) (λ l. In t l → Listed d p (suc n) t)
    (λ e b. ⊎_elim (λ q. grind arith) (λ c. up (multiples_are d p n t c)) b)
    (λ e b. up (multiples_are d p n t b))) a
  where
    up : Listed d p n t → Listed d p (suc n) t
    up (m, some, few, e, low) = grind arith

-- Every such multiple stands in the list of them.
multiples_have : (d p n t : ℕ) → Listed d p n t → In t (multiples d p n)
multiples_have d p zero t (m, some, few, e, low) = absurd (omega arith)
multiples_have d p (suc n) t (m, some, few, e, low) =
    cond_both (nat_le (suc n * p) d) (suc n * p ∷ multiples d p n) (multiples d p n) (In t)
    (λ q. ⊎_elim (λ h. inr (multiples_have d p n t (grind arith))) (λ h. inl (grind arith)) (cases_lt m (suc n)))
    (λ q. ⊎_elim (λ h. multiples_have d p n t (grind arith)) (λ h. grind arith) (cases_lt m (suc n)))

-- What is listed as a point is one.
pub points_are : (i : Task) (rows : List Task) (t : ℕ) → In t (points_of i rows) → Point i rows t
points_are i [] t a = grind arith
points_are i (r ∷ rs) t a =
    ⊎_elim (λ b. here (multiples_are i.deadline r.period (i.period / r.period) t b)) (λ b. there (points_are i rs t b))
    (in_either t (multiples i.deadline r.period (i.period / r.period)) (points_of i rs) a)
  where
    here : Listed i.deadline r.period (i.period / r.period) t → Point i (r ∷ rs) t
    here (m, some, few, e, low) = inr (low, inl (m, some, few, e))

    there : Point i rs t → Point i (r ∷ rs) t
    there b = grind arith

-- Every point is listed.
pub points_have : (i : Task) (rows : List Task) (t : ℕ) → Point i rows t → In t (points_of i rows)
points_have i [] t p = grind arith
points_have i (r ∷ rs) t (inl e) = grind (arith, in_right, points_have i rs t)
points_have i (r ∷ rs) t (inr (low, inl (m, some, few, e))) = search (rules, in_left, multiples_have)
points_have i (r ∷ rs) t (inr (low, inr a)) = grind (arith, in_right, points_have i rs t)

-- A multiple of a period is not before the first tick.
multiple_pos : (i : Task) (t : ℕ) (rows : List Task) → All Valid rows → Any (Multiple i t) rows → 1 ≤ t
multiple_pos i t [] v a = absurd a
multiple_pos i t (r ∷ rs) v a = grind (arith, multiple_pos i t rs, mul-le-mul_left)

-- The points of a row stand from the first tick to its deadline.
pub point_bounds : (hi : List Task) (i : Task) (t : ℕ) → All Valid (down_to hi i) → In t (points hi i) → (1 ≤ t) × (t ≤ i.deadline)
point_bounds hi i t all m = grind (arith, points_are, valid_above, multiple_pos)
