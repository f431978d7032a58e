-- The next point at a time or after it: it is a point, none stands between, and no row asks for more there.
use Rattle.std.proofs.Common.{◌≡◌, ℕ, ◌<◌, ◌≤◌, min, ◌⊎◌, List, [], ◌∷◌, refl, inl, inr, ⊎_elim, mul-le-mul_right, mul-le-mul_left, arith}
use Rattle.std.proofs.lemmas.Bool.{cases_lt}
use Rattle.theory.specs.Lists.{All, Any, In}
use Rattle.theory.specs.Tasks.{Task, Valid, cdiv, cost, demand}
use Rattle.theory.specs.Test.{down_to, points}
use Rattle.theory.specs.Search.{period_end, next_point}
use Rattle.theory.proofs.Cdiv.{cdiv_least}
use Rattle.theory.proofs.Lists.{valid_above}
use Rattle.theory.proofs.Points.{Multiple, points_are, points_have}

-- The next point is at most the given last one.
next_low : (rows : List Task) (last t : ℕ) → next_point rows last t ≤ last
next_low [] last t = omega arith
next_low (r ∷ rs) last t = omega (arith, next_low rs (min last (period_end r t)) t)

-- The next point is not before the time that it is looked for from.
next_high : (rows : List Task) (last t : ℕ) → All Valid rows → t ≤ last → t ≤ next_point rows last t
next_high [] last t v h = h
next_high (r ∷ rs) last t v h = next_high rs (min last (period_end r t)) t v.1 (grind arith)

-- No multiple of a row's period stands between t and the next point.
next_before : (i : Task) (rows : List Task) (last t q : ℕ) → All Valid rows → Any (Multiple i q) rows → t ≤ q → next_point rows last t ≤ q
next_before i [] last t q v a h = absurd a
next_before i (r ∷ rs) last t q v (inl (m, some, few, e)) h = grind (arith, cdiv_least, mul-le-mul_right, next_low)
next_before i (r ∷ rs) last t q v (inr a) h = next_before i rs (min last (period_end r t)) t q v.1 a h

-- The next point is the last one, or a multiple of a row's period.
next_is : (i : Task) (rows : List Task) (last t : ℕ) → All Valid rows → 1 ≤ t → last ≤ i.period →
    (next_point rows last t ≡ last) ⊎ Any (Multiple i (next_point rows last t)) rows
next_is i [] last t v ht h = inl refl
next_is i (r ∷ rs) last t v ht h =
    ⊎_elim (λ e. ⊎_elim (λ k. inr (inl (here e k))) (λ k. inl (omega arith)) (cases_lt (period_end r t) last)) (λ a. inr (inr a))
    (next_is i rs (min last (period_end r t)) t v.1 ht (omega arith))
  where
    here : next_point rs (min last (period_end r t)) t ≡ min last (period_end r t) → period_end r t < last →
        Multiple i (next_point rs (min last (period_end r t)) t) r
    here e k = grind arith

-- Up to the next point after t, the rows ask for no more than at t.
pub next_asks_no_more : (f : ℕ) (rows : List Task) (last t u : ℕ) → All Valid rows → u ≤ next_point rows last t → demand f rows u ≤ demand f rows t
next_asks_no_more f [] last t u v h = omega arith
next_asks_no_more f (r ∷ rs) last t u v h =
    let c : cdiv u r.period ≤ cdiv t r.period = grind (arith, cdiv_least u r.period (cdiv t r.period), next_low) in
    omega (arith, mul-le-mul_left (cost f r) c, next_asks_no_more f rs (min last (period_end r t)) t u v.1 h)

-- The next point of a row is not before the time that it is looked for from.
pub next_from : (hi : List Task) (i : Task) (t : ℕ) → All Valid (down_to hi i) → t ≤ i.deadline → t ≤ next_point (down_to hi i) i.deadline t
next_from hi i t all h = next_high (down_to hi i) i.deadline t all h

-- The next point of a row is at most its deadline.
pub next_last : (hi : List Task) (i : Task) (t : ℕ) → next_point (down_to hi i) i.deadline t ≤ i.deadline
next_last hi i t = next_low (down_to hi i) i.deadline t

-- The next point of a row is one of its points.
pub next_is_point : (hi : List Task) (i : Task) (t : ℕ) → All Valid (down_to hi i) → 1 ≤ t → In (next_point (down_to hi i) i.deadline t) (points hi i)
next_is_point hi i t all ht = grind (arith, points_have, next_last, next_is, valid_above)

-- No point of a row stands between t and the next point.
pub next_first : (hi : List Task) (i : Task) (t q : ℕ) → All Valid (down_to hi i) → In q (points hi i) → t ≤ q → next_point (down_to hi i) i.deadline t ≤ q
next_first hi i t q all m h = grind (arith, next_last, next_before, points_are)
