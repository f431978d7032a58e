-- How many of a ramp's levels lie between two.
use Rattle.std.proofs.Common.{◌≡◌, ℕ, ◌≤◌, cond, ◌&&◌, List, [], ◌∷◌, refl, arith}
use Rattle.std.specs.Prelude.{nat_le, nat_lt}
use Rattle.std.proofs.lemmas.List.Sums.{sum_by-cons}
use Rattle.std.proofs.lemmas.Bool.Decides.{nat_tests}
use Rattle.units.specs.Ramp.{between}

-- No level is above another and up to a lower one.
between_none : (low high : ℕ) → high ≤ low → (xs : List ℕ) → between low high xs ≡ 0
between_none low high h [] = refl
between_none low high h (x ∷ xs) =
    grind (arith, nat_tests, between_none low high h xs, sum_by-cons (λ y. cond (nat_lt low y && nat_le y high) 1 0) x xs)

-- A ramp's lag after an ask: the levels on the way, of which there are none where the level is not above the old one.
pub asked_lag : (old level : ℕ) (xs : List ℕ) → between old level xs ≡ cond (nat_lt old level) (between old level xs) 0
asked_lag old level xs = let none = λ (le : level ≤ old). between_none old level le xs in grind (arith, nat_tests, none)
