-- The levels of a divider.
use Rattle.std.specs.Prelude.{◌≡◌, ℕ, ◌%◌, ◌≤◌, true, ◌&&◌, ◌==◌, nat_lt}
use Rattle.std.proofs.Common.{mod-eq_of_lt, arith}
use Rattle.std.proofs.lemmas.Bool.Decides.{nat_tests}

-- A number that divides a rate is at most the rate.
pub divides_le : (rate level : ℕ) → 1 ≤ rate → (nat_lt 0 level && rate % level == 0) ≡ true → (1 ≤ level) × (level ≤ rate)
divides_le rate level some h = grind (arith, nat_tests, mod-eq_of_lt {n = rate} {m = level})
