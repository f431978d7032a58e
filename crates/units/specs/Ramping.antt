-- The levels of a ramp.
use Rattle.std.specs.Prelude.{◌≡◌, ℕ, ◌<◌, ◌≤◌, true, List, [], ◌∷◌}
use Rattle.std.proofs.Common.{arith}
use Rattle.std.proofs.lemmas.Bool.Decides.{nat_tests}
use Rattle.tasks.specs.Levels.{ascending}
use Rattle.units.specs.Ramp.{stands}

-- A level of an ascending list is above the one before the list, and at most 1,000.
pub stands_range : (low : ℕ) (xs : List ℕ) (level : ℕ) → ascending low xs ≡ true → stands xs level ≡ true → (low < level) × (level ≤ 1000)
stands_range low [] level asc h = cc
stands_range low (x ∷ xs) level asc h = grind (arith, nat_tests, stands_range x xs level)
