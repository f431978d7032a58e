-- A table that admission refuses.
use Rattle.std.specs.Prelude.{◌≡◌, ℕ, List, [], ◌∷◌, Err}
use Rattle.fault.specs.declared.Refusal.TheVariants.{NoLevelPasses}
use Rattle.fault.specs.Faults.{fault_at}
use Rattle.theory.specs.Lists.{Any}
use Rattle.theory.specs.Ticks.{Late, plain}
use Rattle.tasks.specs.Admission.{admission, EveryLevelLate}
use Rattle.witnesses.specs.Settings.{crowded}

-- The levels that are too low for two crowded tasks.
abbrev pub too_low : List ℕ
too_low = 5 ∷ 10 ∷ []

-- The refusal names the second row. At each of the levels the plain run has a job that is late at tick 3.
pub record TableRefused : Type 0 where
  pub refused : admission too_low crowded ≡ Err (fault_at NoLevelPasses 0 2)
  pub late_at_5 : Any (Late 3) (plain 5 3 crowded)
  pub late_at_10 : Any (Late 3) (plain 10 3 crowded)
  pub late : EveryLevelLate too_low crowded
