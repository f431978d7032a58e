-- A listed level below the admitted one, at which a job is late.
use Rattle.std.specs.Prelude.{◌<◌}
use Rattle.theory.specs.Lists.{Any, In}
use Rattle.theory.specs.Ticks.{Late, plain, PlainRunLate}
use Rattle.witnesses.specs.Settings.{three, ThreeAdmitted}

-- The three tasks are admitted at level 50. Level 25 is listed too, and there the plain run has a job that is late at
-- tick 100.
pub record LowerLevelLate : Type 0 where
  pub admitted : ThreeAdmitted
  pub listed : In 25 three.levels
  pub below : 25 < three.admitted
  pub at_100 : Any (Late 100) (plain 25 100 three.tasks)
  pub late : PlainRunLate 25 three.tasks
