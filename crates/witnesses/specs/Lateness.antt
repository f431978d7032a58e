-- Histories with a late job, where what the promise asks for is missing.
use Rattle.std.specs.Prelude.{◌≡◌, [], ◌∷◌, None}
use Rattle.units.specs.Meaning.{off}
use Rattle.machine.specs.declared.word.Word.TheVariants.{GoOn}
use Rattle.machine.specs.Begin.{begin_fault}
use Rattle.machine.specs.History.{Late}
use Rattle.machine.specs.Machine.{Lags, Within}
use Rattle.machine.specs.Plans.{Plan, Planned}
use Rattle.witnesses.specs.Saying.{Setting, Course, from_begin, say_times}
use Rattle.witnesses.specs.Settings.{three, all_at, hundred, no_lags, crowded}

-- A lag of 50 ticks at the raise to the admitted level.
abbrev pub long_lags : Lags
long_lags = record { back = 50; slowed = 0; woken = 0 }

-- The three tasks on a divider that takes this lag, though its raise allowance is 0.
abbrev pub broken : Setting
broken = record { nature = hundred; lags = λ u. long_lags; plan = three; starts = all_at 0 }

-- Two crowded tasks at 10 units a tick, a level that does not pass.
abbrev pub overfull : Plan
overfull = record { tasks = crowded; levels = 10 ∷ []; admitted = 10 }

-- They run on a divider that keeps its allowances.
abbrev pub unadmitted : Setting
unadmitted = record { nature = hundred; lags = λ u. no_lags; plan = overfull; starts = 0 ∷ 0 ∷ [] }

-- The first run after 50 ticks.
abbrev pub broken_50 : Course
broken_50 = say_times broken GoOn 50 (from_begin broken)

-- The second run after 3 ticks.
abbrev pub unadmitted_3 : Course
unadmitted_3 = say_times unadmitted GoOn 3 (from_begin unadmitted)

-- Lateness can hold, so that the promise that no job is late says something. On a unit outside its allowance, the first
-- job of row 1 is late at tick 50, though the plan is admitted and the begin accepted. In a plan that is not admitted, the
-- first job of row 2 is late at tick 3, though the begin is accepted and the unit keeps its allowances. Rows and jobs count
-- from 0 in `Late`.
pub record LatenessHolds : Type 0 where
  pub planned : Planned three
  pub accepted : begin_fault hundred three (all_at 0) off ≡ None
  pub outside : ¬ (Within hundred long_lags)
  pub late_50 : Late three.tasks (all_at 0) broken_50.history 0 0
  pub not_planned : ¬ (Planned overfull)
  pub accepted_too : begin_fault hundred overfull (0 ∷ 0 ∷ []) off ≡ None
  pub within : Within hundred no_lags
  pub late_3 : Late crowded (0 ∷ 0 ∷ []) unadmitted_3.history 1 0
