-- A run of an admitted plan that is slowed, and later rests.
use Rattle.std.specs.Prelude.{◌≡◌, ◌<◌}
use Rattle.units.specs.Meaning.{off}
use Rattle.machine.specs.declared.job.Pace.TheVariants.{Full, Slowed}
use Rattle.machine.specs.declared.word.Reply.TheVariants.{Stands}
use Rattle.machine.specs.declared.word.Word.TheVariants.{GoOn, Ended}
use Rattle.machine.specs.Plans.{Planned}
use Rattle.machine.specs.Reached.{Began}
use Rattle.witnesses.specs.Saying.{Course, from_begin, say, say_times, IsReached, where_it_stands}
use Rattle.witnesses.specs.Settings.{three, ThreeAdmitted, all_at, hundred, on_divider}

-- The three tasks begin on the divider.
abbrev pub at_begin : Course
at_begin = from_begin on_divider

-- Their jobs go on for 160 ticks.
abbrev pub at_160 : Course
at_160 = say_times on_divider GoOn 160 at_begin

-- The active job goes on for 19 ticks more, and ends in the next.
abbrev pub at_180 : Course
at_180 = say on_divider Ended (say_times on_divider GoOn 19 at_160)

-- The plan is admitted, its begin is accepted, and both moments are reached from there. At the first, the job of row 2 is
-- alone and the unit is slowed for it, below the admitted level. At the second, no job is left up to the release at tick
-- 200, and the unit rests. `Slowed` counts rows from 0.
pub record SlowsAndRests : Type 0 where
  pub admitted : ThreeAdmitted
  pub planned : Planned three
  pub begins : Began hundred three (all_at 0) off at_begin.now
  pub reached_160 : IsReached on_divider at_160
  pub stands_160 : where_it_stands at_160 ≡ Stands (record { count = 160; row = 2; given = 0; unit = record { asked = 25; lag = 0; rest = 0 } })
  pub slowed_160 : at_160.now.state.pace ≡ Slowed 1
  pub below_160 : at_160.now.unit.asked < three.admitted
  pub reached_180 : IsReached on_divider at_180
  pub stands_180 : where_it_stands at_180 ≡ Stands (record { count = 180; row = 0; given = 0; unit = record { asked = 50; lag = 0; rest = 20 } })
  pub full_180 : at_180.now.state.pace ≡ Full
  pub rests_180 : 0 < at_180.now.unit.rest
