-- A run on a ramp, whose unit lags at begin, when it is raised again and when it wakes.
use Rattle.std.specs.Prelude.{◌≡◌}
use Rattle.units.specs.Meaning.{works}
use Rattle.machine.specs.declared.job.Pace.TheVariants.{Slowed}
use Rattle.machine.specs.declared.word.Reply.TheVariants.{Stands}
use Rattle.machine.specs.declared.word.Word.TheVariants.{GoOn, Ended}
use Rattle.witnesses.specs.Saying.{Course, from_begin, say, say_times, IsReached, where_it_stands}
use Rattle.witnesses.specs.Settings.{three, on_ramp}

-- The three tasks begin on the ramp, whose raise allowance is 3.
abbrev pub at_begin : Course
at_begin = from_begin on_ramp

-- Their jobs go on for 166 ticks.
abbrev pub at_166 : Course
at_166 = say_times on_ramp GoOn 166 at_begin

-- The active job goes on for 9 ticks more, and ends in the next.
abbrev pub at_176 : Course
at_176 = say on_ramp Ended (say_times on_ramp GoOn 9 at_166)

-- One tick more.
abbrev pub at_177 : Course
at_177 = say on_ramp GoOn at_176

-- Up to the end of the rest.
abbrev pub at_200 : Course
at_200 = say_times on_ramp GoOn 23 at_177

-- Up to the release of row 1.
abbrev pub at_203 : Course
at_203 = say_times on_ramp GoOn 3 at_200

-- The unit lags for 2 ticks at begin. At tick 166 it is slowed; at 176 it is raised again, with a lag of 1; at 177 it
-- rests, and at 200 it wakes, with a lag of 2. At tick 203 row 1 is released, and the unit works at the admitted level.
-- `Slowed` counts rows from 0.
pub record LagsAndWakes : Type 0 where
  pub reached : IsReached on_ramp at_203
  pub stands_0 : where_it_stands at_begin ≡ Stands (record { count = 0; row = 0; given = 0; unit = record { asked = 50; lag = 2; rest = 0 } })
  pub stands_166 : where_it_stands at_166 ≡ Stands (record { count = 166; row = 2; given = 150; unit = record { asked = 25; lag = 0; rest = 0 } })
  pub slowed_166 : at_166.now.state.pace ≡ Slowed 1
  pub stands_176 : where_it_stands at_176 ≡ Stands (record { count = 176; row = 0; given = 0; unit = record { asked = 50; lag = 1; rest = 0 } })
  pub stands_177 : where_it_stands at_177 ≡ Stands (record { count = 177; row = 0; given = 0; unit = record { asked = 50; lag = 0; rest = 23 } })
  pub stands_200 : where_it_stands at_200 ≡ Stands (record { count = 200; row = 0; given = 0; unit = record { asked = 50; lag = 2; rest = 0 } })
  pub stands_203 : where_it_stands at_203 ≡ Stands (record { count = 203; row = 1; given = 0; unit = record { asked = 50; lag = 0; rest = 0 } })
  pub works_203 : works at_203.now.unit ≡ three.admitted
