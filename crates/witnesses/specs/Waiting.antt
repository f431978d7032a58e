-- A moment at which two jobs are unfinished.
use Rattle.std.specs.Prelude.{◌≡◌}
use Rattle.units.specs.Meaning.{works}
use Rattle.machine.specs.declared.word.Word.TheVariants.{GoOn}
use Rattle.machine.specs.History.{Unfinished, tally}
use Rattle.machine.specs.Plans.{task_at}
use Rattle.witnesses.specs.Saying.{Course, from_begin, say_times, IsReached}
use Rattle.witnesses.specs.Settings.{three, all_at, on_divider}

-- The three tasks begin on the divider, and their jobs go on for 10 ticks.
abbrev pub at_10 : Course
at_10 = say_times on_divider GoOn 10 (from_begin on_divider)

-- The first job of row 1 is finished. Those of rows 2 and 3 are not, and the unit works at the admitted level.
-- Rows and jobs count from 0 in `Unfinished`.
pub record TwoUnfinished : Type 0 where
  pub reached : IsReached on_divider at_10
  pub finished : (tally (task_at three.tasks 0) 0 at_10.history).finished ≡ 1
  pub row_2 : Unfinished three.tasks (all_at 0) at_10.history 1 0
  pub row_3 : Unfinished three.tasks (all_at 0) at_10.history 2 0
  pub works_at : works at_10.now.unit ≡ three.admitted
