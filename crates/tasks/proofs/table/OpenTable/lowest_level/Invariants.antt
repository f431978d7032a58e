use Rattle.std.proofs.Common.{◌≡◌, ◌+◌, ◌-◌, ◌<◌, ◌≤◌, length, get_or, take, drop}
use Rattle.theory.specs.Search.{NoneBelow}
use Rattle.theory.specs.Test.{lowest, first_failing}
use Rattle.tasks.specs.Tables.{task_of, levels_of, tasks_of}
use Rattle.tasks.proofs.OneRow.{RowsPass}
use Rattle.tasks.proofs.table.OpenTable.lowest_level.Given as goal

-- no point of the row below `from` passes
abbrev pub invariant-points : goal.invariant-points
invariant-points l = (1 ≤ l.from) × NoneBelow l.level (take l.task-index (tasks_of l.self)) (task_of l.task) l.from

abbrev pub decreases-points : goal.decreases-points
decreases-points l = l.task.deadline + 1 - l.from

-- the rows so far pass
abbrev pub invariant-rows : goal.invariant-rows
invariant-rows l = RowsPass l.level (tasks_of l.self) l.task-index l.ahead l.answers.items l.loads.items

-- the levels so far do not pass, and at the last of them the answers are those of the rows before the first that fails
abbrev pub invariant-levels : goal.invariant-levels
invariant-levels l =
    record {
      few : length l.answers.items ≤ 32;
      on : lowest (drop l.level-index l.level-items) (tasks_of l.self) ≡ lowest (levels_of l.self) (tasks_of l.self);
      failed : 0 < l.level-index → length l.answers.items + 1 ≡ first_failing (get_or l.level-items (l.level-index - 1) 0) (tasks_of l.self);
    }
