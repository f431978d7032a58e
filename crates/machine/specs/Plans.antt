-- What a run is made for.
use Rattle.std.specs.Prelude.{ℕ, ◌≤◌, List, length, slice_index_or}
use Rattle.theory.specs.Lists.{All, In}
use Rattle.theory.specs.Tasks.{Task, Valid, no_task}
use Rattle.theory.specs.Theorems.{EveryRowFits}

-- The tasks, row 1 first; the listed levels; and the admitted one.
pub record Plan : Type 0 where
  pub tasks : List Task
  pub levels : List ℕ
  pub admitted : ℕ

-- The task of a row. Rows count from 0 in the definitions; an answer has a row's number, from 1.
abbrev pub task_at : List Task → ℕ → Task
task_at ts i = slice_index_or ts i no_task

-- What holds of every admitted plan: its rows are valid and few, and every one fits in time at its level, which is listed.
pub record Planned (p : Plan) : Type 0 where
  pub valid : All Valid p.tasks
  pub few : length p.tasks ≤ 32
  pub level : 1 ≤ p.admitted
  pub listed : In p.admitted p.levels
  pub fits : EveryRowFits p.admitted p.tasks
