-- Admission: what it answers, and what the answer means for the jobs.
use Rattle.std.specs.Prelude.{◌≡◌, ℕ, ◌-◌, ◌<◌, Bool, cond, ◌&&◌, ◌||◌, ◌⊎◌, List, [], map, length, Some, None, Ok, Err, Option, Result, ◌==◌, nat_le, slice_index_or}
use Rattle.std.specs.Option.{ok_or}
use Rattle.fault.specs.declared.Fault.{Fault}
use Rattle.fault.specs.declared.Refusal.{Refusal}
use Rattle.fault.specs.declared.Refusal.TheVariants.{BadCount, NoLevelPasses}
use Rattle.fault.specs.Faults.{fault_at}
use Rattle.theory.specs.Lists.{In}
use Rattle.theory.specs.Tasks.{Task}
use Rattle.theory.specs.Test.{answers, lowest, first_failing}
use Rattle.theory.specs.Theorems.{Schedulable}
use Rattle.theory.specs.Ticks.{PlainRunLate}
use Rattle.tasks.specs.declared.back.Back.{Back}
use Rattle.tasks.specs.declared.plan.AdmittedPlan.{AdmittedPlan}
use Rattle.tasks.specs.declared.table.OpenTable.{OpenTable}
use Rattle.tasks.specs.Levels.{top}
use Rattle.tasks.specs.Tables.{task_of, point_demand, listed}

-- The levels, the tasks and the answers of a plan, in their order.
abbrev pub plan_levels : AdmittedPlan → List ℕ
plan_levels p = listed p.levels

abbrev pub plan_tasks : AdmittedPlan → List Task
plan_tasks p = map task_of p.tasks.items

abbrev pub plan_answers : AdmittedPlan → List (ℕ × ℕ)
plan_answers p = map point_demand p.answers.items

-- The answer of a row, from row 1 on; none where there is no such row.
abbrev pub at_row : List (ℕ × ℕ) → ℕ → Option (ℕ × ℕ)
at_row found row = cond (nat_le 1 row && nat_le row (length found)) (Some (slice_index_or found (row - 1) (0, 0))) None

-- Whether there are no levels, or no tasks.
abbrev pub some_empty : List ℕ → List Task → Bool
some_empty levels tasks = length levels == 0 || length tasks == 0

-- What admission answers: the lowest listed level that passes, with the answers of the rows there; or why there is none.
abbrev pub admission : List ℕ → List Task → Result (ℕ × List (ℕ × ℕ)) Fault
admission levels tasks =
    cond (some_empty levels tasks) (Err (fault_at BadCount 0 0))
    (ok_or (lowest levels tasks) (fault_at NoLevelPasses 0 (first_failing (top levels) tasks)))

-- f is the lowest listed level that keeps every deadline. It is listed and every row passes there, with the answers found;
-- no job is ever late at f, from any first releases and with any jobs that end early; and at every lower listed level the
-- plain run leaves a job unfinished at its deadline.
pub record LowestInTime (levels : List ℕ) (tasks : List Task) (f : ℕ) (found : List (ℕ × ℕ)) : Type 0 where
  pub is_listed : In f levels
  pub passes : answers f [] tasks ≡ Some found
  pub on_time : Schedulable f tasks
  pub lower_late : (g : ℕ) → In g levels → g < f → PlainRunLate g tasks

-- There are no levels, or no tasks.
abbrev pub SomeEmpty : List ℕ → List Task → Type 0
SomeEmpty levels tasks = (levels ≡ []) ⊎ (tasks ≡ [])

-- There are levels and tasks, and at every listed level the plain run leaves a job unfinished at its deadline.
abbrev pub EveryLevelLate : List ℕ → List Task → Type 0
EveryLevelLate levels tasks = (¬ (SomeEmpty levels tasks)) × ((g : ℕ) → In g levels → PlainRunLate g tasks)

-- Admission is refused for the given reason.
abbrev pub RefusedBy : Refusal → Result AdmittedPlan (Back OpenTable) → Type 0
RefusedBy why (Ok p) = ⊥
RefusedBy why (Err b) = b.fault.refusal ≡ why
