-- The tasks of a table as the theory has them, and what adding to a table does.
use Rattle.std.specs.Prelude.{◌≡◌, ℕ, ◌+◌, cond, List, [], ◌∷◌, ◌++◌, map, length, Some, None, Ok, Err, Option, Result, nat_le}
use Rattle.std.specs.Option.{option_map}
use Rattle.fault.specs.declared.Fault.{Fault}
use Rattle.fault.specs.declared.Refusal.TheVariants.{BadCount}
use Rattle.fault.specs.Faults.{fault_at}
use Rattle.theory.specs.Tasks as theory
use Rattle.tasks.specs.declared.answer.Answer.{Answer}
use Rattle.tasks.specs.declared.level_list.LevelList.{LevelList}
use Rattle.tasks.specs.declared.table.OpenTable.{OpenTable}
use Rattle.tasks.specs.declared.task.Task.{Task}
use Rattle.tasks.specs.Ranges.{task_refusal}

-- The task with these numbers.
abbrev pub numbers : ℕ → ℕ → ℕ → theory.Task
numbers period deadline work = record { period = period; deadline = deadline; work = work }

-- A task of the code, by its numbers.
abbrev pub task_of : Task → theory.Task
task_of t = numbers t.period t.deadline t.work

-- An answer of the code, by its point and its demand.
abbrev pub point_demand : Answer → ℕ × ℕ
point_demand a = (a.point, a.demand)

-- The level that a search found, 0 where it found none, and the answers there.
abbrev pub found_level : Option (ℕ × List (ℕ × ℕ)) → ℕ
found_level None = 0
found_level (Some x) = x.0

abbrev pub found_answers : Option (ℕ × List (ℕ × ℕ)) → List (ℕ × ℕ)
found_answers None = []
found_answers (Some x) = x.1

-- The levels of a list, in their order.
abbrev pub listed : LevelList → List ℕ
listed l = l.levels.items

-- The levels and the tasks of a table, in their order.
abbrev pub levels_of : OpenTable → List ℕ
levels_of t = listed t.levels

abbrev pub tasks_of : OpenTable → List theory.Task
tasks_of t = map task_of t.tasks.items

-- Why a task is not taken into a table that has these tasks: the table is full, or a number is out of its range.
-- `line` is the line of the sheet that has it, 0 outside a sheet.
abbrev pub task_fault : ℕ → List theory.Task → theory.Task → Option Fault
task_fault line tasks t =
    cond (nat_le 32 (length tasks)) (Some (fault_at BadCount line 0))
    (option_map (λ why. fault_at why line (length tasks + 1)) (task_refusal t.period t.deadline t.work))

-- A list takes x at its end, where there is no fault; else the fault is the answer, and the list stays as it was.
abbrev pub Adds : {X : Type 0} → Option Fault → List X → X → List X → Result (Unit {0}) Fault → Type 0
Adds fault before x after (Ok _) = (fault ≡ None) × (after ≡ before ++ (x ∷ []))
Adds fault before x after (Err e) = (fault ≡ Some e) × (after ≡ before)
