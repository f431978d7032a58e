-- Rows by their place, for the functions inside this crate.
use Rattle.std.specs.Prelude.{ℕ, ◌+◌, cond, List, map, Some, Option, nat_le}
use Rattle.std.specs.Option.{option_map}
use Rattle.fault.specs.declared.Fault.{Fault}
use Rattle.fault.specs.declared.Refusal.TheVariants.{BadCount}
use Rattle.fault.specs.Faults.{fault_at}
use Rattle.theory.specs.Tasks.{Task}
use Rattle.tasks.specs.declared.passing.Passing.{Passing}
use Rattle.tasks.specs.Ranges.{task_refusal}
use Rattle.tasks.specs.Tables.{point_demand}

-- Why a task is not taken after so many others: it is `task_fault` of a table with so many tasks.
abbrev pub after_fault : ℕ → ℕ → Task → Option Fault
after_fault line count t =
    cond (nat_le 32 count) (Some (fault_at BadCount line 0)) (option_map (λ why. fault_at why line (count + 1)) (task_refusal t.period t.deadline t.work))

-- The level and the answers that the search found.
abbrev pub level_answers : Passing → ℕ × List (ℕ × ℕ)
level_answers f = (f.level, map point_demand f.answers.items)
