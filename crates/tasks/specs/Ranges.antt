-- The ranges of a task's numbers.
use Rattle.std.specs.Prelude.{ℕ, Bool, cond, ◌&&◌, Some, None, Option, nat_le}
use Rattle.fault.specs.declared.Refusal.{Refusal}
use Rattle.fault.specs.declared.Refusal.TheVariants.{BadPeriod, BadDeadline, BadWork}

-- n is from 1 to the given number.
abbrev pub one_to : ℕ → ℕ → Bool
one_to most n = nat_le 1 n && nat_le n most

-- The first number of a task that is out of its range.
abbrev pub task_refusal : ℕ → ℕ → ℕ → Option Refusal
task_refusal period deadline work =
    cond (one_to 65535 period) (cond (one_to period deadline) (cond (one_to 16000000 work) None (Some BadWork)) (Some BadDeadline)) (Some BadPeriod)
