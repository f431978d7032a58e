-- Periodic tasks, and the time that they ask for.
use Rattle.std.specs.Prelude.{ℕ, ◌+◌, ◌-◌, ◌*◌, ◌/◌, ◌≤◌, List, [], ◌∷◌}

-- A task: a job of at most `work` units is released every `period` ticks, and is due `deadline` ticks after its release.
pub record Task : Type 0 where
  pub period : ℕ
  pub deadline : ℕ
  pub work : ℕ

-- A task that asks for something, in some time, and is due by its next release.
pub record Valid (r : Task) : Type 0 where
  pub some_work : 1 ≤ r.work
  pub some_time : 1 ≤ r.deadline
  pub in_period : r.deadline ≤ r.period

-- What is read past the end of a table.
abbrev pub no_task : Task
no_task = record { period = 1; deadline = 1; work = 1 }

-- a divided by b, rounded up.
abbrev pub cdiv : ℕ → ℕ → ℕ
cdiv a b = (a + (b - 1)) / b

-- The ticks that a job takes at f units a tick.
abbrev pub cost : ℕ → Task → ℕ
cost f r = cdiv r.work f

-- The ticks that the rows ask for in the t ticks after all are released together.
abbrev pub demand : ℕ → List Task → ℕ → ℕ
demand f [] t = 0
demand f (r ∷ rs) t = cost f r * cdiv t r.period + demand f rs t
