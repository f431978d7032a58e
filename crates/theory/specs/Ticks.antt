-- The rows at run time, tick by tick, at one level: jobs are released, and the first row with an unfinished job is served.
use Rattle.std.specs.Prelude.{◌≡◌, ℕ, zero, suc, ◌+◌, ◌-◌, ◌<◌, ◌≤◌, Bool, false, cond, List, [], ◌∷◌, map, ◌==◌}
use Rattle.theory.specs.Lists.{Any}
use Rattle.theory.specs.Tasks.{Task}

-- A row at run time: the units left of its unfinished job (0 where it has none), the tick at which that job is due, and
-- the tick of its next release.
pub record Row : Type 0 where
  pub task : Task
  pub rem : ℕ
  pub due : ℕ
  pub next : ℕ

-- A job of the row is released at tick n.
abbrev pub fresh : ℕ → Row → Row
fresh n r = record { task = r.task; rem = r.task.work; due = n + r.task.deadline; next = n + r.task.period }

abbrev pub released : ℕ → Row → Row
released n r = cond (r.next == n) (fresh n r) r

-- The row's job gets f units, or ends early.
abbrev pub given : ℕ → Bool → Row → Row
given f early r = record { task = r.task; rem = cond early 0 (r.rem - f); due = r.due; next = r.next }

-- The first row with an unfinished job is served.
abbrev pub serve : ℕ → Bool → List Row → List Row
serve f early [] = []
serve f early (r ∷ rs) = cond (r.rem == 0) (r ∷ serve f early rs) (given f early r ∷ rs)

-- From tick n, before its releases, to tick n + 1, before its releases.
abbrev pub tick : ℕ → Bool → ℕ → List Row → List Row
tick f early n rows = serve f early (map (released n) rows)

-- The rows k ticks after tick n; `early` says at which ticks the job that is served ends early.
abbrev pub run : ℕ → (ℕ → Bool) → ℕ → ℕ → List Row → List Row
run f early zero n rows = rows
run f early (suc k) n rows = run f early k (suc n) (tick f (early n) n rows)

-- At tick n the row has a job that is unfinished at its deadline, or after it. It is looked at before the releases of n.
abbrev pub Late : ℕ → Row → Type 0
Late n r = (0 < r.rem) × (r.due ≤ n)

-- At the start, tick n, the row has no unfinished job, and its first release is at n or later.
abbrev pub Starts : ℕ → Row → Type 0
Starts n r = (r.rem ≡ 0) × (n ≤ r.next)

-- The rows' tasks.
abbrev pub tasks : List Row → List Task
tasks rows = map (λ r. r.task) rows

-- A row before its first release, which is at tick 0.
abbrev pub at_rest : Task → Row
at_rest t = record { task = t; rem = 0; due = 0; next = 0 }

-- The plain run at level f: every row is released at tick 0, and every job takes its whole work. The rows at tick k.
abbrev pub plain : ℕ → ℕ → List Task → List Row
plain f k table = run f (λ _. false) k 0 (map at_rest table)

-- The plain run at level f leaves a job unfinished at its deadline.
abbrev pub PlainRunLate : ℕ → List Task → Type 0
PlainRunLate f table = (k : ℕ) × Any (Late k) (plain f k table)
