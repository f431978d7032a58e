-- The records of the jobs fit the theory's rows and what the history tells: after a release, after units, and at a job's end.
use Rattle.std.proofs.Common.{◌≡◌, ℕ, suc, ◌+◌, ◌-◌, ◌*◌, ◌<◌, ◌≤◌, Bool, false, ◌≢◌, List, length, get_or, set, sym, refl, subst, arith, rules}
use Rattle.theory.specs.Tasks.{Task, Valid}
use Rattle.theory.specs.Ticks.{Row, fresh, given, tasks}
use Rattle.machine.specs.declared.job.Job.{Job}
use Rattle.machine.specs.History.{Tally}
use Rattle.machine.specs.Inner.{given_more, job_at, new_job}
use Rattle.machine.specs.Plans.{task_at}
use Rattle.machine.proofs.Rows.{row_at, tasks_set, task_is}
use Rattle.machine.proofs.Shape.{Waits}

-- An unfinished job: a is the row's first release, c what the history tells of the row, j the job's record, and r the theory's row.
pub record Lives (a : ℕ) (c : Tally) (j : Job) (r : Row) : Type 0 where
  pub left : r.rem + j.given ≡ r.task.work
  pub due : r.due ≡ j.due
  pub next : r.next ≡ j.next
  pub due_is : j.due ≡ a + c.finished * r.task.period + r.task.deadline
  pub next_is : j.next ≡ a + c.finished * r.task.period + r.task.period
  pub units : c.units ≡ j.given

-- A row that waits, or has an unfinished job.
pub record Fits (a : ℕ) (c : Tally) (j : Job) (r : Row) : Type 0 where
  pub waits : r.rem ≡ 0 → (r.next ≡ a + c.finished * r.task.period) × (c.units ≡ 0)
  pub lives : 0 < r.rem → Lives a c j r

-- The rows have the tasks of the table, and each fits.
pub record Kept (ts : List Task) (first : List ℕ) (c : ℕ → Tally) (js : List Job) (rows : List Row) : Type 0 where
  pub table : tasks rows ≡ ts
  pub size : length rows ≤ length js
  pub fits : (k : ℕ) → k < length rows → Fits (get_or first k 0) (c k) (job_at js k) (row_at rows k)

-- Where the history tells the same of each row, the records still fit.
pub kept_told : (ts : List Task) (first : List ℕ) (c c' : ℕ → Tally) (js : List Job) (rows : List Row) → ((k : ℕ) → c' k ≡ c k) → Kept ts first c js rows → Kept ts first c' js rows
kept_told ts first c c' js rows e kept = grind arith

-- A write to a row and its record that keeps the task and fits keeps the records, where the history tells the same of the other rows.
kept_set : (ts : List Task) (first : List ℕ) (c c' : ℕ → Tally) (js : List Job) (rows : List Row) (i : ℕ) (j : Job) (v : Row) → ((k : ℕ) → k ≢ i → c' k ≡ c k) →
    v.task ≡ (row_at rows i).task → Fits (get_or first i 0) (c' i) j v → Kept ts first c js rows → Kept ts first c' (set js i j) (set rows i v)
kept_set ts first c c' js rows i j v others same here kept = search (rules, tasks_set)

-- A release at tick n, where the row waits for it, keeps the records.
pub kept_pop : (n t : ℕ) (ts : List Task) (first : List ℕ) (c : ℕ → Tally) (js : List Job) (rows : List Row) (i : ℕ) → Valid (row_at rows i).task → i < length rows →
    Waits n (row_at rows i) → t ≡ n → Kept ts first c js rows →
    Kept ts first c (set js i (new_job (task_at ts i) t)) (set rows i (fresh n (row_at rows i)))
kept_pop n t ts first c js rows i valid hi w tn kept =
    kept_set ts first c c js rows i (new_job (task_at ts i) t) (fresh n (row_at rows i)) (λ _ _. refl) refl (grind (arith, task_is)) kept

module _ (ts : List Task) (first : List ℕ) (c c' : ℕ → Tally) (js : List Job) (rows : List Row) (i m lv : ℕ) (said : Bool)
    (kept : Kept ts first c js rows) (hi : i < length rows) (pos : 0 < (row_at rows i).rem) (others : (k : ℕ) → k ≢ i → c' k ≡ c k) where
  -- The row, its record after it was given the units, and the row then.
  abbrev r : Row
  r = row_at rows i

  abbrev j : Job
  j = given_more m (job_at js i)

  abbrev v : Row
  v = given lv said r

  -- The job that is given units is unfinished.
  live : Lives (get_or first i 0) (c i) (job_at js i) r
  live = (kept.fits i hi).lives pos

  -- Units for a job that goes on keep the records.
  pub kept_on : m ≡ lv → said ≡ false → lv < r.rem → c' i ≡ record { finished = (c i).finished; units = (c i).units + m } →
      Kept ts first c' (set js i j) (set rows i v)
  kept_on em es more told =
      let old = live in
      let left : v.rem ≡ r.rem - lv = grind arith in kept_set ts first c c' js rows i j v others refl (grind arith) kept

  -- The end of a job keeps the records.
  pub kept_end : v.rem ≡ 0 → c' i ≡ record { finished = suc (c i).finished; units = 0 } → Kept ts first c' (set js i j) (set rows i v)
  kept_end z told =
      let old = live in
      kept_set ts first c c' js rows i j v others refl (subst (λ (y : Tally). Fits (get_or first i 0) y j v) (sym told) (grind arith)) kept
