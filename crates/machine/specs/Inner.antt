-- Where the rows of a run stand, and how they move.
use Rattle.std.specs.Prelude.{ℕ, ◌+◌, cond, List, [], ◌∷◌, Some, None, Option, nat_le, slice_index_or, slice_set}
use Rattle.queue.specs.declared.Entry.{Entry}
use Rattle.queue.specs.Entries.{sooner}
use Rattle.queue.specs.Order.{ordered}
use Rattle.theory.specs.Tasks.{Task}
use Rattle.machine.specs.declared.job.Job.{Job}
use Rattle.machine.specs.Plans.{task_at}

-- The rows that wait for a release, the earliest first; those that wait for the processor, the smallest first; the active row; and the job of each row.
pub record Inner : Type 0 where
  pub delay : List Entry
  pub queue : List Entry
  pub active : Option ℕ
  pub jobs : List Job

-- A row that waits for a release at tick t.
abbrev pub release_at : ℕ → ℕ → Entry
release_at t i = record { key = t; row = i }

-- A row that waits for the processor: by its priority alone, so that its key is 0.
abbrev pub in_line : ℕ → Entry
in_line i = record { key = 0; row = i }

-- What stands at a place without a job.
abbrev pub no_job : Job
no_job = record { due = 0; next = 0; given = 0 }

abbrev pub job_at : List Job → ℕ → Job
job_at js i = slice_index_or js i no_job

-- The job of a task that is released at tick t, with nothing given.
abbrev pub new_job : Task → ℕ → Job
new_job task t = record { due = t + task.deadline; next = t + task.period; given = 0 }

-- A job with n more units.
abbrev pub given_more : ℕ → Job → Job
given_more n j = record { due = j.due; next = j.next; given = j.given + n }

-- The job of the row i is given n units. No other record changes.
abbrev pub give : ℕ → ℕ → Inner → Inner
give i n s = record {
  delay = s.delay;
  queue = s.queue;
  active = s.active;
  jobs = slice_set s.jobs i (given_more n (job_at s.jobs i));
}

-- The job of the active row i is finished: the row waits for its next release.
abbrev pub finish : ℕ → Inner → Inner
finish i s = record {
  delay = ordered sooner (release_at (job_at s.jobs i).next i) s.delay;
  queue = s.queue;
  active = None;
  jobs = s.jobs;
}

-- Rows of the delay queue whose release is at most n go to the run queue, with new jobs.
abbrev pub released : List Task → ℕ → List Entry → List Entry → Option ℕ → List Job → Inner
released ts n [] q a js = record { delay = []; queue = q; active = a; jobs = js }
released ts n (e ∷ es) q a js =
    cond (nat_le e.key n)
    (released ts n es (ordered sooner (in_line e.row) q) a (slice_set js e.row (new_job (task_at ts e.row) e.key)))
    (record { delay = e ∷ es; queue = q; active = a; jobs = js })

abbrev pub release_due : List Task → ℕ → Inner → Inner
release_due ts n s = released ts n s.delay s.queue s.active s.jobs

-- If there is no active row, or the head of the run queue goes before it, that head becomes active, and the former active row joins the run queue.
abbrev pub elected : List Entry → Option ℕ → Inner → Inner
elected [] a s = s
elected (h ∷ q) None s = record { delay = s.delay; queue = q; active = Some h.row; jobs = s.jobs }
elected (h ∷ q) (Some i) s =
    cond (sooner (in_line i) h) s
    (record { delay = s.delay; queue = ordered sooner (in_line i) q; active = Some h.row; jobs = s.jobs })

abbrev pub elect : Inner → Inner
elect s = elected s.queue s.active s
