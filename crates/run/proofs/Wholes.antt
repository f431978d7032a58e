-- A whole run, put together.
use Rattle.std.proofs.Common.{◌≡◌, ℕ, List, [], ◌∷◌, map, reverse}
use Rattle.tasks.specs.Admission.{LowestInTime, plan_levels, plan_tasks, plan_answers}
use Rattle.tasks.specs.Tables.{levels_of, tasks_of}
use Rattle.tasks.specs.declared.plan.AdmittedPlan.{AdmittedPlan}
use Rattle.tasks.specs.declared.table.OpenTable.{OpenTable}
use Rattle.units.specs.Meaning.{Meaning, Nature, off}
use Rattle.machine.proofs.Promises.{every_run_is_lawful}
use Rattle.machine.specs.declared.word.Event.{Event}
use Rattle.machine.specs.declared.word.Word.{Word}
use Rattle.machine.specs.History.{History}
use Rattle.machine.specs.Machine.{Now, numbers}
use Rattle.machine.specs.Plans.{Plan}
use Rattle.machine.specs.Promises.{NoJobLate}
use Rattle.machine.specs.Reached.{Began, Reached}
use Rattle.run.specs.declared.record.Record.{Record}
use Rattle.run.specs.Views.{plan_of}
use Rattle.run.specs.Whole.{Operated, Throughout, plan_at, history}

-- No job is late at any moment on the way to what is reached.
on_time_throughout : (x : Nature) (p : Plan) (starts : List ℕ) (u : Meaning) (h : History) (now : Now) → Reached x p starts u h now → Throughout (NoJobLate x p starts) h
on_time_throughout x p starts u [] now r = (every_run_is_lawful x p starts u [] now r).on_time
on_time_throughout x p starts u (e ∷ h) now (before, r, said) =
    ((every_run_is_lawful x p starts u (e ∷ h) now (before, r, said)).on_time, on_time_throughout x p starts u h before r)

-- The begin of a history was accepted.
began_accepted : (x : Nature) (p : Plan) (starts : List ℕ) (u : Meaning) (h : History) (now : Now) → Reached x p starts u h now → (first : Now) × Began x p starts u first
began_accepted x p starts u [] now r = (now, r)
began_accepted x p starts u (e ∷ h) now (before, r, said) = began_accepted x p starts u h before r

-- A table that is admitted, and a history that is reached from the begin of its plan, are a whole run.
pub operated : (x : Nature) (t : OpenTable) (starts : List ℕ) (u : Meaning) (words : List Word) (plan : AdmittedPlan) (r : Record) (last : Now) →
    plan_levels plan ≡ levels_of t → plan_tasks plan ≡ tasks_of t → r.level ≡ plan.level → LowestInTime (levels_of t) (tasks_of t) plan.level (plan_answers plan) →
    map (λ e. e.word) r.events.items ≡ words → Reached x (plan_of plan) starts u (history r) last → r.end ≡ numbers off → Operated x t starts u words r
operated x t starts u words plan r last levels tasks level low said reached end =
    let same : plan_of plan ≡ plan_at t r.level = simp (levels, tasks, level) in
    let here = rw same at reached in
    record {
      lowest = (plan_answers plan, rw level low);
      accepted = (began_accepted x (plan_at t r.level) starts u (history r) last here).1.accepted;
      said = said;
      reached = (last, here);
      on_time = on_time_throughout x (plan_at t r.level) starts u (history r) last here;
      any_other = every_run_is_lawful x (plan_at t r.level) starts u;
      off = end;
    }

-- What words lead to from a run without events is reached from the begin of that run.
pub from_begin : (x x₁ : Nature) (plan plan₁ : AdmittedPlan) (starts : List ℕ) (u : Meaning) (none events : List Event) (first last : Now) → x₁ ≡ x → plan₁ ≡ plan → none ≡ [] →
    ((s : List ℕ) (m : Meaning) → Reached x₁ (plan_of plan₁) s m (reverse none) first → Reached x₁ (plan_of plan₁) s m (reverse events) last) →
    Began x (plan_of plan) starts u first → Reached x (plan_of plan) starts u (reverse events) last
from_begin x x₁ plan plan₁ starts u none events first last fixed same empty goes = rw (fixed, same, empty) at (goes starts u)
