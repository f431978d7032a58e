-- The run tick by tick: settling, and what each word does. The lags that the unit chooses are arguments.
use Rattle.std.specs.Prelude.{ℕ, suc, ◌+◌, ◌-◌, ◌≤◌, min, Bool, true, false, cond, ◌||◌, List, Some, None, Option, ◌==◌, nat_eq, nat_le}
use Rattle.fault.specs.declared.Refusal.TheVariants.{CountFull, NothingGiven}
use Rattle.fault.specs.Faults.{fault_at}
use Rattle.units.specs.declared.unit.Standing.{Standing as Numbers}
use Rattle.units.specs.Calls.{tick_with}
use Rattle.units.specs.Meaning.{Meaning, Nature, works}
use Rattle.machine.specs.declared.job.Job.{Job}
use Rattle.machine.specs.declared.job.Pace.{Pace}
use Rattle.machine.specs.declared.job.Pace.TheVariants.{Full, Slowed, Over}
use Rattle.machine.specs.declared.word.Outcome.{Outcome}
use Rattle.machine.specs.declared.word.Outcome.TheVariants.{Going, Ended as AtEnd, Spent}
use Rattle.machine.specs.declared.word.Reply.{Reply}
use Rattle.machine.specs.declared.word.Reply.TheVariants.{Ran, Stands, Refused}
use Rattle.machine.specs.declared.word.Word.{Word}
use Rattle.machine.specs.declared.word.Word.TheVariants.{GoOn, Ended, Standing}
use Rattle.machine.specs.Inner.{Inner, job_at, give, finish, release_due, elect}
use Rattle.machine.specs.Plans.{Plan, task_at}
use Rattle.machine.specs.Speed.{ask_back, spared}

-- The ticks since begin, the rows, whether the unit is slowed, and the allowances that begin found.
pub record State : Type 0 where
  pub count : ℕ
  pub inner : Inner
  pub pace : Pace
  pub raise : ℕ
  pub wake : ℕ

pub record Now : Type 0 where
  pub state : State
  pub unit : Meaning

-- The lags that the unit takes in one call, if it takes any: when the admitted level is asked for, when a lower one is, and at the end of a rest.
pub record Lags : Type 0 where
  pub back : ℕ
  pub slowed : ℕ
  pub woken : ℕ

pub record Within (x : Nature) (l : Lags) : Type 0 where
  pub back : l.back ≤ x.raise
  pub slowed : l.slowed ≤ x.raise
  pub woken : l.woken ≤ x.wake

-- Settling: releases, the choice of the active row, the admitted level again, then rest or a lower level.
abbrev pub settle : Nature → Plan → Lags → State → Meaning → Now
settle x p l st u =
    let s = elect (release_due p.tasks st.count st.inner) in
    let v = ask_back x p.admitted l.back st.pace u in
    let w = spared x p l.slowed st.count st.raise st.wake s v.pace v.unit in
    record { state = record { count = st.count; inner = s; pace = w.pace; raise = st.raise; wake = st.wake }; unit = w.unit }

-- The end of a tick: the unit ticks, the count rises by 1, and the run settles.
abbrev pub pass : Nature → Plan → Lags → Inner → Pace → State → Meaning → Now
pass x p l s pace st u =
    settle x p l (record { count = suc st.count; inner = s; pace = pace; raise = st.raise; wake = st.wake }) (tick_with l.woken u)

-- What a call replies, and what it leaves.
pub record Result : Type 0 where
  pub reply : Reply
  pub now : Now

abbrev pub same : State → Meaning → Now
same st u = record { state = st; unit = u }

-- How a tick leaves the job that ran: what was said comes first.
abbrev pub outcome_of : Bool → Bool → Outcome
outcome_of said whole = cond said AtEnd (cond whole Spent Going)

-- The pace once the job of the row i is finished.
abbrev pub pace_after : ℕ → Pace → Pace
pace_after i Full = Full
pace_after i (Slowed k) = cond (k == i) Over (Slowed k)
pace_after i Over = Over

-- The job of the active row i is given what the unit does in a tick, or what remains of its work. It is finished if that was said, or if it has the whole work.
abbrev pub run_row : Nature → Plan → Lags → Bool → ℕ → State → Meaning → Result
run_row x p l said i st u =
    let t = task_at p.tasks i in
    let g = (job_at st.inner.jobs i).given in
    let n = min (works u) (t.work - g) in
    let s = give i n st.inner in
    let whole = nat_eq (g + n) t.work in
    record {
      reply = Ran (record { row = suc i; level = works u; units = n; outcome = outcome_of said whole });
      now = cond (said || whole) (pass x p l (finish i s) (pace_after i st.pace) st u) (pass x p l s st.pace st u);
    }

-- No row runs in this tick, so none can have ended in it.
abbrev pub run_none : Nature → Plan → Lags → Bool → State → Meaning → Result
run_none x p l said st u =
    cond said (record { reply = Refused (fault_at NothingGiven 0 0); now = same st u })
    (record { reply = Ran (record { row = 0; level = 0; units = 0; outcome = Going }); now = pass x p l st.inner st.pace st u })

abbrev pub run_active : Nature → Plan → Lags → Bool → Option ℕ → State → Meaning → Result
run_active x p l said None st u = run_none x p l said st u
run_active x p l said (Some i) st u = cond (works u == 0) (run_none x p l said st u) (run_row x p l said i st u)

-- A tick, unless the count is at its end.
abbrev pub tick : Nature → Plan → Lags → Bool → State → Meaning → Result
tick x p l said st u =
    cond (nat_le 1000000000 st.count) (record { reply = Refused (fault_at CountFull 0 0); now = same st u }) (run_active x p l said st.inner.active st u)

-- The number of the active row, and the units that its job was given; 0 for none.
abbrev pub row_number : Option ℕ → ℕ
row_number None = 0
row_number (Some i) = suc i

abbrev pub given_to : List Job → Option ℕ → ℕ
given_to js None = 0
given_to js (Some i) = (job_at js i).given

abbrev pub numbers : Meaning → Numbers
numbers u = record { asked = u.asked; lag = u.lag; rest = u.rest }

abbrev pub standing_of : State → Meaning → Reply
standing_of st u =
    Stands (record { count = st.count; row = row_number st.inner.active; given = given_to st.inner.jobs st.inner.active; unit = numbers u })

-- What a word does.
abbrev pub step : Nature → Plan → Word → Lags → State → Meaning → Result
step x p GoOn l st u = tick x p l false st u
step x p Ended l st u = tick x p l true st u
step x p Standing l st u = record { reply = standing_of st u; now = same st u }
