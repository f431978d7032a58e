-- What the parts of a settling do, with some lag within the allowance where they ask the unit.
use Rattle.std.specs.Prelude.{◌≡◌, ℕ, ◌-◌, ◌≤◌, Bool, true, false, cond, None, Ok, Err, Option, Result, nat_lt}
use Rattle.fault.specs.declared.Fault.{Fault}
use Rattle.units.specs.Meaning.{Meaning, Nature, works}
use Rattle.machine.specs.Machine.{State, Now, Lags, Within, same, settle, pass, tick, run_active}
use Rattle.machine.specs.Inner.{Inner, job_at}
use Rattle.machine.specs.declared.job.Pace.{Pace}
use Rattle.machine.specs.declared.word.Reply.{Reply}
use Rattle.machine.specs.declared.word.Report.{Report}
use Rattle.machine.specs.declared.word.Word.{Word}
use Rattle.machine.specs.declared.word.Word.TheVariants.{GoOn, Ended}
use Rattle.machine.specs.Plans.{Plan, task_at}
use Rattle.machine.specs.Replies.{reply_of}
use Rattle.machine.specs.Speed.{Speed, window, enough_in, ask_back, rest_or_slow, spared}

-- For some lag within the raise allowance, a value is this function of it.
abbrev pub WithRaise : {X : Type 0} → Nature → (ℕ → X) → X → Type 0
WithRaise x f r = (lag : ℕ) × (lag ≤ x.raise) × (f lag ≡ r)

-- The lowest listed level at which the job of the row i, alone, is done within its window.
abbrev pub level_in_window : Plan → State → ℕ → Option ℕ
level_in_window p st i =
    let j = job_at st.inner.jobs i in
    let w = window st.count st.raise j st.inner.delay in
    cond (nat_lt 0 w) (enough_in w ((task_at p.tasks i).work - j.given) p.levels) None

-- What a state asks of its unit: the admitted level again, if the job that it was slowed for is finished.
abbrev pub AsksBack : Nature → Plan → State → Meaning → Speed → Type 0
AsksBack x p st u v = WithRaise x (λ lag. ask_back x p.admitted lag st.pace u) v

-- A rest or a lower level, of a unit at the admitted level that works.
abbrev pub RestsOrSlows : Nature → Plan → State → Meaning → Speed → Type 0
RestsOrSlows x p st u v = WithRaise x (λ lag. rest_or_slow x p lag st.count st.raise st.wake st.inner.active st.inner.queue st.inner u) v

-- The same of any unit: one that rests, lags or is slowed is asked nothing.
abbrev pub Spares : Nature → Plan → State → Meaning → Speed → Type 0
Spares x p st u v = WithRaise x (λ lag. spared x p lag st.count st.raise st.wake st.inner st.pace u) v

-- A settling.
pub record Settles (x : Nature) (p : Plan) (before after : Now) : Type 0 where
  pub lags : Lags
  pub within : Within x lags
  pub is : settle x p lags before.state before.unit ≡ after

-- The end of a tick.
pub record Passes (x : Nature) (p : Plan) (s : Inner) (pace : Pace) (before after : Now) : Type 0 where
  pub lags : Lags
  pub within : Within x lags
  pub is : pass x p lags s pace before.state before.unit ≡ after

-- The word that a tick is taken by: that the job ended in it, or goes on.
abbrev pub tick_word : Bool → Word
tick_word true = Ended
tick_word false = GoOn

-- A tick in which ended was said, or not.
pub record Ticks (x : Nature) (p : Plan) (said : Bool) (before : Now) (reply : Reply) (after : Now) : Type 0 where
  pub lags : Lags
  pub within : Within x lags
  pub is : tick x p lags said before.state before.unit ≡ record { reply = reply; now = after }

-- Where a tick ends: what is refused changes nothing, and else the unit ticks, the count rises and the run settles.
abbrev pub end_of : Nature → Plan → Lags → Result Report Fault → State → Meaning → Now
end_of x p l (Ok report) st u = pass x p l st.inner st.pace st u
end_of x p l (Err fault) st u = same st u

-- What runs in a tick at a level, up to its end. On any unit that works at this level, and with any lags, the tick has this reply, and it ends from the state after.
abbrev pub Runs : Plan → Bool → ℕ → State → Result Report Fault → State → Type 0
Runs p said level before r after =
    (x : Nature) (l : Lags) (u : Meaning) → works u ≡ level →
    run_active x p l said before.inner.active before u ≡ record { reply = reply_of r; now = end_of x p l r after u }
