-- The parts of a settling, and of the end of a tick, put together.
use Rattle.std.proofs.Common.{◌≡◌, ℕ, ◌+◌, ◌<◌, ◌≤◌, Bool, true, false, Err, sym, ap, ◌∙◌, add-one, arith}
use Rattle.std.specs.Prelude
use Rattle.std.proofs.lemmas.Bool.{le-leb, lt-leb}
use Rattle.fault.specs.declared.Fault.{Fault}
use Rattle.fault.specs.declared.Refusal.TheVariants.{CountFull}
use Rattle.fault.specs.Faults.{fault_at}
use Rattle.units.proofs.Calls.{tick_is}
use Rattle.units.specs.Meaning.{Meaning, Nature, Ticked, works}
use Rattle.machine.specs.declared.job.Pace.{Pace}
use Rattle.machine.specs.declared.word.Reply.{Reply}
use Rattle.machine.specs.declared.word.Reply.TheVariants.{Stands, Refused}
use Rattle.machine.specs.declared.word.Report.{Report}
use Rattle.machine.specs.declared.word.RunStanding.{RunStanding}
use Rattle.machine.specs.declared.word.Word.TheVariants.{Standing}
use Rattle.machine.specs.Inner.{Inner, release_due, elect}
use Rattle.machine.specs.Machine.{State, Now, Lags, Within, standing_of}
use Rattle.machine.specs.Plans.{Plan}
use Rattle.machine.specs.Reached.{Said}
use Rattle.machine.specs.Replies.{reply_of}
use Rattle.run.specs.Steps.{AsksBack, Spares, Settles, Passes, Runs, Ticks, tick_word}

-- A state with other rows and another pace.
abbrev at_rows : State → Inner → Pace → State
at_rows st s v = record { count = st.count; inner = s; pace = v; raise = st.raise; wake = st.wake }

-- Releases, an election, the admitted level again, and rest or a lower level are a settling.
pub settles : (x x₁ : Nature) (p : Plan) (st : State) (u u₁ u₂ : Meaning) (s₁ s₂ : Inner) (v w : Pace) →
    s₁ ≡ release_due p.tasks st.count st.inner → s₂ ≡ elect s₁ →
    AsksBack x p (at_rows st s₂ st.pace) u (record { pace = v; unit = u₁ }) → x₁ ≡ x →
    Spares x₁ p (at_rows st s₂ v) u₁ (record { pace = w; unit = u₂ }) →
    Settles x p (record { state = st; unit = u }) (record { state = at_rows st s₂ w; unit = u₂ })
settles x x₁ p st u u₁ u₂ s₁ s₂ v w released elected (back, low, asked) fixed spares₁ =
    let (slowed, low', spares) = rw fixed at spares₁ in
    let after : Inner = elect (release_due p.tasks st.count st.inner) in
    let same : after ≡ s₂ = sym (elected ∙ ap elect released) in
    record {
      lags = record { back = back; slowed = slowed; woken = 0 };
      within = record { back = low; slowed = low'; woken = omega arith };
      is = simp (asked, same, spares);
    }

-- A state with another count.
abbrev at_count : State → ℕ → State
at_count st n = record { count = n; inner = st.inner; pace = st.pace; raise = st.raise; wake = st.wake }

-- A tick of the unit, a higher count and a settling are the end of a tick.
pub passes : (x x₁ : Nature) (p : Plan) (st : State) (u u₁ : Meaning) (after : Now) → Ticked x u u₁ → x₁ ≡ x →
    Settles x₁ p (record { state = at_count st (st.count + 1); unit = u₁ }) after →
    Passes x p st.inner st.pace (record { state = st; unit = u }) after
passes x x₁ p st u u₁ after ticked fixed settles₁ =
    let (lag, low, is) = (tick_is x u u₁).0 ticked in
    let settled = rw fixed at settles₁ in
    let l : Lags = record { back = settled.lags.back; slowed = settled.lags.slowed; woken = lag } in
    record {
      lags = l;
      within = record { back = settled.within.back; slowed = settled.within.slowed; woken = low };
      is = rw (← is, ← add-one st.count) settled.is;
    }

-- A call in which the unit takes no lag.
abbrev no_lags : Lags
no_lags = record { back = 0; slowed = 0; woken = 0 }

no_lags_within : (x : Nature) → Within x no_lags
no_lags_within x = record { back = omega arith; slowed = omega arith; woken = omega arith }

-- What is refused in a tick changes nothing.
pub refused : (x : Nature) (p : Plan) (said : Bool) (level : ℕ) (st st₁ : State) (u : Meaning) (f : Fault) (r : Prelude.Result Report Fault) → st.count < 1000000000 →
    works u ≡ level → Runs p said level st (Err f) st₁ → r ≡ Err f → Ticks x p said (record { state = st; unit = u }) (reply_of r) (record { state = st₁; unit = u })
refused x p said level st st₁ u f r room at runs is = record {
  lags = no_lags;
  within = no_lags_within x;
  is = simp (lt-leb 1000000000 st.count room, runs x no_lags u at, is);
}

-- At the last count every tick is refused and nothing changes.
pub count_full : (x : Nature) (p : Plan) (said : Bool) (now : Now) (f : Fault) → 1000000000 ≤ now.state.count → f ≡ fault_at CountFull 0 0 → Ticks x p said now (Refused f) now
count_full x p said now f last is = record {
  lags = no_lags;
  within = no_lags_within x;
  is = simp (le-leb 1000000000 now.state.count last, is);
}

-- A tick is what is done for its word.
pub ticked_by : (x : Nature) (p : Plan) (said : Bool) (before : Now) (reply : Reply) (after : Now) → Ticks x p said before reply after → Said x p (tick_word said) before reply after
ticked_by x p true before reply after t = record { lags = t.lags; within = t.within; is = t.is }
ticked_by x p false before reply after t = record { lags = t.lags; within = t.within; is = t.is }

-- The question where the run stands changes nothing.
pub stood_by : (x : Nature) (p : Plan) (now : Now) (r : RunStanding) → Stands r ≡ standing_of now.state now.unit → Said x p Standing now (Stands r) now
stood_by x p now r is = record { lags = no_lags; within = no_lags_within x; is = simp is }
