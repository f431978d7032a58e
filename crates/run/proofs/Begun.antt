-- An accepted begin.
use Rattle.std.proofs.Common.{◌≡◌, ℕ, true, List, [], replicate, None, ap, ◌∙◌, arith}
use Rattle.units.specs.Calls.{ask_with}
use Rattle.units.specs.Meaning.{Meaning, Nature}
use Rattle.machine.proofs.Accepted.{accepted}
use Rattle.machine.specs.Begin.{begin_fault, firsts, put_all, opening}
use Rattle.machine.specs.declared.job.Pace.TheVariants.{Full}
use Rattle.machine.specs.Inner.{Inner, no_job}
use Rattle.machine.specs.Machine.{State, Now, Lags, settle}
use Rattle.machine.specs.Plans.{Plan, Planned}
use Rattle.machine.specs.Reached.{Began}
use Rattle.machine.specs.Speed.{may_ask}
use Rattle.run.specs.Steps.{WithRaise, Settles}

-- The admitted level may be asked for.
pub may_begin : (x : Nature) (p : Plan) (starts : List ℕ) (u : Meaning) → Planned p → begin_fault x p starts u ≡ None → may_ask x p.admitted u ≡ true
may_begin x p starts u planned h = let a = accepted x p starts u planned h in simp (a.rest, a.lag, a.takes)

-- Every row in the delay queue, with the allowances of the unit, is the opening.
pub opens : (x : Nature) (p : Plan) (starts : List ℕ) (s : Inner) (r w : ℕ) → r ≡ x.raise → w ≡ x.wake →
    s ≡ record { delay = put_all 0 (firsts r p.tasks starts) []; queue = []; active = None; jobs = replicate 32 no_job } →
    record { count = 0; inner = s; pace = Full; raise = r; wake = w } ≡ opening x p starts
opens x p starts s r w raise wake rows = simp (rows, raise, wake)

-- The admitted level asked for at the opening, and a settling, are a begin.
pub begins : (x x₁ : Nature) (p : Plan) (starts : List ℕ) (u u₁ : Meaning) (st : State) (after : Now) → Planned p → begin_fault x p starts u ≡ None →
    WithRaise x (λ lag. ask_with lag p.admitted u) u₁ → x₁ ≡ x → st ≡ opening x p starts → Settles x₁ p (record { state = st; unit = u₁ }) after → Began x p starts u after
begins x x₁ p starts u u₁ st after planned none (lag, low, asked) fixed opened settles₁ =
    let settled = rw (fixed, opened) at settles₁ in
    let l : Lags = record { back = lag; slowed = settled.lags.slowed; woken = 0 } in
    record {
      planned = planned;
      accepted = none;
      lags = l;
      within = record { back = low; slowed = settled.within.slowed; woken = omega arith };
      is = ap (λ (m : Meaning). settle x p l (opening x p starts) m) asked ∙ settled.is;
    }
