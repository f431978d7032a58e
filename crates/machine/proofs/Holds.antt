-- What holds of a run with its history, and that it holds after a settling.
use Rattle.std.proofs.Common.{◌≡◌, ℕ, ◌<◌, ◌≤◌, true, List, sym, refl, subst, arith, rules}
use Rattle.theory.specs.Ticks.{Row}
use Rattle.units.specs.Calls.{ask_with}
use Rattle.units.specs.Meaning.{Meaning, Nature}
use Rattle.machine.specs.declared.job.Pace.{Pace}
use Rattle.machine.specs.declared.job.Pace.TheVariants.{Full, Over}
use Rattle.machine.specs.History.{Tally, History, tally, count}
use Rattle.machine.specs.Inner.{Inner, release_due, elect}
use Rattle.machine.specs.Machine.{State, Now, Lags, settle}
use Rattle.machine.specs.Plans.{Plan, Planned, task_at}
use Rattle.machine.specs.Speed.{Speed, ask_back, spared}
use Rattle.machine.proofs.Load.{Passing}
use Rattle.machine.proofs.Releases.{Stage}
use Rattle.machine.proofs.Settle.{Held, settle_full}
use Rattle.machine.proofs.Unit.{ahead, ahead_lag}

-- What the history tells of each row.
abbrev pub tallies : Plan → History → ℕ → Tally
tallies p h k = tally (task_at p.tasks k) k h

-- A state with the allowances of its unit.
abbrev pub state_of : Nature → ℕ → Inner → Pace → State
state_of x n s pace = record { count = n; inner = s; pace = pace; raise = x.raise; wake = x.wake }

-- The run stands at the count that the history tells, and holds what it should.
pub record Holds (x : Nature) (p : Plan) (first : List ℕ) (h : History) (now : Now) : Type 0 where
  pub n : ℕ
  pub s : Inner
  pub pace : Pace
  pub is : now.state ≡ state_of x n s pace
  pub told : n ≡ count h
  pub held : Held x p first (tallies p h) n s (record { pace = pace; unit = now.unit })

-- Every row of an admitted plan fits at its level.
pub passing : (p : Plan) → Planned p → Passing p.admitted p.tasks
passing p h = (h.level, h.fits)

-- It holds after a settling at the admitted level.
pub settle_holds : (x : Nature) (p : Plan) (first : List ℕ) → Planned p → (l : Lags) (n a : ℕ) (h : History) (s : Inner) (rows : List Row) (u : Meaning) → n ≡ count h →
    Stage p.admitted n a p.tasks first (tallies p h) s rows → u.asked ≡ p.admitted → ahead x.wake u ≤ a →
    Holds x p first h (settle x p l (state_of x n s Full) u)
settle_holds x p first planned l n a h s rows u told g asked le =
    let w = spared x p l.slowed n x.raise x.wake (elect (release_due p.tasks n s)) Full u in
    record {
      n = n;
      s = elect (release_due p.tasks n s);
      pace = w.pace;
      is = refl;
      told = told;
      held = search (rules, settle_full, passing);
    }

-- It holds after a settling that asks for the admitted level again, since a slowed job is finished.
pub settle_over : (x : Nature) (p : Plan) (first : List ℕ) → Planned p → x.takes p.admitted ≡ true → (l : Lags) (n : ℕ) (h : History) (s : Inner) (rows : List Row) (u : Meaning) →
    n ≡ count h → l.back ≤ x.raise → u.rest ≡ 0 → u.lag ≡ 0 → u.asked < p.admitted → Stage p.admitted n x.raise p.tasks first (tallies p h) s rows →
    Holds x p first h (settle x p l (state_of x n s Over) u)
settle_over x p first planned takes l n h s rows u told le r g below stage =
    let w = spared x p l.slowed n x.raise x.wake s' v.pace v.unit in
    record {
      n = n;
      s = s';
      pace = w.pace;
      is = refl;
      told = told;
      held = subst (λ (y : Speed). Held x p first (tallies p h) n s' (spared x p l.slowed n x.raise x.wake s' y.pace y.unit)) (sym back)
          (grind (arith, settle_full, passing, ahead_lag));
    }
  where
    s' : Inner
    s' = elect (release_due p.tasks n s)

    v : Speed
    v = ask_back x p.admitted l.back Over u

    u' : Meaning
    u' = ask_with l.back p.admitted u

    back : v ≡ record { pace = Full; unit = u' }
    back = grind arith
