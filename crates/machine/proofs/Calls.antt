-- Every word keeps what holds.
use Rattle.std.proofs.Common.{◌≡◌, ℕ, suc, ◌-◌, ◌<◌, ◌≤◌, Bool, true, List, ◌∷◌, length, Some, None, Option, sym, refl, ap, subst, inl, inr, arith, nat_le, ◌==◌}
use Rattle.std.proofs.lemmas.Bool.{cases_lt, cond_both}
use Rattle.fault.specs.declared.Fault.{Fault}
use Rattle.fault.specs.declared.Refusal.TheVariants.{CountFull, NothingGiven}
use Rattle.fault.specs.Faults.{fault_at}
use Rattle.queue.specs.declared.Entry.{Entry}
use Rattle.theory.specs.Ticks.{Row}
use Rattle.units.specs.Calls.{tick_with}
use Rattle.units.specs.Meaning.{Meaning, Nature, works}
use Rattle.machine.specs.declared.job.Job.{Job}
use Rattle.machine.specs.declared.job.Pace.{Pace}
use Rattle.machine.specs.declared.job.Pace.TheVariants.{Full, Slowed}
use Rattle.machine.specs.declared.word.Outcome.TheVariants.{Going}
use Rattle.machine.specs.declared.word.Reply.TheVariants.{Ran, Refused}
use Rattle.machine.specs.declared.word.Word.{Word}
use Rattle.machine.specs.declared.word.Word.TheVariants.{GoOn, Ended, Standing}
use Rattle.machine.specs.History.{History, count, says_ended}
use Rattle.machine.specs.Inner.{Inner}
use Rattle.machine.specs.Machine.{State, Now, Lags, Within, Result, pass, same, run_row, run_none, run_active, tick, step}
use Rattle.machine.specs.Plans.{Plan, Planned}
use Rattle.machine.proofs.Holds.{tallies, state_of, Holds, passing, settle_holds}
use Rattle.machine.proofs.Load.{sound_anew}
use Rattle.machine.proofs.Records.{kept_told}
use Rattle.machine.proofs.Rows.{row_at}
use Rattle.machine.proofs.Settle.{AtFull, AtSlow, Mode, Held, full_works}
use Rattle.machine.proofs.Shape.{none_active}
use Rattle.machine.proofs.Steps.{full_row, slow_row}
use Rattle.machine.proofs.Unit.{ahead, tick_ahead}

module _ (x : Nature) (p : Plan) (planned : Planned p) (takes : x.takes p.admitted ≡ true) (first : List ℕ) (l : Lags)
    (within : Within x l) (word : Word) (h : History) (u : Meaning) (n : ℕ) (told : n ≡ count h) where
  -- The admitted level, whether the job was said to have ended, and what holds after a word.
  abbrev f : ℕ
  f = p.admitted

  abbrev said : Bool
  said = says_ended word

  abbrev After : Result → Type 0
  After r = Holds x p first (record { word = word; reply = r.reply } ∷ h) r.now

  -- A refused word changes nothing.
  unchanged : (s : Inner) (pace : Pace) (e : Fault) → Held x p first (tallies p h) n s (record { pace = pace; unit = u }) →
      After (record { reply = Refused e; now = same (state_of x n s pace) u })
  unchanged s pace e held = grind arith

  -- A tick in which no row runs.
  idle : (s : Inner) (held : Held x p first (tallies p h) n s (record { pace = Full; unit = u })) →
      ((k : ℕ) → k < length held.rows → (row_at held.rows k).rem ≡ 0) → AtFull f x.wake n held.rows (record { pace = Full; unit = u }) →
      After (run_none x p l said (state_of x n s Full) u)
  idle s held none a =
      cond_both {A = Result} said (record { reply = Refused (fault_at NothingGiven 0 0); now = same (state_of x n s Full) u })
      (record { reply = Ran (record { row = 0; level = 0; units = 0; outcome = Going }); now = pass x p l s Full (state_of x n s Full) u }) After
      (λ _. unchanged s Full (fault_at NothingGiven 0 0) held)
      (λ _.
      settle_holds x p first planned l (suc n) (ahead x.wake u') h' s rows u' (ap suc told)
      (record {
        shape = held.shape;
        kept = kept_told p.tasks first (tallies p h) (tallies p h') s.jobs rows
            (λ k. grind arith) held.kept;
        sound = sound_anew f (suc n) (ahead x.wake u') rows (grind (arith, passing)) a.sound.valid
            (λ k hk. grind (arith, none k, fewer, held.later k, cases_lt 0 (ahead x.wake u)));
      })
      a.asked (omega arith))
    where
      rows : List Row
      rows = held.rows

      u' : Meaning
      u' = tick_with l.woken u

      h' : History
      h' = record { word = word; reply = Ran (record { row = 0; level = 0; units = 0; outcome = Going }) } ∷ h

      fewer : ahead x.wake u' ≤ ahead x.wake u - 1
      fewer = tick_ahead x.wake l.woken u within.woken

  -- The rows of a run, by their parts.
  abbrev inner : List Entry → List Entry → Option ℕ → List Job → Inner
  inner d q o js = record { delay = d; queue = q; active = o; jobs = js }

  -- A tick with an active row, at the admitted level: that row runs.
  runs_full : (d q : List Entry) (i : ℕ) (js : List Job) (held : Held x p first (tallies p h) n (inner d q (Some i) js) (record { pace = Full; unit = u })) →
      AtFull f x.wake n held.rows (record { pace = Full; unit = u }) → After (run_active x p l said (Some i) (state_of x n (inner d q (Some i) js) Full) u)
  runs_full d q i js held a =
      cond_both {A = Result} (works u == 0) (run_none x p l said (state_of x n (inner d q (Some i) js) Full) u) (run_row x p l said i (state_of x n (inner d q (Some i) js) Full) u) After
      (λ e. let act = held.shape.acting i refl in grind (arith, full_works))
      (λ _. full_row x p planned takes first l within word h n told u held.rows d q js i held.shape held.chosen held.kept held.later a)

  -- A tick with an active row, at a lower level: that row runs.
  runs_slow : (d q : List Entry) (i : ℕ) (js : List Job) (held : Held x p first (tallies p h) n (inner d q (Some i) js) (record { pace = Slowed i; unit = u })) →
      AtSlow f x.raise n held.rows q (Some i) i (record { pace = Slowed i; unit = u }) → After (run_active x p l said (Some i) (state_of x n (inner d q (Some i) js) (Slowed i)) u)
  runs_slow d q i js held b =
      cond_both {A = Result} (works u == 0) (run_none x p l said (state_of x n (inner d q (Some i) js) (Slowed i)) u) (run_row x p l said i (state_of x n (inner d q (Some i) js) (Slowed i)) u) After
      (λ e. let act = held.shape.acting i refl in let z : u.asked ≡ 0 = grind arith in grind arith)
      (λ _. slow_row x p planned takes first l within word h n told u held.rows d q js i held.shape held.chosen held.kept held.later b)

  -- A tick keeps what holds, whatever the active row.
  active_holds : (d q : List Entry) (o : Option ℕ) (js : List Job) (pace : Pace) → Held x p first (tallies p h) n (inner d q o js) (record { pace = pace; unit = u }) →
      After (run_active x p l said o (state_of x n (inner d q o js) pace) u)
  active_holds d q None js pace held = by held.mode
    where
      by : Mode f x.raise x.wake n held.rows (inner d q None js) (record { pace = pace; unit = u }) → After (run_active x p l said None (state_of x n (inner d q None js) pace) u)
      by (inl a) =
          let a' : AtFull f x.wake n held.rows (record { pace = Full; unit = u }) = record { pace = refl; asked = a.asked; sound = a.sound } in
          subst (λ (y : Pace). After (run_active x p l said None (state_of x n (inner d q None js) y) u)) (sym a.pace)
          (idle (inner d q None js)
          (record { rows = held.rows; shape = held.shape; chosen = held.chosen; kept = held.kept; later = held.later; mode = inl a' })
          (none_active held.rows d q held.shape held.chosen) a')
      by (inr (i, b)) = grind arith
  active_holds d q (Some j) js pace held = by held.mode
    where
      by : Mode f x.raise x.wake n held.rows (inner d q (Some j) js) (record { pace = pace; unit = u }) →
          After (run_active x p l said (Some j) (state_of x n (inner d q (Some j) js) pace) u)
      by (inl a) =
          let a' : AtFull f x.wake n held.rows (record { pace = Full; unit = u }) = record { pace = refl; asked = a.asked; sound = a.sound } in
          subst (λ (y : Pace). After (run_active x p l said (Some j) (state_of x n (inner d q (Some j) js) y) u)) (sym a.pace)
          (runs_full d q j js
          (record { rows = held.rows; shape = held.shape; chosen = held.chosen; kept = held.kept; later = held.later; mode = inl a' }) a')
      by (inr (i, b)) =
          let b₁ = subst (λ (y : ℕ). AtSlow f x.raise n held.rows q (Some j) y (record { pace = pace; unit = u })) (grind arith) b in
          let b₂ : AtSlow f x.raise n held.rows q (Some j) j (record { pace = Slowed j; unit = u }) = record {
            window = b₁.window;
            pace = refl;
            active = refl;
            alone = b₁.alone;
            rest = b₁.rest;
            lag = b₁.lag;
            below = b₁.below;
            enough = b₁.enough;
            due = b₁.due;
            others = b₁.others;
          } in
          subst (λ (y : Pace). After (run_active x p l said (Some j) (state_of x n (inner d q (Some j) js) y) u)) (sym b₁.pace)
          (runs_slow d q j js
          (record { rows = held.rows; shape = held.shape; chosen = held.chosen; kept = held.kept; later = held.later; mode = inr (j, b₂) }) b₂)

  -- A tick keeps what holds, also where the count is at its end.
  tick_holds : (s : Inner) (pace : Pace) → Held x p first (tallies p h) n s (record { pace = pace; unit = u }) → After (tick x p l said (state_of x n s pace) u)
  tick_holds s pace held =
      cond_both {A = Result} (nat_le 1000000000 n) (record { reply = Refused (fault_at CountFull 0 0); now = same (state_of x n s pace) u })
      (run_active x p l said s.active (state_of x n s pace) u) After (λ _. unchanged s pace (fault_at CountFull 0 0) held)
      (λ _. active_holds s.delay s.queue s.active s.jobs pace held)

-- A word keeps what holds.
pub step_holds : (x : Nature) (p : Plan) → Planned p → x.takes p.admitted ≡ true → (first : List ℕ) (l : Lags) → Within x l →
    (word : Word) (h : History) (now : Now) → Holds x p first h now →
    Holds x p first (record { word = word; reply = (step x p word l now.state now.unit).reply } ∷ h) (step x p word l now.state now.unit).now
step_holds x p planned takes first l within word h now a =
    subst (λ (st : State). Holds x p first (record { word = word; reply = (step x p word l st now.unit).reply } ∷ h) (step x p word l st now.unit).now) (sym a.is)
    (of_word word)
  where
    of_word : (w : Word) →
        Holds x p first (record { word = w; reply = (step x p w l (state_of x a.n a.s a.pace) now.unit).reply } ∷ h)
        (step x p w l (state_of x a.n a.s a.pace) now.unit).now
    of_word GoOn = tick_holds x p planned takes first l within GoOn h now.unit a.n a.told a.s a.pace a.held
    of_word Ended = tick_holds x p planned takes first l within Ended h now.unit a.n a.told a.s a.pace a.held
    of_word Standing = record { n = a.n; s = a.s; pace = a.pace; is = refl; told = a.told; held = a.held }
