-- A tick in which the active row runs: what holds goes on holding.
use Rattle.std.proofs.Common.{◌≡◌, ℕ, suc, ◌+◌, ◌-◌, ◌*◌, ◌<◌, ◌≤◌, min, Bool, true, false, ◌||◌, ◌≢◌, List, [], ◌∷◌, length, get_or, set, Some, None, Option, sym, refl, ap, ◌∙◌, subst, inr, arith, ◌==◌, rules}
use Rattle.std.proofs.lemmas.List.{get_or-set_same}
use Rattle.std.proofs.lemmas.Bool.{cases_lt, cond_both, cond-true, eq-eqb}
use Rattle.queue.specs.declared.Entry.{Entry}
use Rattle.theory.specs.Lists.{All}
use Rattle.theory.specs.Tasks.{Task, Valid}
use Rattle.theory.specs.Ticks.{Row, given}
use Rattle.theory.proofs.Lists.{all_imp}
use Rattle.units.specs.Calls.{tick_with}
use Rattle.units.specs.Meaning.{Meaning, Nature, works}
use Rattle.machine.specs.declared.job.Job.{Job}
use Rattle.machine.specs.declared.job.Pace.{Pace}
use Rattle.machine.specs.declared.job.Pace.TheVariants.{Full, Slowed, Over}
use Rattle.machine.specs.declared.word.Reply.TheVariants.{Ran}
use Rattle.machine.specs.declared.word.Word.{Word}
use Rattle.machine.specs.History.{History, count, says_ended}
use Rattle.machine.specs.Inner.{Inner, job_at, give, finish, released, release_due, elect}
use Rattle.machine.specs.Machine.{Now, Lags, Within, pass, outcome_of, pace_after, run_row}
use Rattle.machine.specs.Plans.{Plan, Planned, task_at}
use Rattle.machine.proofs.Give.{shape_on, shape_end}
use Rattle.machine.proofs.Holds.{tallies, state_of, Holds, passing, settle_holds, settle_over}
use Rattle.machine.proofs.Load.{Sound, sound_anew, sound_serve}
use Rattle.machine.proofs.Records.{Lives, Kept, kept_on, kept_end}
use Rattle.machine.proofs.Rows.{no_row, row_at, each_set, task_is, valid_at}
use Rattle.machine.proofs.Settle.{AtFull, AtSlow, Held, full_works}
use Rattle.machine.proofs.Shape.{Delayed, Shape, Chosen, before_active}
use Rattle.machine.proofs.Unit.{ahead, works_is, tick_ahead}

-- Where every release is to come, there is nothing to release.
released_none : (ts : List Task) (n : ℕ) (d q : List Entry) (a : Option ℕ) (js : List Job) → All (λ e. n < e.key) d →
    released ts n d q a js ≡ record { delay = d; queue = q; active = a; jobs = js }
released_none ts n [] q a js h = refl
released_none ts n (e ∷ es) q a js h = grind arith

-- Where the run queue is empty, there is nothing to choose.
elect_none : (s : Inner) → s.queue ≡ [] → elect s ≡ s
elect_none s e = grind arith

-- A job that goes on was given the whole level, and has more left.
more_left : (lv : ℕ) (said : Bool) (g w rem : ℕ) → rem + g ≡ w → (said || g + min lv (w - g) == w) ≡ false → (said ≡ false) × (min lv (w - g) ≡ lv) × (lv < rem)
more_left lv said g w rem e h = grind arith

module _ (x : Nature) (p : Plan) (planned : Planned p) (takes : x.takes p.admitted ≡ true) (first : List ℕ) (l : Lags)
    (within : Within x l) (word : Word) (h : History) (n : ℕ) (told : n ≡ count h) (u : Meaning)
    (rows : List Row) (d q : List Entry) (js : List Job) (i : ℕ) (shape : Shape rows d q (Some i)) (chosen : Chosen q (Some i))
    (kept : Kept p.tasks first (tallies p h) js rows) (later : (k : ℕ) → k < length rows → n < (row_at rows k).next) where
  -- What the tick is about: the word, the table, and the task and the units of the active row; how many it gets, and whether that is all.
  abbrev said : Bool
  said = says_ended word

  abbrev ts : List Task
  ts = p.tasks

  abbrev t : Task
  t = task_at ts i

  abbrev lv : ℕ
  lv = works u

  abbrev g : ℕ
  g = (job_at js i).given

  abbrev m : ℕ
  m = min lv (t.work - g)

  abbrev s : Inner
  s = record { delay = d; queue = q; active = Some i; jobs = js }

  abbrev whole : Bool
  whole = g + m == t.work

  -- The history after the tick, and the rows.
  abbrev h' : History
  h' = record { word = word; reply = Ran (record { row = suc i; level = lv; units = m; outcome = outcome_of said whole }) } ∷ h

  abbrev r : Row
  r = row_at rows i

  abbrev v : Row
  v = given lv said r

  abbrev rows' : List Row
  rows' = set rows i v

  -- The active row is a row.
  hi : i < length rows
  hi = (shape.acting i refl).0

  -- The active row has some of its work left.
  pos : 0 < r.rem
  pos = (shape.acting i refl).1

  -- The job of the active row is unfinished.
  live : Lives (get_or first i 0) (tallies p h i) (job_at js i) r
  live = grind (arith, pos)

  -- What is left and what was given are the work of the task.
  work_is : r.rem + g ≡ t.work
  work_is = grind (arith, task_is)

  -- The history tells the same of the other rows.
  others : (k : ℕ) → k ≢ i → tallies p h' k ≡ tallies p h k
  others k ne = grind arith

  -- Where the job goes on, it was not said to have ended, got the whole level, and has more left.
  on_facts : (said || whole) ≡ false → (said ≡ false) × (m ≡ lv) × (lv < r.rem)
  on_facts e = more_left lv said g t.work r.rem work_is e

  -- Where the job goes on, so much is left.
  on_left : (said || whole) ≡ false → v.rem ≡ r.rem - lv
  on_left e = grind arith

  -- Where the job is finished, nothing is left.
  end_left : (said || whole) ≡ true → v.rem ≡ 0
  end_left e = grind (arith, work_is)

  -- Where the job goes on, the queues hold what they should.
  on_shape : (said || whole) ≡ false → Shape rows' d q (Some i)
  on_shape e = shape_on rows d q i v shape (omega (arith, on_left e, (on_facts e).2))

  -- Where the job goes on, the records fit.
  on_kept : (said || whole) ≡ false → Kept ts first (tallies p h') (give i m s).jobs rows'
  on_kept e =
      let f = on_facts e in
      kept_on ts first (tallies p h) (tallies p h') js rows i m lv said kept hi pos others f.1 f.0 f.2 (grind arith)

  -- The next release of the row is the one in its record.
  end_next : v.next ≡ (job_at (give i m s).jobs i).next
  end_next = search rules

  -- Where the job is finished, the queues hold what they should.
  end_shape : (said || whole) ≡ true → Shape rows' (finish i (give i m s)).delay q None
  end_shape e = search (rules, shape_end, end_left, end_next)

  -- Where the job is finished, the records fit.
  end_kept : (said || whole) ≡ true → Kept ts first (tallies p h') (finish i (give i m s)).jobs rows'
  end_kept e = kept_end ts first (tallies p h) (tallies p h') js rows i m lv said kept hi pos others (end_left e) (grind (arith, live))

  -- The admitted level, and what holds after the tick.
  abbrev f : ℕ
  f = p.admitted

  abbrev After : Now → Type 0
  After w = Holds x p first h' w

  -- The active row runs at the admitted level.
  pub full_row : AtFull f x.wake n rows (record { pace = Full; unit = u }) → After (run_row x p l said i (state_of x n s Full) u).now
  full_row a =
      cond_both (said || whole) (pass x p l (finish i (give i m s)) Full (state_of x n s Full) u) (pass x p l (give i m s) Full (state_of x n s Full) u) After
      (λ e.
      settle_holds x p first planned l (suc n) 0 h' (finish i (give i m s)) rows' (tick_with l.woken u) (ap suc told)
      (record { shape = end_shape e; kept = end_kept e; sound = sound }) a.asked still)
      (λ e.
      settle_holds x p first planned l (suc n) 0 h' (give i m s) rows' (tick_with l.woken u) (ap suc told)
      (record { shape = on_shape e; kept = on_kept e; sound = sound }) a.asked still)
    where
      works_at : (ahead x.wake u ≡ 0) × (lv ≡ f)
      works_at = grind (arith, full_works, hi, pos)

      sound : Sound f (suc n) 0 rows'
      sound =
          subst (λ (y : ℕ). Sound f (suc n) 0 (set rows i (given y said r))) (sym works_at.1)
          (sound_serve f said n (ahead x.wake u) rows i (grind arith) hi pos (before_active rows d q i shape chosen) later a.sound)

      still : ahead x.wake (tick_with l.woken u) ≤ 0
      still = omega (arith, tick_ahead x.wake l.woken u within.woken, works_at.0)

  -- The active row runs at a lower level.
  pub slow_row : AtSlow f x.raise n rows q (Some i) i (record { pace = Slowed i; unit = u }) → After (run_row x p l said i (state_of x n s (Slowed i)) u).now
  slow_row b =
      cond_both (said || whole) (pass x p l (finish i (give i m s)) (pace_after i (Slowed i)) (state_of x n s (Slowed i)) u)
      (pass x p l (give i m s) (Slowed i) (state_of x n s (Slowed i)) u) After ends goes
    where
      valid : (k : ℕ) → k < length rows → Valid (row_at rows k).task
      valid = grind (arith, valid_at)

      w : ℕ
      w = b.window

      some_window : 1 ≤ w
      some_window = grind arith

      next_due : n + w + x.raise ≤ r.next
      next_due = let a = valid i hi in let o = live in omega (arith, b.due)

      u' : Meaning
      u' = tick_with l.woken u

      still : (u'.rest ≡ 0) × (u'.lag ≡ 0)
      still = grind arith

      ends : (said || whole) ≡ true → After (pass x p l (finish i (give i m s)) (pace_after i (Slowed i)) (state_of x n s (Slowed i)) u)
      ends e =
          subst (λ (y : Pace). After (pass x p l (finish i (give i m s)) y (state_of x n s (Slowed i)) u)) (sym (cond-true (i == i) Over (Slowed i) (eq-eqb i i refl)))
          (settle_over x p first planned takes l (suc n) h' (finish i (give i m s)) rows' u' (ap suc told) within.back still.0 still.1 b.below
          (record {
            shape = end_shape e;
            kept = end_kept e;
            sound = sound_anew f (suc n) x.raise rows' (grind (arith, end_kept, passing))
                (each_set (λ _ y. Valid y.task) rows i v (valid i hi) (λ k hk _. valid k hk))
                (each_set (λ _ y. (y.rem ≡ 0) × (suc n + x.raise ≤ y.next)) rows i v (end_left e, omega (arith, next_due, some_window))
                (λ k hk ne. grind arith));
          }))

      goes : (said || whole) ≡ false → After (pass x p l (give i m s) (Slowed i) (state_of x n s (Slowed i)) u)
      goes e = record {
        n = suc n;
        s = elect (release_due ts (suc n) (give i m s));
        pace = Slowed i;
        is = refl;
        told = ap suc told;
        held = subst (λ (y : Inner). Held x p first (tallies p h') (suc n) y (record { pace = Slowed i; unit = u' })) (sym same_inner)
            (record {
              rows = rows';
              shape = on_shape e;
              chosen = chosen;
              kept = on_kept e;
              later = each_set (λ _ y. suc n < y.next) rows i v (omega (arith, next_due, more))
                  (λ k hk ne. omega (arith, (b.others k hk ne).1, more));
              mode = inr (
                i,
                record {
                  window = w - 1;
                  pace = refl;
                  active = refl;
                  alone = b.alone;
                  rest = still.0;
                  lag = still.1;
                  below = b.below;
                  enough = subst (λ (y : Row). y.rem ≤ u.asked * (w - 1)) (sym here) less;
                  due = subst (λ (y : Row). suc n + (w - 1) + x.raise ≤ y.due) (sym here) (omega (arith, b.due, some_window));
                  others = each_set (λ k y. k ≢ i → (y.rem ≡ 0) × (suc n + (w - 1) + x.raise ≤ y.next)) rows i v (λ ne. absurd (ne refl))
                      (λ k hk ne _. grind arith);
                },
              );
            });
      }
        where
          here : row_at rows' i ≡ v
          here = get_or-set_same rows i v no_row hi

          less : v.rem ≤ u.asked * (w - 1)
          less =
              let one : w ≡ (w - 1) + 1 = omega (arith, some_window) in
              omega (arith, on_left e, works_is u b.rest b.lag, b.enough, ap (λ (k : ℕ). u.asked * k) one)

          more : 2 ≤ w
          more = grind (arith, on_left, on_facts, cases_lt)

          after : All (λ y. suc n < y.key) d
          after =
              all_imp (Delayed rows) (λ y. suc n < y.key)
              (λ y a. omega (arith, a.1.1, (b.others y.row a.0 (λ eq. grind arith)).1, more)) d shape.delayed

          same_inner : elect (release_due ts (suc n) (give i m s)) ≡ give i m s
          same_inner = ap elect (released_none ts (suc n) d q (Some i) (give i m s).jobs after) ∙ elect_none (give i m s) b.alone
