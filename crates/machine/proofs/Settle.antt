-- Settling: what holds after it, at the admitted level or slowed.
use Rattle.std.proofs.Common.{◌≡◌, ℕ, ◌+◌, ◌-◌, ◌*◌, ◌<◌, ◌≤◌, true, ◌&&◌, ◌≢◌, ◌⊎◌, List, [], ◌∷◌, length, get_or, Some, None, Option, refl, ap, subst, inl, inr, ⊎_elim, arith, nat_le, nat_lt}
use Rattle.std.proofs.lemmas.Bool.{cases_lt, cond_both}
use Rattle.queue.specs.declared.Entry.{Entry}
use Rattle.theory.specs.Lists.{All}
use Rattle.theory.specs.Tasks.{Task}
use Rattle.theory.specs.Ticks.{Row}
use Rattle.theory.proofs.Lists.{all_imp}
use Rattle.units.specs.Calls.{ask_with, rest_for}
use Rattle.units.specs.Meaning.{Meaning, Nature, ready, works}
use Rattle.machine.specs.declared.job.Job.{Job}
use Rattle.machine.specs.declared.job.Pace.TheVariants.{Full, Slowed}
use Rattle.machine.specs.History.{Tally}
use Rattle.machine.specs.Inner.{Inner, job_at, released, release_due, elect}
use Rattle.machine.specs.Plans.{Plan, task_at}
use Rattle.machine.specs.Speed.{Speed, may_ask, may_rest, rest_until, window_end, window, enough_in, slow_to, slow_for, rest_or_slow, spared}
use Rattle.machine.proofs.Lists.{Pairs}
use Rattle.machine.proofs.Load.{Sound, Passing, sound_due}
use Rattle.machine.proofs.Orders.{Apart}
use Rattle.machine.proofs.Records.{Lives, Kept}
use Rattle.machine.proofs.Releases.{Stage, loosed}
use Rattle.machine.proofs.Rows.{row_at, task_is}
use Rattle.machine.proofs.Shape.{Shape, Chosen, shape_elect, none_active, one_active, waits_all}
use Rattle.machine.proofs.Unit.{ahead, ready_is}

-- The unit is at the admitted level f, or comes to it while no row has an unfinished job.
pub record AtFull (f k n : ℕ) (rows : List Row) (v : Speed) : Type 0 where
  pub pace : v.pace ≡ Full
  pub asked : v.unit.asked ≡ f
  pub sound : Sound f n (ahead k v.unit) rows

-- While a row has an unfinished job, a unit at the admitted level works.
pub full_works : (f k n : ℕ) (rows : List Row) (v : Speed) → AtFull f k n rows v → (i : ℕ) → i < length rows → 0 < (row_at rows i).rem →
    (ahead k v.unit ≡ 0) × (works v.unit ≡ f)
full_works f k n rows v a i hi some = grind arith

-- The unit is slowed for a row whose job is alone: within the window its work is done, and the window ends early enough to raise the level again.
pub record AtSlow (f r n : ℕ) (rows : List Row) (q : List Entry) (a : Option ℕ) (row : ℕ) (v : Speed) : Type 0 where
  pub window : ℕ
  pub pace : v.pace ≡ Slowed row
  pub active : a ≡ Some row
  pub alone : q ≡ []
  pub rest : v.unit.rest ≡ 0
  pub lag : v.unit.lag ≡ 0
  pub below : v.unit.asked < f
  pub enough : (row_at rows row).rem ≤ v.unit.asked * window
  pub due : n + window + r ≤ (row_at rows row).due
  pub others : (k : ℕ) → k < length rows → k ≢ row → ((row_at rows k).rem ≡ 0) × (n + window + r ≤ (row_at rows k).next)

-- The unit is at the admitted level, or slowed for some row.
abbrev pub Mode : ℕ → ℕ → ℕ → ℕ → List Row → Inner → Speed → Type 0
Mode f r k n rows s v = AtFull f k n rows v ⊎ ((i : ℕ) × AtSlow f r n rows s.queue s.active i v)

-- What holds of a run after each settling.
pub record Held (x : Nature) (p : Plan) (first : List ℕ) (c : ℕ → Tally) (n : ℕ) (s : Inner) (v : Speed) : Type 0 where
  pub rows : List Row
  pub shape : Shape rows s.delay s.queue s.active
  pub chosen : Chosen s.queue s.active
  pub kept : Kept p.tasks first c s.jobs rows
  pub later : (k : ℕ) → k < length rows → n < (row_at rows k).next
  pub mode : Mode p.admitted x.raise x.wake n rows s v

-- Sound rows are sound for any other number of ticks without work, where they are quiet for so long.
sound_quiet : (f n a b : ℕ) (rows : List Row) → (0 < b → (k : ℕ) → k < length rows → ((row_at rows k).rem ≡ 0) × (n + b ≤ (row_at rows k).next)) → Sound f n a rows → Sound f n b rows
sound_quiet f n a b rows q s = grind arith

-- What holds where no level is enough, and of every level that is, holds of the lowest.
enough_is : (w need : ℕ) (gs : List ℕ) (P : Option ℕ → Type 0) → P None → ((g : ℕ) → need ≤ g * w → P (Some g)) → P (enough_in w need gs)
enough_is w need [] P none some = none
enough_is w need (g ∷ gs) P none some =
    cond_both (nat_le need (g * w)) (Some g) (enough_in w need gs) P (λ e. grind arith) (λ e. enough_is w need gs P none some)

-- The window ends by the deadline.
end_due : (due : ℕ) (d : List Entry) → window_end due d ≤ due
end_due due [] = omega arith
end_due due (e ∷ es) = omega arith

-- The window ends by every release.
end_all : (due : ℕ) (d : List Entry) → Pairs Apart d → All (λ e. window_end due d ≤ e.key) d
end_all due [] s = tt
end_all due (e ∷ es) s = grind (arith, all_imp)

module _ (x : Nature) (p : Plan) (l n a : ℕ) (first : List ℕ) (c : ℕ → Tally) (rows : List Row) where
  -- The admitted level, what holds after a settling, and the speed of a unit that is not slowed.
  abbrev f : ℕ
  f = p.admitted

  abbrev After : Inner → Speed → Type 0
  After s v = Mode f x.raise x.wake n rows s v

  abbrev full : Meaning → Speed
  full u = record { pace = Full; unit = u }

  -- Where nothing is asked, the unit stays at the admitted level.
  stay : (s : Inner) (u : Meaning) → u.asked ≡ f → ahead x.wake u ≤ a → Stage f n a p.tasks first c s rows → After s (full u)
  stay s u asked le g = grind arith

  -- A rest ends before the first release, with the wake allowance.
  resting : (d q : List Entry) (js : List Job) (u : Meaning) → u.asked ≡ f → ahead x.wake u ≤ a → Chosen q None →
      Stage f n a p.tasks first c (record { delay = d; queue = q; active = None; jobs = js }) rows →
      After (record { delay = d; queue = q; active = None; jobs = js }) (full (rest_until n x.wake d u))
  resting [] q js u asked le ch g = grind arith
  resting (e ∷ es) q js u asked le ch g =
      cond_both (may_rest t u) (rest_for t u) u (λ y. After s (full y))
      (λ b.
      let pos : 0 < t = grind arith in
      let is : ahead x.wake (rest_for t u) ≡ t + x.wake = grind arith in
      inl (record {
        pace = refl;
        asked = asked;
        sound = sound_quiet f n a (ahead x.wake (rest_for t u)) rows
            (λ _ k h.
            let z = none_active rows (e ∷ es) q g.shape ch k h in
            (z, omega (arith, waits_all rows (e ∷ es) q None (λ m. e.key ≤ m) g.shape (grind (arith, all_imp)) k h z)))
            g.sound;
      }))
      (λ _. stay s u asked le g)
    where
      s : Inner
      s = record { delay = e ∷ es; queue = q; active = None; jobs = js }

      t : ℕ
      t = e.key - n - x.wake

  -- A lone job is slowed within its window.
  slowing : (d : List Entry) (js : List Job) (i : ℕ) (u : Meaning) → u.asked ≡ f → ready u ≡ true → ahead x.wake u ≤ a →
      Stage f n a p.tasks first c (record { delay = d; queue = []; active = Some i; jobs = js }) rows →
      After (record { delay = d; queue = []; active = Some i; jobs = js })
      (slow_for x p l n x.raise i (record { delay = d; queue = []; active = Some i; jobs = js }) u)
  slowing d js i u asked rd le g =
      cond_both (nat_lt 0 w) (slow_to x f l i (enough_in w need p.levels) u) (full u) (After s)
      (λ e.
      enough_is w need p.levels (λ o. After s (slow_to x f l i o u)) (stay s u asked le g)
      (λ lv le'.
      cond_both (nat_lt lv f && may_ask x lv u) (record { pace = Slowed i; unit = ask_with l lv u }) (full u) (After s)
      (λ b. inr (i, made (grind arith) lv le' (grind arith)))
      (λ _. stay s u asked le g)))
      (λ _. stay s u asked le g)
    where
      s : Inner
      s = record { delay = d; queue = []; active = Some i; jobs = js }

      t : Task
      t = task_at p.tasks i

      j : Job
      j = job_at js i

      w : ℕ
      w = window n x.raise j d

      need : ℕ
      need = t.work - j.given

      act : (i < length rows) × (0 < (row_at rows i).rem)
      act = g.shape.acting i refl

      is : (row_at rows i).task ≡ t
      is = task_is p.tasks rows g.kept.table i act.0

      live : Lives (get_or first i 0) (c i) j (row_at rows i)
      live = (g.kept.fits i act.0).lives act.1

      made : 0 < w → (lv : ℕ) → need ≤ lv * w → lv < f → AtSlow f x.raise n rows [] (Some i) i (record { pace = Slowed i; unit = ask_with l lv u })
      made pos lv enough below =
          let z = ready_is u rd in
          let end = window_end j.due d in
          record {
            window = w;
            pace = refl;
            active = refl;
            alone = refl;
            rest = z.0;
            lag = grind arith;
            below = below;
            enough = omega (arith, live.left, ap (λ (y : Task). y.work) is);
            due = omega (arith, live.due, end_due j.due d);
            others = λ k h ne.
                let none = one_active rows d i g.shape k h ne in
                (none, omega (arith, waits_all rows d [] (Some i) (λ m. end ≤ m) g.shape (end_all j.due d g.shape.sorted) k h none));
          }

  -- A unit that works at the admitted level rests, or is slowed, or neither.
  chosen_speed : (d q : List Entry) (o : Option ℕ) (js : List Job) (u : Meaning) → u.asked ≡ f → ready u ≡ true → ahead x.wake u ≤ a → Chosen q o →
      Stage f n a p.tasks first c (record { delay = d; queue = q; active = o; jobs = js }) rows →
      After (record { delay = d; queue = q; active = o; jobs = js })
      (rest_or_slow x p l n x.raise x.wake o q (record { delay = d; queue = q; active = o; jobs = js }) u)
  chosen_speed d q None js u asked rd le ch g = resting d q js u asked le ch g
  chosen_speed d [] (Some i) js u asked rd le ch g = slowing d js i u asked rd le g
  chosen_speed d (h ∷ q) (Some i) js u asked rd le ch g = grind arith

  -- A unit at the admitted level that may still lag is spared where it does not.
  spared_full : (s : Inner) (u : Meaning) → u.asked ≡ f → ahead x.wake u ≤ a → Chosen s.queue s.active → Stage f n a p.tasks first c s rows →
      After s (spared x p l n x.raise x.wake s Full u)
  spared_full s u asked le ch g =
      cond_both (ready u) (rest_or_slow x p l n x.raise x.wake s.active s.queue s u) (full u) (After s)
      (λ e. chosen_speed s.delay s.queue s.active s.jobs u asked e le ch g) (λ _. stay s u asked le g)

-- After the releases, every next release is to come.
all_later : (f n a : ℕ) (ts : List Task) (first : List ℕ) (c : ℕ → Tally) (s : Inner) (rows : List Row) → Stage f n a ts first c s rows → All (λ e. n < e.key) s.delay →
    (k : ℕ) → k < length rows → n < (row_at rows k).next
all_later f n a ts first c s rows g after k h =
    ⊎_elim (grind (arith, sound_due))
    (λ none. waits_all rows s.delay s.queue s.active (λ m. n < m) g.shape after k h (omega arith)) (cases_lt 0 (row_at rows k).rem)

-- Settling at the admitted level, from a state where the theory's invariant holds.
pub settle_full : (x : Nature) (p : Plan) (l n a : ℕ) (first : List ℕ) (c : ℕ → Tally) → Passing p.admitted p.tasks →
    (s : Inner) (rows : List Row) → Stage p.admitted n a p.tasks first c s rows → (u : Meaning) → u.asked ≡ p.admitted → ahead x.wake u ≤ a →
    Held x p first c n (elect (release_due p.tasks n s)) (spared x p l n x.raise x.wake (elect (release_due p.tasks n s)) Full u)
settle_full x p l n a first c pass s rows g u asked le =
    let (rows', g', after) = loosed p.admitted n a p.tasks first c pass s.delay s.queue s.active s.jobs rows g in
    finished rows' (released p.tasks n s.delay s.queue s.active s.jobs) g' after
  where
    finished : (rows' : List Row) (s₁ : Inner) → Stage p.admitted n a p.tasks first c s₁ rows' → All (λ e. n < e.key) s₁.delay →
        Held x p first c n (elect s₁) (spared x p l n x.raise x.wake (elect s₁) Full u)
    finished rows' s₁ g₁ after =
        let (shape, chosen) = shape_elect rows' s₁.delay s₁.queue s₁.active s₁.jobs g₁.shape in
        let kept = subst (λ (js : List Job). Kept p.tasks first c js rows') (grind arith) g₁.kept in
        record {
          rows = rows';
          shape = shape;
          chosen = chosen;
          kept = kept;
          later = all_later p.admitted n a p.tasks first c s₁ rows' g₁ after;
          mode = spared_full x p l n a first c rows' (elect s₁) u asked le chosen (grind arith);
        }
