-- The releases of a settling: the queues, the records and the theory's invariant hold through them.
use Rattle.std.proofs.Common.{◌≡◌, ℕ, ◌<◌, ◌≤◌, true, false, List, [], ◌∷◌, set, Option, sym, ◌∙◌, arith, nat_le}
use Rattle.std.proofs.lemmas.Bool.{cond_both, leb-true, leb-false}
use Rattle.queue.specs.declared.Entry.{Entry}
use Rattle.queue.specs.Entries.{sooner}
use Rattle.queue.specs.Order.{ordered}
use Rattle.theory.specs.Lists.{All}
use Rattle.theory.specs.Tasks.{Task}
use Rattle.theory.specs.Ticks.{Row, fresh}
use Rattle.theory.proofs.Lists.{all_imp}
use Rattle.machine.specs.declared.job.Job.{Job}
use Rattle.machine.specs.History.{Tally}
use Rattle.machine.specs.Inner.{Inner, in_line, new_job, released}
use Rattle.machine.specs.Plans.{task_at}
use Rattle.machine.proofs.Load.{Sound, Passing, sound_fresh}
use Rattle.machine.proofs.Records.{Kept, kept_pop}
use Rattle.machine.proofs.Rows.{row_at}
use Rattle.machine.proofs.Shape.{Delayed, Shape, shape_pop}

-- What holds at tick n through a settling, where the unit does no work for a ticks.
pub record Stage (f n a : ℕ) (ts : List Task) (first : List ℕ) (c : ℕ → Tally) (s : Inner) (rows : List Row) : Type 0 where
  pub shape : Shape rows s.delay s.queue s.active
  pub kept : Kept ts first c s.jobs rows
  pub sound : Sound f n a rows

-- It holds, and no release is left.
abbrev pub Loosed : ℕ → ℕ → ℕ → List Task → List ℕ → (ℕ → Tally) → Inner → Type 0
Loosed f n a ts first c s = (rows : List Row) × Stage f n a ts first c s rows × All (λ e. n < e.key) s.delay

-- It holds through the releases.
pub loosed : (f n a : ℕ) (ts : List Task) (first : List ℕ) (c : ℕ → Tally) → Passing f ts → (d q : List Entry) (act : Option ℕ) (js : List Job) (rows : List Row) →
    Stage f n a ts first c (record { delay = d; queue = q; active = act; jobs = js }) rows → Loosed f n a ts first c (released ts n d q act js)
loosed f n a ts first c pass [] q act js rows g = (rows, g, tt)
loosed f n a ts first c pass (e ∷ es) q act js rows g =
    cond_both (nat_le e.key n)
    (released ts n es (ordered sooner (in_line i) q) act (set js i (new_job (task_at ts i) e.key)))
    (record { delay = e ∷ es; queue = q; active = act; jobs = js }) (Loosed f n a ts first c)
    (λ t.
    loosed f n a ts first c pass es (ordered sooner (in_line i) q) act (set js i (new_job (task_at ts i) e.key))
    (set rows i (fresh n (row_at rows i))) (popped t))
    done
  where
    i : ℕ
    i = e.row

    entry : Delayed rows e
    entry = g.shape.delayed.0

    popped : nat_le e.key n ≡ true →
        Stage f n a ts first c (record { delay = es; queue = ordered sooner (in_line i) q; active = act; jobs = set js i (new_job (task_at ts i) e.key) })
        (set rows i (fresh n (row_at rows i)))
    popped t =
        let le = leb-true e.key n t in
        let valid = g.sound.valid i entry.0 in
        let due : (row_at rows i).next ≤ n = omega (arith, entry.1.1) in
        let is : (row_at rows i).next ≡ n = omega (arith, g.sound.coming i entry.0) in
        record {
          shape = shape_pop n rows e es q act valid g.shape;
          kept = kept_pop n e.key ts first c js rows i valid entry.0 (entry.1.0, is) (sym entry.1.1 ∙ is) g.kept;
          sound = grind (arith, sound_fresh);
        }

    done : nat_le e.key n ≡ false → Loosed f n a ts first c (record { delay = e ∷ es; queue = q; active = act; jobs = js })
    done t = grind (arith, leb-false, all_imp)
