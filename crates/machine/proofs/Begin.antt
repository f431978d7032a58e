-- After an accepted begin, what should hold of a run holds.
use Rattle.std.proofs.Common.{◌≡◌, ℕ, zero, suc, ◌+◌, ◌<◌, ◌≤◌, List, [], ◌∷◌, length, get_or, replicate, None, sym, refl, ap, subst, inl, arith}
use lib.ListN.{length-replicate}
use Rattle.std.proofs.lemmas.List.{length-map}
use Rattle.queue.specs.declared.Entry.{Entry}
use Rattle.queue.specs.Entries.{sooner}
use Rattle.queue.specs.Order.{ordered}
use Rattle.theory.specs.Lists.{All, Any}
use Rattle.theory.specs.Tasks.{Task, Valid}
use Rattle.theory.specs.Ticks.{Row, tasks}
use Rattle.theory.proofs.Lists.{all_imp}
use Rattle.units.specs.Calls.{ask_with}
use Rattle.units.specs.Meaning.{Meaning, Nature}
use Rattle.machine.specs.Begin.{firsts, put_all, opening, begun}
use Rattle.machine.specs.Inner.{no_job, release_at}
use Rattle.machine.specs.Machine.{Lags}
use Rattle.machine.specs.Plans.{Plan, Planned}
use Rattle.machine.proofs.Accepted.{Accepted}
use Rattle.machine.proofs.Holds.{tallies, Holds, passing, settle_holds}
use Rattle.machine.proofs.Lists.{Pairs, all_ordered, any_here, any_there}
use Rattle.machine.proofs.Load.{Sound, Passing, sound_anew}
use Rattle.machine.proofs.Orders.{Apart, sorted_with}
use Rattle.machine.proofs.Records.{Kept}
use Rattle.machine.proofs.Rows.{row_at, valid_at}
use Rattle.machine.proofs.Shape.{Waits, Delayed, Shape}
use Rattle.machine.proofs.Unit.{ahead}

-- What holds of every row that is put, and of those that were there, holds of all.
put_has : (P : Entry → Type 0) (i : ℕ) (bs : List ℕ) (d : List Entry) → ((k j : ℕ) → k < length bs → j ≡ i + k → P (release_at (get_or bs k 0) j)) → All P d → All P (put_all i bs d)
put_has P i [] d h a = a
put_has P i (b ∷ bs) d h a =
    put_has P (suc i) bs (ordered sooner (release_at b i) d) (λ k j lt e. h (suc k) j (omega arith) (omega arith))
    (all_ordered sooner (release_at b i) P d (h 0 i (omega arith) (omega arith)) a)

-- Rows that are put after those with smaller numbers keep the delay queue in order.
put_sorted : (i : ℕ) (bs : List ℕ) (d : List Entry) → All (λ e. e.row < i) d → Pairs Apart d → Pairs Apart (put_all i bs d)
put_sorted i [] d a s = s
put_sorted i (b ∷ bs) d a s =
    put_sorted (suc i) bs (ordered sooner (release_at b i) d) (grind (arith, all_ordered, all_imp)) (grind (arith, sorted_with, all_imp))

-- What was there stays there.
put_keeps : (P : Entry → Type 0) (i : ℕ) (bs : List ℕ) (d : List Entry) → Any P d → Any P (put_all i bs d)
put_keeps P i [] d a = a
put_keeps P i (b ∷ bs) d a = put_keeps P (suc i) bs (ordered sooner (release_at b i) d) (any_there sooner (release_at b i) P d a)

-- Every row that is put is there.
put_there : (i : ℕ) (bs : List ℕ) (d : List Entry) (k j : ℕ) → k < length bs → j ≡ i + k → Any (λ e. e.row ≡ j) (put_all i bs d)
put_there i [] d k j h e = absurd (omega arith)
put_there i (b ∷ bs) d zero j h e =
    put_keeps (λ y. y.row ≡ j) (suc i) bs (ordered sooner (release_at b i) d) (any_here sooner (release_at b i) (λ y. y.row ≡ j) d (omega arith))
put_there i (b ∷ bs) d (suc k) j h e = put_there (suc i) bs (ordered sooner (release_at b i) d) k j (omega arith) (omega arith)

-- The theory's rows at begin.
abbrev first_rows : List Task → List ℕ → List Row
first_rows [] bs = []
first_rows (t ∷ ts) [] = []
first_rows (t ∷ ts) (b ∷ bs) = record { task = t; rem = 0; due = 0; next = b } ∷ first_rows ts bs

-- They have the tasks of the table.
first_tasks : (ts : List Task) (bs : List ℕ) → length bs ≡ length ts → tasks (first_rows ts bs) ≡ ts
first_tasks [] bs e = refl
first_tasks (t ∷ ts) [] e = absurd (omega arith)
first_tasks (t ∷ ts) (b ∷ bs) e = ap (λ (l : List Task). t ∷ l) (first_tasks ts bs (omega arith))

-- Each waits for its first release.
first_waits : (ts : List Task) (bs : List ℕ) (k : ℕ) → k < length (first_rows ts bs) → Waits (get_or bs k 0) (row_at (first_rows ts bs) k)
first_waits [] bs k h = absurd (omega arith)
first_waits (t ∷ ts) [] k h = absurd (omega arith)
first_waits (t ∷ ts) (b ∷ bs) zero h = (refl, refl)
first_waits (t ∷ ts) (b ∷ bs) (suc k) h = first_waits ts bs k (omega arith)

-- What should hold of a run holds after an accepted begin.
pub begin_holds : (x : Nature) (p : Plan) (starts : List ℕ) (l : Lags) (u : Meaning) → Planned p → l.back ≤ x.raise → Accepted x p starts u →
    Holds x p (firsts x.raise p.tasks starts) [] (begun x p starts l u)
begin_holds x p starts l u planned within a =
    settle_holds x p bs planned l 0 x.raise [] (opening x p starts).inner rows u' refl (record { shape = shape; kept = kept; sound = sound }) refl low
  where
    bs : List ℕ
    bs = firsts x.raise p.tasks starts

    rows : List Row
    rows = first_rows p.tasks bs

    u' : Meaning
    u' = ask_with l.back p.admitted u

    table : tasks rows ≡ p.tasks
    table = first_tasks p.tasks bs a.size

    size : length rows ≡ length bs
    size = omega (arith, length-map rows (λ r. r.task), ap length table, a.size)

    waits : (k : ℕ) → k < length rows → Waits (get_or bs k 0) (row_at rows k)
    waits k h = first_waits p.tasks bs k h

    low : ahead x.wake u' ≤ x.raise
    low = grind arith

    shape : Shape rows (put_all 0 bs []) [] None
    shape = record {
      sorted = put_sorted 0 bs [] tt tt;
      delayed = put_has (Delayed rows) 0 bs []
          (λ k j h e.
          let same : k ≡ j = omega arith in
          subst (λ (m : ℕ). Delayed rows (release_at (get_or bs k 0) m)) same (omega (arith, size), waits k (omega (arith, size)))) tt;
      rising = tt;
      queued = tt;
      acting = grind arith;
      placed = λ k h. inl ((waits k h).0, put_there 0 bs [] k k (omega (arith, size)) (omega arith));
    }

    kept : Kept p.tasks bs (tallies p []) (replicate 32 no_job) rows
    kept = record {
      table = table;
      size = omega (arith, length-replicate 32 no_job, planned.few, size, a.size);
      fits = λ k h. let w = waits k h in record { waits = grind arith; lives = grind arith };
    }

    sound : Sound p.admitted 0 x.raise rows
    sound =
        sound_anew p.admitted 0 x.raise rows (subst (Passing p.admitted) (sym table) (passing p planned))
        (valid_at rows (subst (All Valid) (sym table) planned.valid))
        (λ k h. let w = waits k h in (w.0, omega (arith, w.1, a.after k (omega (arith, size)))))
