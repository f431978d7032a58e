-- The queues hold just the rows that they should: as the active row is given units, and at the end of its job.
use Rattle.std.proofs.Common.{◌≡◌, ℕ, ◌<◌, ◌≢◌, List, length, set, Some, None, Option, refl, inl, arith, rules}
use Rattle.queue.specs.declared.Entry.{Entry}
use Rattle.queue.specs.Entries.{sooner}
use Rattle.queue.specs.Order.{ordered}
use Rattle.theory.specs.Lists.{All}
use Rattle.theory.specs.Ticks.{Row}
use Rattle.theory.proofs.Lists.{all_imp}
use Rattle.machine.specs.Inner.{release_at}
use Rattle.machine.proofs.Lists.{all_ordered, any_here, any_there}
use Rattle.machine.proofs.Orders.{sorted_with}
use Rattle.machine.proofs.Rows.{row_at, each_set}
use Rattle.machine.proofs.Shape.{Delayed, Queued, Placed, Shape}

module _ (rows : List Row) (d q : List Entry) (i : ℕ) (v : Row) (s : Shape rows d q (Some i)) where
  -- The rows after a write to the active one.
  abbrev rows' : List Row
  rows' = set rows i v

  -- A write leaves as many rows.
  same_length : length rows' ≡ length rows
  same_length = search rules

  -- A write to the active row leaves the others.
  other : (k : ℕ) → k ≢ i → row_at rows' k ≡ row_at rows k
  other k ne = search rules

  -- A write to the active row is read there.
  here : row_at rows' i ≡ v
  here = search rules

  -- A row that waits is not the active one.
  not_i : (k : ℕ) → (row_at rows k).rem ≡ 0 → k ≢ i
  not_i k h eq = grind arith

  -- The delay queue is as it was.
  delayed' : All (Delayed rows') d
  delayed' = grind (arith, all_imp, same_length, other)

  -- The run queue is as it was.
  queued' : (o : Option ℕ) → ((k : ℕ) → k ≢ i → o ≡ Some k → ⊥) → All (Queued rows' o) q
  queued' o never = grind (arith, all_imp, same_length, other)

  -- The active row has some of its work left: it stays active.
  pub shape_on : 0 < v.rem → Shape (set rows i v) d q (Some i)
  shape_on pos = search (rules, delayed', queued', here)

  -- The active row has nothing left: it goes to the delay queue.
  pub shape_end : v.rem ≡ 0 → (t : ℕ) → v.next ≡ t → Shape (set rows i v) (ordered sooner (release_at t i) d) q None
  shape_end z t n = record {
    sorted = grind (arith, sorted_with, all_imp, not_i);
    delayed = grind (arith, all_ordered, same_length, here, delayed');
    rising = s.rising;
    queued = queued' None (grind arith);
    acting = grind arith;
    placed = each_set (Placed (ordered sooner e d) q None) rows i v (inl (z, any_here sooner e (λ y. y.row ≡ i) d refl)) (λ k h ne. moved k ne (s.placed k h));
  }
    where
      e : Entry
      e = release_at t i

      moved : (k : ℕ) → k ≢ i → Placed d q (Some i) k (row_at rows k) → Placed (ordered sooner e d) q None k (row_at rows k)
      moved k ne p = grind (arith, any_there)
