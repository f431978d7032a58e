-- The queues hold just the rows that they should: through the releases and the choice of the active row.
use Rattle.std.proofs.Common.{◌≡◌, ℕ, ◌<◌, true, false, ◌≢◌, ◌⊎◌, List, [], ◌∷◌, length, set, Some, None, Option, sym, refl, inl, inr, arith, length-set}
use Rattle.std.proofs.lemmas.List.{get_or-set_same, get_or-set_other}
use Rattle.std.proofs.lemmas.Bool.{cases_lt, cond_both}
use Rattle.queue.specs.declared.Entry.{Entry}
use Rattle.queue.specs.Entries.{sooner}
use Rattle.queue.specs.Order.{ordered}
use Rattle.theory.specs.Lists.{All, Any}
use Rattle.theory.specs.Tasks.{Valid}
use Rattle.theory.specs.Ticks.{Row, fresh}
use Rattle.theory.proofs.Lists.{all_imp, all_two}
use Rattle.machine.specs.declared.job.Job.{Job}
use Rattle.machine.specs.Inner.{Inner, in_line, elected}
use Rattle.machine.proofs.Lists.{Pairs, any_all, all_ordered, any_here, any_there}
use Rattle.machine.proofs.Orders.{Apart, Rising, rows_true, rows_false, rising_with}
use Rattle.machine.proofs.Rows.{no_row, row_at, each_set}

-- The row has no unfinished job, and its next release is at tick t.
abbrev pub Waits : ℕ → Row → Type 0
Waits t r = (r.rem ≡ 0) × (r.next ≡ t)

-- What holds of an entry of the delay queue.
abbrev pub Delayed : List Row → Entry → Type 0
Delayed rows e = (e.row < length rows) × Waits e.key (row_at rows e.row)

-- What holds of an entry of the run queue, where a is the active row.
abbrev pub Queued : List Row → Option ℕ → Entry → Type 0
Queued rows a e = (e.row < length rows) × (0 < (row_at rows e.row).rem) × (a ≡ Some e.row → ⊥) × (e.key ≡ 0)

-- A row that waits for its release is in the delay queue; one with an unfinished job is active or in the run queue.
abbrev pub Placed : List Entry → List Entry → Option ℕ → ℕ → Row → Type 0
Placed d q a k r = ((r.rem ≡ 0) × Any (λ e. e.row ≡ k) d) ⊎ ((0 < r.rem) × ((a ≡ Some k) ⊎ Any (λ e. e.row ≡ k) q))

-- The delay queue d, the run queue q and the active row a hold the rows as they should.
pub record Shape (rows : List Row) (d q : List Entry) (a : Option ℕ) : Type 0 where
  pub sorted : Pairs Apart d
  pub delayed : All (Delayed rows) d
  pub rising : Pairs Rising q
  pub queued : All (Queued rows a) q
  pub acting : (i : ℕ) → a ≡ Some i → (i < length rows) × (0 < (row_at rows i).rem)
  pub placed : (k : ℕ) → k < length rows → Placed d q a k (row_at rows k)

-- The active row goes before those of the run queue, and there is one if that is not empty.
abbrev pub Chosen : List Entry → Option ℕ → Type 0
Chosen q None = q ≡ []
Chosen q (Some i) = All (λ e. i < e.row) q

-- A release moves its row from the one queue to the other.
pub shape_pop : (n : ℕ) (rows : List Row) (e : Entry) (es q : List Entry) (a : Option ℕ) → Valid (row_at rows e.row).task → Shape rows (e ∷ es) q a →
    Shape (set rows e.row (fresh n (row_at rows e.row))) es (ordered sooner (in_line e.row) q) a
shape_pop n rows e es q a valid s = record {
  sorted = s.sorted.1;
  delayed = grind (arith, all_two, same_length, other);
  rising = grind (arith, rising_with, all_imp);
  queued = all_ordered sooner (in_line i) (Queued rows' a) q (grind (arith, here, same_length)) (grind (arith, all_imp, other, not_i, same_length));
  acting = λ j eq. let h = s.acting j eq in grind (arith, other j, not_i j, same_length);
  placed = each_set (Placed es (ordered sooner (in_line i) q) a) rows i v (inr (omega arith, inr (any_here sooner (in_line i) (λ y. y.row ≡ i) q refl)))
      (λ k h ne. moved k ne (s.placed k h));
}
  where
    i : ℕ
    i = e.row

    v : Row
    v = fresh n (row_at rows i)

    rows' : List Row
    rows' = set rows i v

    same_length : length rows' ≡ length rows
    same_length = length-set rows i v

    in_rows : i < length rows
    in_rows = s.delayed.0.0

    here : row_at rows' i ≡ v
    here = get_or-set_same rows i v no_row in_rows

    other : (k : ℕ) → k ≢ i → row_at rows' k ≡ row_at rows k
    other k ne = get_or-set_other rows i k v no_row ne

    not_i : (k : ℕ) → 0 < (row_at rows k).rem → k ≢ i
    not_i k h eq = grind arith

    moved : (k : ℕ) → k ≢ i → Placed (e ∷ es) q a k (row_at rows k) → Placed es (ordered sooner (in_line i) q) a k (row_at rows k)
    moved k ne (inl (z, inl eq)) = absurd (ne (sym eq))
    moved k ne (inl (z, inr m)) = inl (z, m)
    moved k ne (inr (p, inl eq)) = inr (p, inl eq)
    moved k ne (inr (p, inr m)) = grind (arith, any_there)

-- The queues are as they should be, and the active row is chosen.
abbrev pub Elected : List Row → Inner → Type 0
Elected rows s = Shape rows s.delay s.queue s.active × Chosen s.queue s.active

-- The choice of the active row keeps the queues as they should be.
pub shape_elect : (rows : List Row) (d q : List Entry) (a : Option ℕ) (js : List Job) → Shape rows d q a →
    Elected rows (elected q a (record { delay = d; queue = q; active = a; jobs = js }))
shape_elect rows d [] None js s = (s, refl)
shape_elect rows d [] (Some i) js s = (s, tt)
shape_elect rows d (h ∷ q) None js s = grind (arith, all_two)
shape_elect rows d (h ∷ q) (Some i) js s =
    cond_both (sooner (in_line i) h) (record { delay = d; queue = h ∷ q; active = Some i; jobs = js })
    (record { delay = d; queue = ordered sooner (in_line i) q; active = Some h.row; jobs = js }) (Elected rows) stays goes
  where
    moved : (k : ℕ) → Placed d (h ∷ q) (Some i) k (row_at rows k) → Placed d (ordered sooner (in_line i) q) (Some h.row) k (row_at rows k)
    moved k (inl z) = inl z
    moved k (inr (p, inl eq)) = inr (p, inr (any_here sooner (in_line i) (λ y. y.row ≡ k) q (grind arith)))
    moved k (inr (p, inr (inl eq))) = grind arith
    moved k (inr (p, inr (inr m))) = inr (p, inr (any_there sooner (in_line i) (λ y. y.row ≡ k) q m))

    goes : sooner (in_line i) h ≡ false → Elected rows (record { delay = d; queue = ordered sooner (in_line i) q; active = Some h.row; jobs = js })
    goes e =
        let lt : h.row < i = rows_false (in_line i) h (sym s.queued.0.3) e in
        let act = s.acting i refl in (
          record {
            sorted = s.sorted;
            delayed = s.delayed;
            rising = grind (arith, rising_with, all_imp);
            queued = grind (arith, all_ordered, all_two);
            acting = grind arith;
            placed = λ k b. moved k (s.placed k b);
          },
          grind (arith, all_ordered),
        )

    stays : sooner (in_line i) h ≡ true → Elected rows (record { delay = d; queue = h ∷ q; active = Some i; jobs = js })
    stays e = grind (arith, rows_true, cases_lt, all_imp)

-- Where none is active, no row has an unfinished job.
pub none_active : (rows : List Row) (d q : List Entry) → Shape rows d q None → Chosen q None → (k : ℕ) → k < length rows → (row_at rows k).rem ≡ 0
none_active rows d q s c k h = grind arith

-- No row before the active one has an unfinished job.
pub before_active : (rows : List Row) (d q : List Entry) (i : ℕ) → Shape rows d q (Some i) → Chosen q (Some i) → (k : ℕ) → k < i → (row_at rows k).rem ≡ 0
before_active rows d q i s c k lt = from (s.placed k (omega (arith, (s.acting i refl).0)))
  where
    from : Placed d q (Some i) k (row_at rows k) → (row_at rows k).rem ≡ 0
    from (inl h) = grind arith
    from (inr (p, inl eq)) = grind arith
    from (inr (p, inr m)) = absurd (any_all (λ e. e.row ≡ k) (λ e. i < e.row) ⊥ (λ e eq b. omega arith) q m c)

-- With an empty run queue, no row but the active one has an unfinished job.
pub one_active : (rows : List Row) (d : List Entry) (i : ℕ) → Shape rows d [] (Some i) → (k : ℕ) → k < length rows → k ≢ i → (row_at rows k).rem ≡ 0
one_active rows d i s k h ne = grind arith

-- What holds of every key of the delay queue holds of the next release of each row that waits.
pub waits_all : (rows : List Row) (d q : List Entry) (a : Option ℕ) (P : ℕ → Type 0) → Shape rows d q a → All (λ e. P e.key) d →
    (k : ℕ) → k < length rows → (row_at rows k).rem ≡ 0 → P (row_at rows k).next
waits_all rows d q a P s all k h z = from (s.placed k h)
  where
    from : Placed d q a k (row_at rows k) → P (row_at rows k).next
    from (inl (z', m)) =
        any_all (λ e. e.row ≡ k) (λ e. Delayed rows e × P e.key) (P (row_at rows k).next)
        (λ e eq b. grind arith) d m
        (grind (arith, all_two))
    from (inr (p, m)) = absurd (omega arith)
