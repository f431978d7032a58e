-- The theory's invariant of each row, under the writes that a run makes: a release, a service, a new start.
use Rattle.std.proofs.Common.{◌≡◌, ℕ, zero, suc, ◌+◌, ◌<◌, ◌≤◌, Bool, List, [], ◌∷◌, length, set, refl, ap, subst, arith, length-set}
use Rattle.std.proofs.lemmas.List.{length-map}
use Rattle.theory.specs.Lists.{All}
use Rattle.theory.specs.Tasks.{Task, Valid, cdiv}
use Rattle.theory.specs.Theorems.{EveryRowFits}
use Rattle.theory.specs.Ticks.{Row, fresh, released, given, tasks}
use Rattle.theory.proofs.Cdiv.{cdiv_none}
use Rattle.theory.proofs.Places.{sum_to, PassAt, pass_at}
use Rattle.theory.proofs.Ticks.{left, owed, Good, Aims, Inv, owed_released, anew, inv_serve}
use Rattle.machine.proofs.Lists.{all_by, at_get, at_set, sum_set}
use Rattle.machine.proofs.Rows.{no_row, row_at, each_set, serve_is}

-- The rows at tick n, at the level f, where the unit does no work for a ticks.
pub record Sound (f n a : ℕ) (rows : List Row) : Type 0 where
  pub valid : (k : ℕ) → k < length rows → Valid (row_at rows k).task
  pub coming : (k : ℕ) → k < length rows → n ≤ (row_at rows k).next
  pub inv : (k : ℕ) → k < length rows → Inv f n k rows
  pub quiet : 0 < a → (k : ℕ) → k < length rows → ((row_at rows k).rem ≡ 0) × (n + a ≤ (row_at rows k).next)

-- A level at which every row of a table fits.
abbrev pub Passing : ℕ → List Task → Type 0
Passing f ts = (1 ≤ f) × EveryRowFits f ts

-- Rows that are valid and whose releases are ahead are good.
all_good : (n : ℕ) (rows : List Row) → ((k : ℕ) → k < length rows → Valid (row_at rows k).task) → ((k : ℕ) → k < length rows → n ≤ (row_at rows k).next) → All (Good n) rows
all_good n rows v c = all_by (Good n) no_row rows (λ k h. (v k h, c k h))

-- Where no row has an unfinished job, nothing is left.
none_left : (f m : ℕ) (rows : List Row) → 1 ≤ f → ((k : ℕ) → k < length rows → (row_at rows k).rem ≡ 0) → sum_to (left f) m rows ≡ 0
none_left f zero rows hf z = refl
none_left f (suc m) [] hf z = refl
none_left f (suc m) (r ∷ rows) hf z =
    omega (arith, ap (λ (x : ℕ). cdiv x f) (z 0 (omega arith)), cdiv_none f hf, none_left f m rows hf (λ k h. z (suc k) (omega arith)))

-- Where every row fits, so does the one at each place.
passing_at : (f k : ℕ) (rows : List Row) → Passing f (tasks rows) → k < length rows → PassAt f k (tasks rows)
passing_at f k rows p h = grind (arith, pass_at, length-map)

-- With nothing unfinished, all is set anew.
pub sound_anew : (f n a : ℕ) (rows : List Row) → Passing f (tasks rows) → ((k : ℕ) → k < length rows → Valid (row_at rows k).task) →
    ((k : ℕ) → k < length rows → ((row_at rows k).rem ≡ 0) × (n + a ≤ (row_at rows k).next)) → Sound f n a rows
sound_anew f n a rows p v z = record {
  valid = v;
  coming = grind arith;
  inv = λ k h. anew f n k rows p.0 (all_good n rows v (λ j b. omega (arith, (z j b).1))) (passing_at f k rows p h)
      (none_left f (suc k) rows p.0 (λ j b. (z j b).0));
  quiet = λ _. z;
}

-- An unfinished job is not late.
pub sound_due : (f n a : ℕ) (rows : List Row) → Sound f n a rows → (k : ℕ) → k < length rows → 0 < (row_at rows k).rem → n < (row_at rows k).due
sound_due f n a rows s k h some =
    let (e, before, fits, aims) = s.inv k h in
    omega (arith, (at_get (Aims n e) no_row k rows h aims).1 some)

-- A release at its tick keeps the rows sound.
pub sound_fresh : (f n a : ℕ) (rows : List Row) (i : ℕ) → Passing f (tasks rows) → i < length rows → (row_at rows i).next ≤ n → Sound f n a rows →
    Sound f n a (set rows i (fresh n (row_at rows i)))
sound_fresh f n a rows i p hi due s = record {
  valid = each_set (λ _ r. Valid r.task) rows i v (s.valid i hi) (λ k h _. s.valid k h);
  coming = each_set (λ _ r. n ≤ r.next) rows i v (omega arith) (λ k h _. s.coming k h);
  inv = λ k h. moved k (s.inv k (omega (arith, length-set rows i v)));
  quiet = grind arith;
}
  where
    r : Row
    r = row_at rows i

    v : Row
    v = fresh n r

    same : released n r ≡ v
    same = grind arith

    moved : (k : ℕ) → Inv f n k rows → Inv f n k (set rows i v)
    moved k (e, before, fits, aims) = (
      e,
      before,
      omega (arith, sum_set (owed f e) no_row v (suc k) i rows hi (subst (λ (x : Row). owed f e x ≤ owed f e r) same (owed_released f n e r p.0 before (s.valid i hi)))),
      at_set (Aims n e) no_row v k i rows (λ h. (h.0, λ _. h.0)) aims,
    )

-- A tick at the level f for the first unfinished job leads to sound rows at the next tick.
pub sound_serve : (f : ℕ) (b : Bool) (n a : ℕ) (rows : List Row) (i : ℕ) → Passing f (tasks rows) → i < length rows → 0 < (row_at rows i).rem →
    ((k : ℕ) → k < i → (row_at rows k).rem ≡ 0) → ((k : ℕ) → k < length rows → n < (row_at rows k).next) → Sound f n a rows →
    Sound f (suc n) 0 (set rows i (given f b (row_at rows i)))
sound_serve f b n a rows i p hi some first later s = record {
  valid = each_set (λ _ r. Valid r.task) rows i v (s.valid i hi) (λ k h _. s.valid k h);
  coming = each_set (λ _ r. suc n ≤ r.next) rows i v (later i hi) (λ k h _. later k h);
  inv = λ k h.
      let h' : k < length rows = omega (arith, length-set rows i v) in
      subst (Inv f (suc n) k) (serve_is f b i rows hi some first)
      (grind (arith, inv_serve, all_good, passing_at));
  quiet = λ pos. absurd (omega arith);
}
  where
    v : Row
    v = given f b (row_at rows i)
