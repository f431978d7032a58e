-- The plain run from tick to tick: what is left of the jobs, after the releases and after the service.
use Rattle.std.proofs.Common.{◌≡◌, ℕ, zero, suc, ◌+◌, ◌*◌, ◌<◌, ◌≤◌, false, ◌⊎◌, List, [], ◌∷◌, map, length, refl, ap, inl, inr, arith}
use Rattle.std.proofs.lemmas.Bool.{cases_lt}
use Rattle.theory.specs.Lists.{All, Any}
use Rattle.theory.specs.Tasks.{Valid, cdiv, cost}
use Rattle.theory.specs.Ticks.{Row, released, serve, tick, Late, tasks}
use Rattle.theory.proofs.Cdiv.{cdiv_none, cdiv_less}
use Rattle.theory.proofs.Places.{sum_to, At, all_map, by_release, all_serve, asks}
use Rattle.theory.proofs.Ticks.{left}

-- Some row is late, or none is.
pub late_or_not : (n : ℕ) (s : List Row) → Any (Late n) s ⊎ All (λ r. ¬ (Late n r)) s
late_or_not n [] = inr tt
late_or_not n (r ∷ s) = here (late_or_not n s) (cases_lt 0 r.rem) (cases_lt n r.due)
  where
    here : Any (Late n) s ⊎ All (λ x. ¬ (Late n x)) s → (0 < r.rem) ⊎ (r.rem ≤ 0) → (n < r.due) ⊎ (r.due ≤ n) →
        Any (Late n) (r ∷ s) ⊎ All (λ x. ¬ (Late n x)) (r ∷ s)
    here (inl a) h k = inl (inr a)
    here (inr a) (inl h) (inl k) = inr (λ l. omega arith, a)
    here (inr a) (inl h) (inr k) = inl (inl (h, k))
    here (inr a) (inr h) k = inr (λ l. omega arith, a)

-- What holds at a place of the list holds of some element.
pub any_from_at : {X : Type 0} (P : X → Type 0) (i : ℕ) (xs : List X) → i < length xs → At P i xs → Any P xs
any_from_at P i [] h a = absurd (omega arith)
any_from_at P zero (x ∷ xs) h a = inl a
any_from_at P (suc i) (x ∷ xs) h a = inr (any_from_at P i xs (omega arith) a)

-- What holds of every element holds at each place.
pub at_from_all : {X : Type 0} (P : X → Type 0) (i : ℕ) (xs : List X) → All P xs → At P i xs
at_from_all P i [] a = tt
at_from_all P zero (x ∷ xs) a = a.0
at_from_all P (suc i) (x ∷ xs) a = at_from_all P i xs a.1

-- In the plain run, at tick t before its releases: the next release is the first multiple of the period from t on, and an
-- unfinished job is due by then.
pub record Steady (t : ℕ) (r : Row) : Type 0 where
  pub valid : Valid r.task
  pub next_is : r.next ≡ cdiv t r.task.period * r.task.period
  pub due_by : 0 < r.rem → r.due ≤ r.next

-- A tick keeps the rows steady.
pub steady_tick : (f t : ℕ) (s : List Row) → All (Steady t) s → All (Steady (suc t)) (tick f false t s)
steady_tick f t s g =
    all_serve f false (Steady (suc t)) (λ r a. grind arith) (map (released t) s) (all_map (released t) (Steady t) (Steady (suc t)) (λ r a. grind arith) s g)

-- Where a row is not late, its release adds to what is left just what it asks for more.
left_released : (f t : ℕ) (r : Row) → 1 ≤ f → Steady t r → ¬ (Late t r) →
    left f (released t r) + asks f t r.task ≡ left f r + asks f (suc t) r.task
left_released f t r hf g ok =
    by_release t r (λ x. left f x + asks f t r.task ≡ left f r + asks f (suc t) r.task)
    (λ q.
    let z : r.rem ≡ 0 = grind arith in
    let m : cdiv (suc t) r.task.period ≡ cdiv t r.task.period + 1 = grind arith in
    omega (arith, ap (λ (x : ℕ). cost f r.task * x) m, ap (λ (x : ℕ). cdiv x f) z, cdiv_none f hf))
    (λ q. let m : cdiv (suc t) r.task.period ≡ cdiv t r.task.period = grind arith in omega (arith, ap (λ (x : ℕ). cost f r.task * x) m))

-- Over the first rows, the releases add to what is left just what is asked for more.
pub left_release : (f t i : ℕ) (s : List Row) → 1 ≤ f → All (Steady t) s → All (λ r. ¬ (Late t r)) s →
    sum_to (left f) i (map (released t) s) + sum_to (asks f t) i (tasks s) ≡ sum_to (left f) i s + sum_to (asks f (suc t)) i (tasks s)
left_release f t zero s hf g ok = refl
left_release f t (suc i) [] hf g ok = refl
left_release f t (suc i) (r ∷ s) hf g ok =
    omega (arith, left_released f t r hf g.0 ok.0, left_release f t i s hf g.1 ok.1)

-- The service takes one tick of what is left.
pub left_serve : (f i : ℕ) (s : List Row) → 1 ≤ f → 0 < sum_to (left f) i s → sum_to (left f) i (serve f false s) + 1 ≡ sum_to (left f) i s
left_serve f zero s hf h = absurd (omega arith)
left_serve f (suc i) [] hf h = absurd (omega arith)
left_serve f (suc i) (r ∷ s) hf h =
    grind (arith, left_serve f i s hf, cdiv_none, cdiv_less r.rem f)

-- The service does not end the job at the place i before those above it.
pub last_left : (f i : ℕ) (s : List Row) → 1 ≤ f → At (λ r. 0 < r.rem) i s → 0 < sum_to (left f) (suc i) (serve f false s) → At (λ r. 0 < r.rem) i (serve f false s)
last_left f i [] hf a h = tt
last_left f zero (r ∷ s) hf a h = grind (arith, cdiv_none f hf)
last_left f (suc i) (r ∷ s) hf a h = grind (arith, last_left f i s hf a, cdiv_none)
