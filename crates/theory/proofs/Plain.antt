-- A row whose demand does not fit is not finished before its deadline in the plain run, unless another row is late first.
use Rattle.std.proofs.Common.{◌≡◌, ℕ, zero, suc, ◌+◌, ◌<◌, ◌≤◌, false, List, [], ◌∷◌, ◌++◌, map, length, sym, refl, ap, subst, ⊎_elim, arith, length-append, rules}
use Rattle.std.proofs.lemmas.List.{length-map}
use Rattle.std.proofs.lemmas.Bool.{cases_lt}
use Rattle.theory.specs.Lists.{All, Any}
use Rattle.theory.specs.Tasks.{Task, Valid, demand}
use Rattle.theory.specs.Test.{down_to}
use Rattle.theory.specs.Ticks.{Row, released, tick, run, Late, tasks, at_rest}
use Rattle.theory.specs.Theorems.{MustBeLate}
use Rattle.theory.proofs.Cdiv.{cdiv_none}
use Rattle.theory.proofs.Late.{late_or_not, any_from_at, at_from_all, Steady, steady_tick, left_release, left_serve, last_left}
use Rattle.theory.proofs.Lists.{valid_above}
use Rattle.theory.proofs.Places.{sum_to, At, at_imp, at_map, at_both, all_map, by_release, at_serve, tasks_tick, asks}
use Rattle.theory.proofs.Ticks.{left}

-- What is asked for down to the place i fits at no time up to d.
abbrev Fails : ℕ → ℕ → ℕ → List Task → Type 0
Fails f i d ts = (i < length ts) × ((t : ℕ) → 1 ≤ t → t ≤ d → t < sum_to (asks f t) (suc i) ts)

-- The row is due at d, and from its release at 0 on its job is unfinished.
abbrev Waits : ℕ → ℕ → Row → Type 0
Waits d t r = (r.task.deadline ≡ d) × (0 < t → (0 < r.rem) × (r.due ≡ d))

-- The plain run at tick t, where the row at the place i does not fit by d: what is left down to it and the t ticks served
-- are what was asked for.
pub record Inv (f i d t : ℕ) (s : List Row) : Type 0 where
  pub fails : Fails f i d (tasks s)
  pub steady : All (Steady t) s
  pub sums : sum_to (left f) (suc i) s + t ≡ sum_to (asks f t) (suc i) (tasks s)
  pub waits : At (Waits d t) i s

-- The row is released at 0, and not again before d.
waits_released : (t d : ℕ) (r : Row) → t < d → Steady t r → Waits d t r → ((released t r).task.deadline ≡ d) × (0 < (released t r).rem) × ((released t r).due ≡ d)
waits_released t d r h g w =
    by_release t r (λ x. (x.task.deadline ≡ d) × (0 < x.rem) × (x.due ≡ d)) (grind arith) (λ q. grind arith)

-- A tick keeps that, where no row is late.
inv_tick : (f i d t : ℕ) (s : List Row) → 1 ≤ f → t < d → All (λ r. ¬ (Late t r)) s → Inv f i d t s → Inv f i d (suc t) (tick f false t s)
inv_tick f i d t s hf h ok inv =
    record { fails = fails'; steady = steady_tick f t s inv.steady; sums = sums'; waits = waits' }
  where
    s₁ : List Row
    s₁ = map (released t) s

    s₂ : List Row
    s₂ = tick f false t s

    same : tasks s₂ ≡ tasks s
    same = tasks_tick f false t s

    fails' : Fails f i d (tasks s₂)
    fails' = subst (Fails f i d) (sym same) inv.fails

    more : suc t < sum_to (asks f (suc t)) (suc i) (tasks s)
    more = grind arith

    moved : sum_to (left f) (suc i) s₁ + t ≡ sum_to (asks f (suc t)) (suc i) (tasks s)
    moved = omega (arith, left_release)

    less : sum_to (left f) (suc i) s₂ + 1 ≡ sum_to (left f) (suc i) s₁
    less = left_serve f (suc i) s₁ hf (omega (arith, moved, more))

    sums' : sum_to (left f) (suc i) s₂ + suc t ≡ sum_to (asks f (suc t)) (suc i) (tasks s₂)
    sums' = omega (arith, less, moved, ap (λ (l : List Task). sum_to (asks f (suc t)) (suc i) l) same)

    Set : Row → Type 0
    Set r = (r.task.deadline ≡ d) × (0 < r.rem) × (r.due ≡ d)

    set : At Set i s₁
    set = at_map (released t) (λ r. Steady t r × Waits d t r) Set (λ r a. waits_released t d r h a.0 a.1) i s
        (at_both (Steady t) (Waits d t) i s (at_from_all (Steady t) i s inv.steady) inv.waits)

    Kept : Row → Type 0
    Kept r = (r.task.deadline ≡ d) × (r.due ≡ d)

    waits' : At (Waits d (suc t)) i s₂
    waits' =
        at_imp (λ r. Kept r × (0 < r.rem)) (Waits d (suc t)) (λ r a. (a.0.0, λ _. (a.1, a.0.1))) i s₂
        (at_both Kept (λ r. 0 < r.rem) i s₂
        (at_serve f false Kept (λ r a. a) i s₁ (at_imp Set Kept (λ r a. (a.0, a.2)) i s₁ set))
        (last_left f i s₁ hf (at_imp Set (λ r. 0 < r.rem) (λ r a. a.1) i s₁ set) (omega (arith, less, moved, more))))

-- Some row is late by d.
found : (f i d l t : ℕ) (s : List Row) → 1 ≤ f → 1 ≤ d → t + l ≡ d → Inv f i d t s →
    (k : ℕ) × (m : ℕ) × (m ≡ t + k) × (k ≤ l) × Any (Late m) (run f (λ _. false) k t s)
found f i d zero t s hf hd e inv = (
  0,
  t,
  omega arith,
  omega arith,
  any_from_at (Late t) i s (omega (arith, inv.fails.0, length-map s (λ r. r.task))) (grind (arith, at_imp)),
)
found f i d (suc l) t s hf hd e inv =
    ⊎_elim (λ a. (0, t, omega arith, omega arith, a))
    (λ ok.
    let (k, m, em, h, a) = found f i d l (suc t) (tick f false t s) hf hd (omega arith) (inv_tick f i d t s hf (omega arith) ok inv) in
    (suc k, m, omega arith, omega arith, a))
    (late_or_not t s)

-- What holds of x holds at its place.
place_at : {X : Type 0} (P : X → Type 0) (hi : List X) (x : X) (lo : List X) → P x → At P (length hi) (hi ++ (x ∷ lo))
place_at P [] x lo p = p
place_at P (y ∷ hi) x lo p = place_at P hi x lo p

-- The place of x is within the list.
place_in : {X : Type 0} (hi : List X) (x : X) (lo : List X) → length hi < length (hi ++ (x ∷ lo))
place_in hi x lo = omega (arith, length-append hi (x ∷ lo))

-- The sum down to the place of a row is the demand of the rows down to it.
place_sum : (f t : ℕ) (hi : List Task) (x : Task) (lo : List Task) → sum_to (asks f t) (suc (length hi)) (hi ++ (x ∷ lo)) ≡ demand f (down_to hi x) t
place_sum f t [] x lo = refl
place_sum f t (y ∷ hi) x lo = omega (arith, place_sum f t hi x lo)

-- The rows at rest have the tasks that they are made from.
pub tasks_at_rest : (ts : List Task) → tasks (map at_rest ts) ≡ ts
tasks_at_rest [] = refl
tasks_at_rest (t ∷ ts) = ap (λ (l : List Task). t ∷ l) (tasks_at_rest ts)

-- The rows at rest are steady at tick 0.
start_steady : (ts : List Task) → All Valid ts → All (Steady 0) (map at_rest ts)
start_steady ts v =
    all_map at_rest Valid (Steady 0) (grind arith) ts v

-- At tick 0 nothing is left, and nothing is asked for.
start_sums : (f i : ℕ) (ts : List Task) → 1 ≤ f → All Valid ts → sum_to (left f) i (map at_rest ts) + 0 ≡ sum_to (asks f 0) i ts
start_sums f zero ts hf v = refl
start_sums f (suc i) [] hf v = refl
start_sums f (suc i) (t ∷ ts) hf v =
    grind (arith, start_sums f i ts, cdiv_none f, cdiv_none t.period)

-- Where the demand of a row does not fit in time, the plain run has a late job by the deadline of that row.
pub must_be_late : MustBeLate
must_be_late f hi i lo hf v no_fit =
    let (k, m, e, h, a) = found f (length hi) d d 0 s hf pos (omega arith) start in
    grind arith
  where
    table : List Task
    table = hi ++ (i ∷ lo)

    s : List Row
    s = map at_rest table

    d : ℕ
    d = i.deadline

    pos : 1 ≤ d
    pos = (valid_above hi i lo v).1.some_time

    over : (t : ℕ) → 1 ≤ t → t ≤ d → t < sum_to (asks f t) (suc (length hi)) table
    over t ht hd = grind (arith, place_sum, cases_lt)

    start : Inv f (length hi) d 0 s
    start = record {
      fails = subst (Fails f (length hi) d) (sym (tasks_at_rest table)) (place_in hi i lo, over);
      steady = start_steady table v;
      sums = search (rules, tasks_at_rest, start_sums);
      waits = at_map at_rest (λ t. t.deadline ≡ d) (Waits d 0) (λ t e. grind arith) (length hi) table
          (place_at (λ t. t.deadline ≡ d) hi i lo refl);
    }
