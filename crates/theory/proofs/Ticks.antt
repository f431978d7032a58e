-- What a row owes up to a target: from tick to tick it fits before the target, so the row is not late.
use Rattle.std.proofs.Common.{◌≡◌, ℕ, zero, suc, ◌+◌, ◌-◌, ◌*◌, ◌<◌, ◌≤◌, Bool, List, [], ◌∷◌, map, ap, ⊎_elim, mul-le-mul_left, arith}
use Rattle.std.proofs.lemmas.Bool.{cases_lt}
use Rattle.theory.specs.Lists.{All}
use Rattle.theory.specs.Tasks.{Valid, cdiv, cost}
use Rattle.theory.specs.Ticks.{Row, released, given, serve, tick, Late, Starts, tasks}
use Rattle.theory.proofs.Cdiv.{cdiv_mono, cdiv_none, cdiv_less}
use Rattle.theory.proofs.Places.{sum_to, At, at_imp, at_map, at_unmap, at_both, all_map, by_release, all_serve, at_serve, tasks_serve, tasks_release, asks, PassAt}

-- The ticks that a row's unfinished job still takes.
abbrev pub left : ℕ → Row → ℕ
left f r = cdiv r.rem f

-- The ticks that a row's unfinished job and its releases before e take.
abbrev pub owed : ℕ → ℕ → Row → ℕ
owed f e r = cdiv r.rem f + cost f r.task * cdiv (e - r.next) r.task.period

-- What holds of each row at tick n, before its releases: it is valid, and its next release is not past.
abbrev pub Good : ℕ → Row → Type 0
Good n r = Valid r.task × (n ≤ r.next)

-- The row has the target e: it is within the deadline of a job released at n, and not after that of an unfinished job.
abbrev pub Aims : ℕ → ℕ → Row → Type 0
Aims n e r = (e ≤ n + r.task.deadline) × (0 < r.rem → e ≤ r.due)

-- At tick n the row at the place i has a target e, which is ahead, and all that is owed down to it fits before e.
abbrev pub Inv : ℕ → ℕ → ℕ → List Row → Type 0
Inv f n i s = (e : ℕ) × (n < e) × (sum_to (owed f e) (suc i) s + n ≤ e) × At (Aims n e) i s

-- What is left is owed.
pub left_owed : (f e i : ℕ) (s : List Row) → sum_to (left f) i s ≤ sum_to (owed f e) i s
left_owed f e zero s = omega arith
left_owed f e (suc i) [] = omega arith
left_owed f e (suc i) (r ∷ s) = omega (arith, left_owed f e i s)

-- A release at n adds nothing to what the row owes before e.
pub owed_released : (f n e : ℕ) (r : Row) → 1 ≤ f → n < e → Valid r.task → owed f e (released n r) ≤ owed f e r
owed_released f n e r hf h v =
    by_release n r (λ x. owed f e x ≤ owed f e r)
    (λ q.
    let same : e - (n + r.task.period) ≡ e - r.next - r.task.period = omega arith in
    let less : cdiv (e - (n + r.task.period)) r.task.period + 1 ≡ cdiv (e - r.next) r.task.period = grind (arith, cdiv_less) in
    omega (arith, ap (λ (x : ℕ). cost f r.task * x) less))
    (λ _. omega arith)

-- The releases at n add nothing to what is owed by the first rows.
owed_release : (f n e i : ℕ) (s : List Row) → 1 ≤ f → n < e → All (Good n) s → sum_to (owed f e) i (map (released n) s) ≤ sum_to (owed f e) i s
owed_release f n e zero s hf h g = omega arith
owed_release f n e (suc i) [] hf h g = omega arith
owed_release f n e (suc i) (r ∷ s) hf h g =
    omega (arith, owed_released f n e r hf h g.0.0, owed_release f n e i s hf h g.1)

-- A tick given to a job takes at least one tick of what is left.
pub left_given : (f : ℕ) (b : Bool) (r : Row) → 1 ≤ f → 0 < r.rem → cdiv (given f b r).rem f + 1 ≤ cdiv r.rem f
left_given f b r hf h = grind (arith, cdiv_less, cdiv_none)

-- Where something is left after the service, it took at least one tick of what was owed.
pub owed_serve : (f e : ℕ) (b : Bool) (i : ℕ) (s : List Row) → 1 ≤ f → 0 < sum_to (left f) i (serve f b s) → sum_to (owed f e) i (serve f b s) + 1 ≤ sum_to (owed f e) i s
owed_serve f e b zero s hf h = absurd (omega arith)
owed_serve f e b (suc i) [] hf h = absurd (omega arith)
owed_serve f e b (suc i) (r ∷ s) hf h =
    grind (arith, owed_serve f e b i s, cdiv_none f, left_given f b r)

-- After the releases at n, the next ones are later.
good_release : (n : ℕ) (s : List Row) → All (Good n) s → All (Good (suc n)) (map (released n) s)
good_release n s g = all_map (released n) (Good n) (Good (suc n)) (λ r a. grind arith) s g

-- After a tick, the next releases are still ahead.
pub good_tick : (f : ℕ) (b : Bool) (n : ℕ) (s : List Row) → All (Good n) s → All (Good (suc n)) (tick f b n s)
good_tick f b n s g = all_serve f b (Good (suc n)) (λ r a. a) (map (released n) s) (good_release n s g)

-- Where nothing is left down to the place i, the row there has no unfinished job.
nothing_left : (f i : ℕ) (s : List Row) → 1 ≤ f → sum_to (left f) (suc i) s ≡ 0 → At (λ r. r.rem ≡ 0) i s
nothing_left f i [] hf z = tt
nothing_left f zero (r ∷ s) hf z = grind arith
nothing_left f (suc i) (r ∷ s) hf z = nothing_left f i s hf (omega arith)

-- Up to p ticks ahead, no more is owed than what is left and what is asked for in p ticks.
owed_anew : (f n p i : ℕ) (s : List Row) → All (Good n) s → sum_to (owed f (n + p)) i s ≤ sum_to (left f) i s + sum_to (asks f p) i (tasks s)
owed_anew f n p zero s g = omega arith
owed_anew f n p (suc i) [] g = omega arith
owed_anew f n p (suc i) (r ∷ s) g =
    let c : cdiv (n + p - r.next) r.task.period ≤ cdiv p r.task.period = grind (arith, cdiv_mono (n + p - r.next) p) in
    omega (arith, mul-le-mul_left (cost f r.task) c, owed_anew f n p i s g.1)

-- Where nothing is left down to the place i, there is a target for the row there.
pub anew : (f n i : ℕ) (s : List Row) → 1 ≤ f → All (Good n) s → PassAt f i (tasks s) → sum_to (left f) (suc i) s ≡ 0 → Inv f n i s
anew f n i s hf g (p, some, low, fits) z = (
  n + p,
  omega arith,
  omega (arith, owed_anew f n p (suc i) s g),
  at_imp (λ r. (p ≤ r.task.deadline) × (r.rem ≡ 0)) (Aims n (n + p)) (λ r h. grind arith) i s
      (at_both (λ r. p ≤ r.task.deadline) (λ r. r.rem ≡ 0) i s (at_unmap (λ r. r.task) (λ t. p ≤ t.deadline) i s low)
      (nothing_left f i s hf z)),
)

-- The releases keep the target.
inv_release : (f n i : ℕ) (s : List Row) → 1 ≤ f → All (Good n) s → Inv f n i s → Inv f n i (map (released n) s)
inv_release f n i s hf g (e, before, fits, aims) =
    (e, before, omega (arith, owed_release f n e (suc i) s hf before g), at_map (released n) (Aims n e) (Aims n e) (λ r h. grind arith) i s aims)

-- A tick for the first unfinished job keeps the target, or leaves nothing, so that there is a new one.
pub inv_serve : (f : ℕ) (b : Bool) (n i : ℕ) (s : List Row) → 1 ≤ f → All (Good (suc n)) s → PassAt f i (tasks s) → Inv f n i s → Inv f (suc n) i (serve f b s)
inv_serve f b n i s hf g pass (e, before, fits, aims) = ⊎_elim on idle (cases_lt 0 (sum_to (left f) (suc i) (serve f b s)))
  where
    on : 0 < sum_to (left f) (suc i) (serve f b s) → Inv f (suc n) i (serve f b s)
    on h =
        let less = owed_serve f e b (suc i) s hf h in
        let reach : At (Aims n e) i (serve f b s) = at_serve f b (Aims n e) (λ r a. grind arith) i s aims in (
          e,
          omega (arith, left_owed f e (suc i) (serve f b s)),
          omega arith,
          at_imp (Aims n e) (Aims (suc n) e) (λ r a. (omega arith, a.1)) i (serve f b s) reach,
        )

    idle : sum_to (left f) (suc i) (serve f b s) ≤ 0 → Inv f (suc n) i (serve f b s)
    idle h = anew f (suc n) i (serve f b s) hf (all_serve f b (Good (suc n)) (λ r a. a) s g) (grind (arith, tasks_serve)) (omega arith)

-- A tick, with its releases, keeps the target, or leaves nothing, so that there is a new one.
pub inv_tick : (f : ℕ) (b : Bool) (n i : ℕ) (s : List Row) → 1 ≤ f → All (Good n) s → PassAt f i (tasks s) → Inv f n i s → Inv f (suc n) i (tick f b n s)
inv_tick f b n i s hf g pass inv =
    inv_serve f b n i (map (released n) s) hf (good_release n s g) (grind (arith, tasks_release)) (inv_release f n i s hf g inv)

-- A row with a target ahead is not late.
pub on_time : (f n i : ℕ) (s : List Row) → Inv f n i s → At (λ r. ¬ (Late n r)) i s
on_time f n i s (e, before, fits, aims) = at_imp (Aims n e) (λ r. ¬ (Late n r)) (λ r a l. grind arith) i s aims

-- At a start, the rows are valid and their releases ahead.
pub start_good : (n : ℕ) (s : List Row) → All Valid (tasks s) → All (Starts n) s → All (Good n) s
start_good n [] v a = tt
start_good n (r ∷ s) v a = grind (arith, start_good n s)

-- The row is valid, and an unfinished job is due by its next release.
abbrev pub Due : Row → Type 0
Due r = Valid r.task × (0 < r.rem → r.due ≤ r.next)

-- At a start, no row has an unfinished job.
pub start_due : (n : ℕ) (s : List Row) → All Valid (tasks s) → All (Starts n) s → All Due s
start_due n [] v a = tt
start_due n (r ∷ s) v a = grind (arith, start_due n s)
