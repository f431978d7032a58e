-- No job is late, and none is overwritten: every row keeps a target through the run.
use Rattle.std.proofs.Common.{◌≡◌, ℕ, zero, suc, ◌+◌, ◌≤◌, Bool, List, [], ◌∷◌, map, refl, ◌∙◌, arith}
use Rattle.std.proofs.lemmas.List.{length-map}
use Rattle.theory.specs.Lists.{All}
use Rattle.theory.specs.Ticks.{Row, released, tick, run, Late, Starts, tasks}
use Rattle.theory.specs.Theorems.{EveryRowFits, NeverLate, NeverOverwritten}
use Rattle.theory.proofs.Cdiv.{cdiv_none}
use Rattle.theory.proofs.Lists.{all_two}
use Rattle.theory.proofs.Places.{sum_to, At, all_from_at, all_map, all_serve, tasks_tick, PassAt, pass_at}
use Rattle.theory.proofs.Ticks.{left, Good, Inv, good_tick, inv_tick, anew, on_time, start_good, Due, start_due}

-- A row with a target is not late k ticks on.
on_time_run : (f : ℕ) (early : ℕ → Bool) (i k n m : ℕ) (s : List Row) → 1 ≤ f → m ≡ n + k → All (Good n) s → PassAt f i (tasks s) → Inv f n i s →
    At (λ r. ¬ (Late m r)) i (run f early k n s)
on_time_run f early i zero n m s hf e g pass inv = grind (arith, on_time f n i s inv)
on_time_run f early i (suc k) n m s hf e g pass inv =
    on_time_run f early i k (suc n) m (tick f (early n) n s) hf (omega arith) (good_tick f (early n) n s g)
    (grind (arith, tasks_tick)) (inv_tick f (early n) n i s hf g pass inv)

-- A run leaves the tasks as they are.
tasks_run : (f : ℕ) (early : ℕ → Bool) (k n : ℕ) (s : List Row) → tasks (run f early k n s) ≡ tasks s
tasks_run f early zero n s = refl
tasks_run f early (suc k) n s = tasks_run f early k (suc n) (tick f (early n) n s) ∙ tasks_tick f (early n) n s

-- At a start, nothing is left.
start_idle : (f n i : ℕ) (s : List Row) → 1 ≤ f → All (Starts n) s → sum_to (left f) i s ≡ 0
start_idle f n zero s hf a = refl
start_idle f n (suc i) [] hf a = refl
start_idle f n (suc i) (r ∷ s) hf a = grind (arith, start_idle f n i s, cdiv_none f)

-- Where the demand of every row fits in time, no job is ever late, whatever the first releases and the early ends.
pub never_late : NeverLate
never_late f table hf valid fits n rows e starts early k =
    let every : EveryRowFits f (tasks rows) = grind arith in
    let g : All (Good n) rows = grind (arith, start_good) in
    all_from_at (λ r. ¬ (Late (n + k) r)) (run f early k n rows)
    (λ i h.
    let p : PassAt f i (tasks rows) = grind (arith, pass_at, tasks_run, length-map) in
    on_time_run f early i k n (n + k) rows hf refl g p (grind (arith, anew, start_idle)))

-- Through a run, unfinished jobs are due by the next release.
due_run : (f : ℕ) (early : ℕ → Bool) (k n : ℕ) (s : List Row) → All Due s → All Due (run f early k n s)
due_run f early zero n s a = a
due_run f early (suc k) n s a =
    due_run f early k (suc n) (tick f (early n) n s)
    (all_serve f (early n) Due (λ r d. grind arith) (map (released n) s)
    (all_map (released n) Due Due (λ r d. grind arith) s a))

-- Nor does a release ever find the last job of its row unfinished.
pub never_overwritten : NeverOverwritten
never_overwritten f n rows hf v starts fits early k = grind (arith, all_two, never_late, due_run, start_due)
