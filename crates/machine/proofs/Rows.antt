-- The theory's rows by place: their tasks, and a write at a place.
use Rattle.std.proofs.Common.{◌≡◌, ℕ, zero, suc, ◌<◌, Bool, ◌≢◌, List, [], ◌∷◌, length, get_or, set, refl, arith, rules}
use Rattle.std.proofs.lemmas.List.{get_or-map, length-map}
use Rattle.theory.specs.Lists.{All}
use Rattle.theory.specs.Tasks.{Task, Valid, no_task}
use Rattle.theory.specs.Ticks.{Row, given, serve, tasks, at_rest}
use Rattle.machine.specs.Plans.{task_at}
use Rattle.machine.proofs.Lists.{all_at}

-- What is read past the last row.
abbrev pub no_row : Row
no_row = at_rest no_task

-- The row at a place.
abbrev pub row_at : List Row → ℕ → Row
row_at rows k = get_or rows k no_row

-- A fact of each row holds after a write of a row that has it.
pub each_set : (P : ℕ → Row → Type 0) (rows : List Row) (i : ℕ) (v : Row) → P i v → ((k : ℕ) → k < length rows → k ≢ i → P k (row_at rows k)) →
    (k : ℕ) → k < length (set rows i v) → P k (row_at (set rows i v) k)
each_set P rows i v here there k h = search rules

-- A write that keeps the task of its row leaves the tasks as they are.
pub tasks_set : (v : Row) (i : ℕ) (xs : List Row) → v.task ≡ (row_at xs i).task → tasks (set xs i v) ≡ tasks xs
tasks_set v i [] e = refl
tasks_set v zero (x ∷ xs) e = grind arith
tasks_set v (suc i) (x ∷ xs) e = grind (arith, tasks_set v i xs)

-- The row at a place has the task that the table has there.
pub task_is : (ts : List Task) (rows : List Row) → tasks rows ≡ ts → (k : ℕ) → k < length rows → (row_at rows k).task ≡ task_at ts k
task_is ts rows e k h = grind (arith, get_or-map (λ (r : Row). r.task) rows k no_row no_task)

-- Where every task is valid, so is that of the row at each place.
pub valid_at : (rows : List Row) → All Valid (tasks rows) → (k : ℕ) → k < length rows → Valid (row_at rows k).task
valid_at rows v k h = grind (arith, all_at Valid no_task (tasks rows), task_is (tasks rows) rows refl, length-map rows (λ r. r.task))

-- The service is a write at the first row with something left.
pub serve_is : (f : ℕ) (b : Bool) (i : ℕ) (xs : List Row) → i < length xs → 0 < (row_at xs i).rem → ((k : ℕ) → k < i → (row_at xs k).rem ≡ 0) →
    serve f b xs ≡ set xs i (given f b (row_at xs i))
serve_is f b i [] h s z = absurd (omega arith)
serve_is f b zero (x ∷ xs) h s z = grind arith
serve_is f b (suc i) (x ∷ xs) h s z =
    let first = z 0 (omega arith) in grind (arith, serve_is f b i xs (omega arith) s (λ k lt. z (suc k) (omega arith)))
