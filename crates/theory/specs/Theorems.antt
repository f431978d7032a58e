-- What is proved of the level test and of the run at one level.
use Rattle.std.specs.Prelude.{◌≡◌, ℕ, ◌+◌, ◌≤◌, Bool, true, false, ◌↔◌, List, ◌∷◌, ◌++◌}
use Rattle.theory.specs.Lists.{All, Any}
use Rattle.theory.specs.Tasks.{Task, Valid, demand}
use Rattle.theory.specs.Test.{down_to, passes, level_passes}
use Rattle.theory.specs.Ticks.{Row, run, Late, Starts, tasks, plain, PlainRunLate}

-- At some time up to the deadline of the row i, what it and the rows hi above it ask for fits.
abbrev pub FitsInTime : ℕ → List Task → Task → Type 0
FitsInTime f hi i = (t : ℕ) × (1 ≤ t) × (t ≤ i.deadline) × (demand f (down_to hi i) t ≤ t)

-- The points suffice: a row passes at one of its points just when its demand fits at any time up to its deadline.
abbrev pub PointsSuffice : Type 0
PointsSuffice = (f : ℕ) (hi : List Task) (i : Task) → 1 ≤ f → All Valid hi → Valid i → (passes f hi i ≡ true) ↔ FitsInTime f hi i

abbrev pub EveryRowFits : ℕ → List Task → Type 0
EveryRowFits f table = (hi : List Task) (i : Task) (lo : List Task) → table ≡ hi ++ (i ∷ lo) → FitsInTime f hi i

-- From any start and with any jobs that end early, no job is late at any tick.
abbrev pub Schedulable : ℕ → List Task → Type 0
Schedulable f table =
    (n : ℕ) (rows : List Row) → tasks rows ≡ table → All (Starts n) rows → (early : ℕ → Bool) (k : ℕ) →
    All (λ r. ¬ (Late (n + k) r)) (run f early k n rows)

-- Where the demand of every row fits in time, no job is ever late, whatever the first releases and the early ends.
abbrev pub NeverLate : Type 0
NeverLate = (f : ℕ) (table : List Task) → 1 ≤ f → All Valid table → EveryRowFits f table → Schedulable f table

-- Nor does a release ever find the last job of its row unfinished.
abbrev pub NeverOverwritten : Type 0
NeverOverwritten =
    (f n : ℕ) (rows : List Row) → 1 ≤ f → All Valid (tasks rows) → All (Starts n) rows → EveryRowFits f (tasks rows) →
    (early : ℕ → Bool) (k : ℕ) → All (λ r. r.next ≡ n + k → r.rem ≡ 0) (run f early k n rows)

-- Where the demand of a row does not fit in time, the plain run has a late job by the deadline of that row.
abbrev pub MustBeLate : Type 0
MustBeLate =
    (f : ℕ) (hi : List Task) (i : Task) (lo : List Task) → 1 ≤ f → All Valid (hi ++ (i ∷ lo)) → ¬ (FitsInTime f hi i) →
    (k : ℕ) × (k ≤ i.deadline) × Any (Late k) (plain f k (hi ++ (i ∷ lo)))

-- The test is exact: it passes the tables of which no job is ever late, from any start, and it refuses those of which the
-- plain run has a late job.
pub record Exact (f : ℕ) (table : List Task) : Type 0 where
  pub passed : (level_passes f table ≡ true) ↔ Schedulable f table
  pub refused : (level_passes f table ≡ false) ↔ PlainRunLate f table

abbrev pub TestIsExact : Type 0
TestIsExact = (f : ℕ) (table : List Task) → 1 ≤ f → All Valid table → Exact f table
