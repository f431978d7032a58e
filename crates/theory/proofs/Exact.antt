-- The test is exact: where it passes no job is ever late, and where it refuses the plain run has a late job.
use Rattle.std.proofs.Common.{◌≡◌, ℕ, ◌≤◌, true, false, List, [], ◌∷◌, ◌++◌, map, is_some, refl, subst, inl, inr, ⊎_elim, append_assoc, zero-add, arith, rules}
use Rattle.std.proofs.lemmas.Bool.{cases_Bool, and_cases, true≢false}
use Rattle.theory.specs.Lists.{All, Any}
use Rattle.theory.specs.Tasks.{Task, Valid}
use Rattle.theory.specs.Test.{down_to, passes, answers, level_passes}
use Rattle.theory.specs.Ticks.{Row, Late, Starts, plain, at_rest, PlainRunLate}
use Rattle.theory.specs.Theorems.{EveryRowFits, Schedulable, TestIsExact}
use Rattle.theory.proofs.Lists.{valid_above}
use Rattle.theory.proofs.OnTime.{never_late}
use Rattle.theory.proofs.Plain.{must_be_late, tasks_at_rest}
use Rattle.theory.proofs.Suffice.{points_suffice}

-- Where the rows under `pre` have answers, each of them passes.
pub each : (f : ℕ) (pre hi : List Task) (i : Task) (lo : List Task) → is_some (answers f pre (hi ++ (i ∷ lo))) ≡ true → passes f (pre ++ hi) i ≡ true
each f pre [] i lo h = search rules
each f pre (x ∷ hi) i lo h = grind (arith, append_assoc pre (x ∷ []) hi, each f (down_to pre x) hi i lo)

-- A row of the table that does not pass under those above it.
pub record Refused (f : ℕ) (pre table : List Task) : Type 0 where
  pub above : List Task
  pub row : Task
  pub under : List Task
  pub split : table ≡ above ++ (row ∷ under)
  pub fails : passes f (pre ++ above) row ≡ false

-- Where the rows under `pre` do not all have answers, one of them does not pass.
pub refused_row : (f : ℕ) (pre table : List Task) → is_some (answers f pre table) ≡ false → Refused f pre table
refused_row f pre [] h = absurd (true≢false h)
refused_row f pre (x ∷ table) h =
    ⊎_elim (λ e. record { above = []; row = x; under = table; split = refl; fails = search rules })
    (λ e. later (refused_row f (down_to pre x) table e))
    (and_cases (passes f pre x) (is_some (answers f (down_to pre x) table)) (grind arith))
  where
    later : Refused f (down_to pre x) table → Refused f pre (x ∷ table)
    later r = record {
      above = x ∷ r.above;
      row = r.row;
      under = r.under;
      split = grind arith;
      fails = grind (arith, append_assoc pre (x ∷ []) r.above);
    }

-- Some row cannot be late where none is.
pub none_late : (k : ℕ) (s : List Row) → Any (Late k) s → All (λ r. ¬ (Late k r)) s → ⊥
none_late k [] a b = a
none_late k (r ∷ s) (inl l) b = b.0 l
none_late k (r ∷ s) (inr a) b = none_late k s a b.1

-- The rows at rest are at a start.
starts_at_rest : (ts : List Task) → All (Starts 0) (map at_rest ts)
starts_at_rest [] = tt
starts_at_rest (t ∷ ts) = ((refl, omega arith), starts_at_rest ts)

-- The plain run of a table of which no job is ever late is not late.
not_both : (f : ℕ) (table : List Task) → Schedulable f table → PlainRunLate f table → ⊥
not_both f table safe (k, late) =
    none_late k (plain f k table) late
    (subst (λ (x : ℕ). All (λ r. ¬ (Late x r)) (plain f k table)) (zero-add k) (grind (arith, tasks_at_rest, starts_at_rest)))

-- Where the level passes, every row fits in time.
pub every_row_fits : (f : ℕ) (table : List Task) → 1 ≤ f → All Valid table → level_passes f table ≡ true → EveryRowFits f table
every_row_fits f table hf v h hi i lo e = grind (arith, valid_above, points_suffice, each)

-- Where the level is refused, the plain run is late.
pub refused_late : (f : ℕ) (table : List Task) → 1 ≤ f → All Valid table → level_passes f table ≡ false → PlainRunLate f table
refused_late f table hf v h =
    let r = refused_row f [] table h in
    let all : All Valid (r.above ++ (r.row ∷ r.under)) = grind arith in
    let (k, low, late) = must_be_late f r.above r.row r.under hf all (λ fit. grind (arith, valid_above, points_suffice)) in grind arith

-- The test passes just the tables of which no job is ever late, and refuses just those of which the plain run is late.
pub test_is_exact : TestIsExact
test_is_exact f table hf v = record { passed = (passed, schedulable); refused = (refused_late f table hf v, late) }
  where
    passed : level_passes f table ≡ true → Schedulable f table
    passed h = never_late f table hf v (every_row_fits f table hf v h)

    schedulable : Schedulable f table → level_passes f table ≡ true
    schedulable safe = grind (arith, not_both, refused_late, cases_Bool)

    late : PlainRunLate f table → level_passes f table ≡ false
    late l = ⊎_elim (λ h. absurd (not_both f table (passed h) l)) (λ h. h) (cases_Bool (level_passes f table))
