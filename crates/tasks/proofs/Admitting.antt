-- What the answer of admission means for the jobs: the level test is exact at every listed level.
use Rattle.std.proofs.Common.{◌≡◌, ℕ, ◌<◌, ◌≤◌, Bool, true, false, cond, ◌==◌, nat_lt, nat_le, ◌↔◌, List, [], ◌∷◌, length, is_some, Some, None, Ok, Err, Option, Result, sym, refl, ap, ◌∙◌, subst, ap₂, inl, inr, ⊎_elim, arith}
use Rattle.std.proofs.lemmas.List.{nil_from_length}
use Rattle.std.proofs.lemmas.Bool.{and_parts, and_from, ltb-true, eqb-true, or_cases, or_left, or_right, cond_both, false≢true}
use Rattle.std.specs.Option.{ok_or}
use Rattle.fault.specs.declared.Fault.{Fault}
use Rattle.fault.specs.declared.Refusal.TheVariants.{BadCount, NoLevelPasses}
use Rattle.fault.specs.Faults.{fault_at}
use Rattle.theory.specs.Lists.{All, In}
use Rattle.theory.specs.Tasks.{Task, Valid}
use Rattle.theory.specs.Test.{answers, lowest, first_failing}
use Rattle.theory.specs.Theorems.{Exact}
use Rattle.theory.specs.Ticks.{PlainRunLate}
use Rattle.theory.proofs.Exact.{test_is_exact}
use Rattle.theory.proofs.Levels.{rising, lowest_finds, lowest_first, lowest_none, none_lowest}
use Rattle.tasks.specs.Admission.{some_empty, admission, plan_levels, plan_tasks, plan_answers, LowestInTime, SomeEmpty, EveryLevelLate}
use Rattle.tasks.specs.declared.plan.AdmittedPlan.{AdmittedPlan}
use Rattle.tasks.specs.declared.table.OpenTable.{OpenTable}
use Rattle.tasks.specs.Levels.{ascending, top}
use Rattle.tasks.specs.Tables.{found_level, found_answers, levels_of, tasks_of}
use Rattle.tasks.proofs.OneRow.{valid_tasks}

-- A search that found a level found that level with its answers.
pub the_found : (o : Option (ℕ × List (ℕ × ℕ))) (f : ℕ) (found : List (ℕ × ℕ)) → 1 ≤ f → found_level o ≡ f → found_answers o ≡ found → o ≡ Some (f, found)
the_found None f found some e h = absurd (omega arith)
the_found (Some x) f found some e h = ap₂ (λ (a : ℕ) (b : List (ℕ × ℕ)). Some (a, b)) e h

-- What admission answers with a level is what the search found.
pub found_by : (levels : List ℕ) (tasks : List Task) (x : ℕ × List (ℕ × ℕ)) → admission levels tasks ≡ Ok x → lowest levels tasks ≡ Some x
found_by levels tasks x h = by (some_empty levels tasks) (lowest levels tasks) _ h
  where
    by : (none : Bool) (o : Option (ℕ × List (ℕ × ℕ))) (e : Fault) → cond none (Err (fault_at BadCount 0 0)) (ok_or o e) ≡ Ok x → o ≡ Some x
    by true o e h = cc
    by false None e h = cc
    by false (Some y) e h = cc

-- The levels of a list rise.
rises : (low : ℕ) (fs : List ℕ) → ascending low fs ≡ true → rising low fs ≡ true
rises low [] h = refl
rises low (f ∷ fs) h =
    let a = and_parts (nat_lt low f) _ h in
    and_from (nat_lt low f) _ a.0 (rises f fs (and_parts (nat_le f 1000) _ a.1).1)

-- A listed level is above `low`.
above : (low : ℕ) (fs : List ℕ) (g : ℕ) → ascending low fs ≡ true → In g fs → low < g
above low [] g h m = absurd m
above low (f ∷ fs) g h m =
    let a = and_parts (nat_lt low f) _ h in
    let here = ltb-true low f a.0 in
    ⊎_elim (λ e. omega arith) (λ i. omega (arith, above f fs g (and_parts (nat_le f 1000) _ a.1).1 i)) m

-- What an answer of admission says of the reasons to refuse.
abbrev pub Judged : List ℕ → List Task → Result (ℕ × List (ℕ × ℕ)) Fault → Type 0
Judged levels tasks (Ok x) = (¬ (SomeEmpty levels tasks)) × (¬ (EveryLevelLate levels tasks))
Judged levels tasks (Err e) = ((e.refusal ≡ BadCount) ↔ SomeEmpty levels tasks) × ((e.refusal ≡ NoLevelPasses) ↔ EveryLevelLate levels tasks)

-- The two reasons are not the same.
apart : NoLevelPasses ≡ BadCount → ⊥
apart e = cc

-- One of two lists is empty just when the test says so.
says_empty : (levels : List ℕ) (tasks : List Task) → (some_empty levels tasks ≡ true) ↔ SomeEmpty levels tasks
says_empty levels tasks = (
  λ e. ⊎_elim (λ a. inl (nil_from_length levels (eqb-true _ _ a))) (λ b. inr (nil_from_length tasks (eqb-true _ _ b))) (or_cases (length levels == 0) (length tasks == 0) e),
  λ h. ⊎_elim (λ a. or_left (length levels == 0) _ (ap (λ (l : List ℕ). length l == 0) a)) (λ b. or_right (length levels == 0) (length tasks == 0) (ap (λ (l : List Task). length l == 0) b)) h,
)

module _ (levels : List ℕ) (tasks : List Task) (asc : ascending 0 levels ≡ true) (valid : All Valid tasks) where
  exact : (g : ℕ) → In g levels → Exact g tasks
  exact g m = test_is_exact g tasks (above 0 levels g asc m) valid

  -- A listed level without answers is late in the plain run.
  late : (g : ℕ) → In g levels → answers g [] tasks ≡ None → PlainRunLate g tasks
  late g m e = (exact g m).refused.0 (ap is_some e)

  -- A listed level that is late in the plain run has no answers.
  no_answers : (g : ℕ) → In g levels → PlainRunLate g tasks → answers g [] tasks ≡ None
  no_answers g m h = by (answers g [] tasks) ((exact g m).refused.1 h)
    where
      by : (o : Option (List (ℕ × ℕ))) → is_some o ≡ false → o ≡ None
      by None e = refl
      by (Some x) e = cc

  -- The level that the search finds is the lowest that keeps every deadline.
  pub in_time : (f : ℕ) (found : List (ℕ × ℕ)) → lowest levels tasks ≡ Some (f, found) → LowestInTime levels tasks f found
  in_time f found e =
      let (m, passes, first) = lowest_finds levels tasks f found e in
      record {
        is_listed = m;
        passes = passes;
        on_time = (exact f m).passed.0 (ap is_some passes);
        lower_late = λ g h lt. late g h (lowest_first 0 levels tasks f found (rises 0 levels asc) e g h lt);
      }

  -- The search finds no level just when every listed one is late.
  none_just : (lowest levels tasks ≡ None) ↔ ((g : ℕ) → In g levels → PlainRunLate g tasks)
  none_just = (λ e g m. late g m (lowest_none levels tasks e g m), λ h. none_lowest levels tasks (λ g m. no_answers g m (h g m)))

  -- Where the search finds a level, neither reason to refuse is there, and where it finds none, every level is late.
  by_search : (o : Option (ℕ × List (ℕ × ℕ))) → lowest levels tasks ≡ o → ¬ (SomeEmpty levels tasks) →
      Judged levels tasks (ok_or o (fault_at NoLevelPasses 0 (first_failing (top levels) tasks)))
  by_search (Some x) e some = (some, λ h. let no_level = none_just.1 h.1 in cc)
  by_search None e some = ((λ z. absurd (apart z), λ h. absurd (some h)), (λ _. (some, none_just.0 e), λ _. refl))

  -- The answer of admission says which reason to refuse is there.
  pub judged : Judged levels tasks (admission levels tasks)
  judged =
      cond_both (some_empty levels tasks) (Err (fault_at BadCount 0 0))
      (ok_or (lowest levels tasks) (fault_at NoLevelPasses 0 (first_failing (top levels) tasks))) (Judged levels tasks)
      (λ e. let h = (says_empty levels tasks).0 e in ((λ _. h, λ _. refl), (λ z. absurd (apart (sym z)), λ k. absurd (k.0 h))))
      (λ e. by_search (lowest levels tasks) refl (λ h. false≢true (sym e ∙ (says_empty levels tasks).1 h)))

-- What admission answers of a table says which reason to refuse is there.
of_table : (t : OpenTable) → Judged (levels_of t) (tasks_of t) (admission (levels_of t) (tasks_of t))
of_table t = judged (levels_of t) (tasks_of t) t.levels.rising (valid_tasks _)

-- A level that admission answers is the lowest that keeps every deadline.
pub answer_lowest : (t : OpenTable) (f : ℕ) (found : List (ℕ × ℕ)) → admission (levels_of t) (tasks_of t) ≡ Ok (f, found) → LowestInTime (levels_of t) (tasks_of t) f found
answer_lowest t f found e = in_time (levels_of t) (tasks_of t) t.levels.rising (valid_tasks _) f found (found_by (levels_of t) (tasks_of t) (f, found) e)

-- Neither reason to refuse is there then.
pub answer_some : (t : OpenTable) (x : ℕ × List (ℕ × ℕ)) → admission (levels_of t) (tasks_of t) ≡ Ok x →
    (¬ (SomeEmpty (levels_of t) (tasks_of t))) × (¬ (EveryLevelLate (levels_of t) (tasks_of t)))
answer_some t x e = subst (Judged (levels_of t) (tasks_of t)) e (of_table t)

-- The fault that admission answers says which reason is there.
pub fault_empty : (t : OpenTable) (f : Fault) → admission (levels_of t) (tasks_of t) ≡ Err f → (f.refusal ≡ BadCount) ↔ SomeEmpty (levels_of t) (tasks_of t)
fault_empty t f e = (subst (Judged (levels_of t) (tasks_of t)) e (of_table t)).0

pub fault_late : (t : OpenTable) (f : Fault) → admission (levels_of t) (tasks_of t) ≡ Err f → (f.refusal ≡ NoLevelPasses) ↔ EveryLevelLate (levels_of t) (tasks_of t)
fault_late t f e = (subst (Judged (levels_of t) (tasks_of t)) e (of_table t)).1

-- What the answer of admission means for a table.
pub ruleset meanings = (found_by, answer_lowest, answer_some, fault_empty)

-- The level of a plan is the lowest that keeps every deadline.
pub plan_lowest : (p : AdmittedPlan) → LowestInTime (plan_levels p) (plan_tasks p) p.level (plan_answers p)
plan_lowest p =
    in_time (plan_levels p) (plan_tasks p) p.levels.rising (valid_tasks _) p.level (plan_answers p)
    (the_found _ p.level (plan_answers p) p.some p.lowest_passing p.answered)
