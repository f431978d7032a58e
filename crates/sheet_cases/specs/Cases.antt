-- Worked cases of admission, computed from the definitions.
use Rattle.std.specs.Prelude.{◌≡◌, ℕ, List, [], ◌∷◌, Ok, Err}
use Rattle.fault.specs.declared.Refusal.TheVariants.{NoLevelPasses}
use Rattle.fault.specs.Faults.{fault_at}
use Rattle.theory.specs.Tasks.{Task}
use Rattle.tasks.specs.Admission.{admission}
use Rattle.tasks.specs.Tables.{numbers}

-- Three tasks that pass at 50 units a tick, with nothing to spare.
abbrev pub three : List Task
three = numbers 50 50 500 ∷ numbers 80 80 1000 ∷ numbers 100 100 2000 ∷ []

-- One task that takes a whole tick at 1,000 units.
abbrev pub one : List Task
one = numbers 1 1 1000 ∷ []

-- Two tasks, the second with a deadline before its period; its work is given.
abbrev pub two : ℕ → List Task
two work = numbers 3 3 1 ∷ numbers 7 5 work ∷ []

-- Two equal tasks that take two ticks each at 10 units, though three ticks have room for their summed work.
abbrev pub equal : List Task
equal = numbers 3 3 15 ∷ numbers 3 3 15 ∷ []

pub record WorkedCases : Type 0 where
  -- the lowest level that passes is not the lowest listed
  pub middle : admission (25 ∷ 50 ∷ 100 ∷ []) three ≡ Ok (50, (50, 10) ∷ (50, 30) ∷ (80, 80) ∷ [])
  pub just_below : admission (49 ∷ 50 ∷ []) three ≡ Ok (50, (50, 10) ∷ (50, 30) ∷ (80, 80) ∷ [])
  pub too_low : admission (49 ∷ []) three ≡ Err (fault_at NoLevelPasses 0 3)
  pub full_tick : admission (999 ∷ 1000 ∷ []) one ≡ Ok (1000, (1, 1) ∷ [])
  pub over_a_tick : admission (999 ∷ []) one ≡ Err (fault_at NoLevelPasses 0 1)
  -- the deadline itself is a point
  pub at_deadline : admission (1 ∷ []) (two 3) ≡ Ok (1, (3, 1) ∷ (5, 5) ∷ [])
  pub past_deadline : admission (1 ∷ []) (two 4) ≡ Err (fault_at NoLevelPasses 0 2)
  -- each job takes whole ticks
  pub whole_ticks : admission (10 ∷ []) equal ≡ Err (fault_at NoLevelPasses 0 2)
  pub next_level : admission (10 ∷ 15 ∷ []) equal ≡ Ok (15, (3, 1) ∷ (3, 2) ∷ [])
