-- What a check of numbers in turn answers.
use Rattle.std.specs.Prelude.{◌≡◌, ℕ, Bool, List, Some, None, Option, Result, MatchResult}
use Rattle.std.specs.Option.{option_map}
use Rattle.fault.specs.declared.Fault.{Fault}
use Rattle.fault.specs.declared.Refusal.{Refusal}
use Rattle.fault.specs.Faults.{fault_at}
use Rattle.machine.specs.Begin.{place_of}

-- The refusal of the first number of a list with a property, at its place.
abbrev pub first_fault : Refusal → (ℕ → Bool) → List ℕ → Option Fault
first_fault why bad xs = option_map (λ i. fault_at why 0 i) (place_of bad 1 xs)

-- An answer refuses that number, or accepts where there is none.
abbrev pub RefusesFirst : Refusal → (ℕ → Bool) → List ℕ → Result (Unit {0}) Fault → Type 0
RefusesFirst why bad xs answer = MatchResult answer (λ _. first_fault why bad xs ≡ None) (λ e. first_fault why bad xs ≡ Some e)
