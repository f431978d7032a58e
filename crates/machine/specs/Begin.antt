-- Begin: what it refuses, and where the run then stands.
use Rattle.std.specs.Prelude.{ℕ, suc, Bool, cond, not, ◌&&◌, ◌||◌, List, [], ◌∷◌, length, replicate, Some, None, Option, ◌==◌, nat_le, nat_lt}
use Rattle.std.specs.Option.{option_map}
use Rattle.fault.specs.declared.Fault.{Fault}
use Rattle.fault.specs.declared.Refusal.TheVariants.{BadCount, LateStart, UnitNotReady, LevelNotTaken, EarlyStart}
use Rattle.fault.specs.Faults.{fault_at}
use Rattle.queue.specs.declared.Entry.{Entry}
use Rattle.queue.specs.Entries.{sooner}
use Rattle.queue.specs.Order.{ordered}
use Rattle.theory.specs.Tasks.{Task}
use Rattle.units.specs.Calls.{ask_with}
use Rattle.units.specs.Meaning.{Meaning, Nature, ready}
use Rattle.machine.specs.declared.job.Pace.TheVariants.{Full}
use Rattle.machine.specs.Inner.{release_at, no_job}
use Rattle.machine.specs.Machine.{State, Now, Lags, settle}
use Rattle.machine.specs.Plans.{Plan}

-- The place, from k on, of the first number of a list with a property.
abbrev pub place_of : (ℕ → Bool) → ℕ → List ℕ → Option ℕ
place_of bad k [] = None
place_of bad k (a ∷ bs) = cond (bad a) (Some k) (place_of bad (suc k) bs)

-- The number of first releases: none, or one for each row.
abbrev pub count_fault : ℕ → ℕ → Option Fault
count_fault rows n = cond (n == 0 || n == rows) None (Some (fault_at BadCount 0 0))

-- A first release above 65,535.
abbrev pub late_fault : List ℕ → Option Fault
late_fault starts = option_map (λ i. fault_at LateStart 0 i) (place_of (λ a. nat_lt 65535 a) 1 starts)

-- A unit that still rests or lags.
abbrev pub ready_fault : Meaning → Option Fault
ready_fault u = cond (ready u) None (Some (fault_at UnitNotReady 0 0))

-- A listed level up to the admitted one that the unit does not take.
abbrev pub untaken_fault : Nature → ℕ → List ℕ → Option Fault
untaken_fault x admitted levels = option_map (λ i. fault_at LevelNotTaken 0 i) (place_of (λ f. nat_le f admitted && not (x.takes f)) 1 levels)

-- A first release below the raise allowance.
abbrev pub early_fault : ℕ → List ℕ → Option Fault
early_fault raise starts = option_map (λ i. fault_at EarlyStart 0 i) (place_of (λ a. nat_lt a raise) 1 starts)

-- The first fault, or else the other.
abbrev pub or_else : Option Fault → Option Fault → Option Fault
or_else (Some e) other = Some e
or_else None other = other

-- What is at fault with a unit.
abbrev pub unit_fault : Nature → Plan → List ℕ → Meaning → Option Fault
unit_fault x p starts u = or_else (ready_fault u) (or_else (untaken_fault x p.admitted p.levels) (early_fault x.raise starts))

-- Why a begin is refused: for its first releases, or for its unit.
abbrev pub begin_fault : Nature → Plan → List ℕ → Meaning → Option Fault
begin_fault x p starts u = or_else (count_fault (length p.tasks) (length starts)) (or_else (late_fault starts) (unit_fault x p starts u))

-- The first releases: those that are given, or the raise allowance for each row where none is.
abbrev pub firsts : ℕ → List Task → List ℕ → List ℕ
firsts raise ts [] = replicate (length ts) raise
firsts raise ts (a ∷ bs) = a ∷ bs

-- Every row, from the row i on, is put into the delay queue.
abbrev pub put_all : ℕ → List ℕ → List Entry → List Entry
put_all i [] d = d
put_all i (a ∷ bs) d = put_all (suc i) bs (ordered sooner (release_at a i) d)

-- A run before its first settling.
abbrev pub opening : Nature → Plan → List ℕ → State
opening x p starts = record {
  count = 0;
  inner = record { delay = put_all 0 (firsts x.raise p.tasks starts) []; queue = []; active = None; jobs = replicate 32 no_job };
  pace = Full;
  raise = x.raise;
  wake = x.wake;
}

-- What an accepted begin leaves: the admitted level is asked for, and the run settles.
abbrev pub begun : Nature → Plan → List ℕ → Lags → Meaning → Now
begun x p starts l u = settle x p l (opening x p starts) (ask_with l.back p.admitted u)
