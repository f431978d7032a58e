-- A list of levels: each from 1 to 1,000, and above the one before.
use Rattle.std.specs.Prelude.{ℕ, ◌+◌, ◌-◌, Bool, true, cond, ◌&&◌, List, [], ◌∷◌, length, Some, None, Option, nat_le, nat_lt, slice_index}
use Rattle.fault.specs.declared.Fault.{Fault}
use Rattle.fault.specs.declared.Refusal.TheVariants.{BadCount, BadLevel}
use Rattle.fault.specs.Faults.{fault_at}

-- Each level is above the one before (the first above `low`), and at most 1,000.
abbrev pub ascending : ℕ → List ℕ → Bool
ascending low [] = true
ascending low (x ∷ xs) = nat_lt low x && (nat_le x 1000 && ascending x xs)

-- The last level of a list, and 0 where there is none.
abbrev pub top : List ℕ → ℕ
top levels = slice_index levels (length levels - 1)

-- Why a level is not taken into a list: the list is full, or the level is out of its range or not above the last one.
-- `line` is the line of the sheet that has it, 0 outside a sheet.
abbrev pub level_fault : ℕ → List ℕ → ℕ → Option Fault
level_fault line levels level =
    cond (nat_le 64 (length levels)) (Some (fault_at BadCount line 0))
    (cond (nat_lt (top levels) level && nat_le level 1000) None (Some (fault_at BadLevel line (length levels + 1))))
