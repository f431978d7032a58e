-- What each call of the queue does to its slots and len, whose contents are take len slots.
use Rattle.std.specs.Prelude.{◌≡◌, ℕ, ◌+◌, ◌<◌, ◌≤◌, min, Bool, List, [], ◌∷◌, length, take, Some, None, Ok, Err, Option, Result}
use Rattle.fault.specs.declared.Fault.{Fault}
use Rattle.fault.specs.declared.Refusal.TheVariants.{QueueFull}
use Rattle.fault.specs.Faults.{fault_at}
use Rattle.queue.specs.Order.{ordered}

-- A put of x: it is in its place in the contents, or every slot was taken and nothing changed.
abbrev pub Puts : {E U : Type 0} → (E → E → Bool) → List E → ℕ → E → Result U Fault → List E → ℕ → Type 0
Puts before slots len x (Ok _) slots' len' =
    (len < length slots) × (len' ≡ len + 1) × (take len' slots' ≡ ordered before x (take len slots))
Puts before slots len x (Err f) slots' len' =
    (length slots ≤ len) × (f ≡ fault_at QueueFull 0 0) × (slots' ≡ slots) × (len' ≡ len)

-- The first entry of a list, if it has one.
abbrev pub first : {E : Type 0} → List E → Option E
first [] = None
first (x ∷ xs) = Some x

-- The head taken out: it stood before what is left, or there was none and nothing changed.
abbrev pub Takes : {E : Type 0} → List E → ℕ → Option E → List E → ℕ → Type 0
Takes slots len None slots' len' = (take len slots ≡ []) × (slots' ≡ slots) × (len' ≡ len)
Takes slots len (Some x) slots' len' =
    (len' + 1 ≡ min len (length slots)) × (take len slots ≡ x ∷ take len' slots')
