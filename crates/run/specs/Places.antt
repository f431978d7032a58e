-- Where the rows of a run stand.
use Rattle.std.specs.Prelude.{◌≡◌, ℕ, ◌<◌, ◌≤◌, List, [], ◌∷◌, Some, None, Option}
use Rattle.queue.specs.declared.Entry.{Entry}

-- How many rows are active.
abbrev pub one : Option ℕ → ℕ
one None = 0
one (Some i) = 1

-- No first entry has a key of at most n.
abbrev pub NoneDue : ℕ → List Entry → Type 0
NoneDue n [] = Unit {0}
NoneDue n (e ∷ es) = n < e.key

-- The first entry taken out, if its key is at most n: it stood before what is left, or it stays.
abbrev pub TakesDue : ℕ → List Entry → Option Entry → List Entry → Type 0
TakesDue n before None after = NoneDue n before × (after ≡ before)
TakesDue n before (Some e) after = (e.key ≤ n) × (before ≡ e ∷ after)
