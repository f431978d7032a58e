-- The text of a listing, and of a refusal.
use Rattle.std.specs.Prelude.{ℕ, ◌+◌, List, [], ◌∷◌, ◌++◌, codes, decimal}
use Rattle.fault.specs.declared.Fault.{Fault}
use Rattle.fault.specs.Faults.{fault_text}

-- ROW POINT DEMAND
abbrev pub row_text : ℕ → ℕ × ℕ → List ℕ
row_text row a = decimal row ++ (32 ∷ decimal a.0 ++ (32 ∷ decimal a.1 ++ (10 ∷ [])))

-- The rows one after the other, the first with the given number.
abbrev pub rows_text : ℕ → List (ℕ × ℕ) → List ℕ
rows_text row [] = []
rows_text row (a ∷ answers) = row_text row a ++ rows_text (row + 1) answers

-- `level`
abbrev pub level_word : List ℕ
level_word = codes "level"

-- The admitted level, and for each row, from 1, the point and the demand there.
abbrev pub listing_text : ℕ → List (ℕ × ℕ) → List ℕ
listing_text level answers = (level_word ++ (32 ∷ decimal level ++ (10 ∷ []))) ++ rows_text 1 answers

-- `refused` NUMBER LINE ROW
abbrev pub refusal_text : Fault → List ℕ
refusal_text f = fault_text f ++ (10 ∷ [])
