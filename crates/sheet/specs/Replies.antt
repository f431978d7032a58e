-- What is answered to the bytes of a sheet: the listing of its table at the lowest level that keeps every deadline, or the
-- line of the first refusal.
use Rattle.std.specs.Prelude.{ℕ, List, Ok, Err, Result}
use Rattle.fault.specs.declared.Fault.{Fault}
use Rattle.tasks.specs.Admission.{admission}
use Rattle.sheet.specs.Listing.{listing_text, refusal_text}
use Rattle.sheet.specs.Sheets.{and_then, read_sheet}

-- The admitted level of a sheet and the answers of its rows, or the first refusal.
abbrev pub admitted : List ℕ → Result (ℕ × List (ℕ × ℕ)) Fault
admitted bytes = and_then (read_sheet bytes) (λ c. admission c.levels c.tasks)

abbrev pub answered : Result (ℕ × List (ℕ × ℕ)) Fault → List ℕ
answered (Ok x) = listing_text x.0 x.1
answered (Err f) = refusal_text f

-- The text that answers a sheet.
abbrev pub answer_text : List ℕ → List ℕ
answer_text bytes = answered (admitted bytes)
