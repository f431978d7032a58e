-- What the text that answers a sheet means for the jobs.
use Rattle.std.specs.Prelude.{◌≡◌, ℕ, ◌≤◌, ◌⊎◌, List, Err}
use Rattle.fault.specs.declared.Fault.{Fault}
use Rattle.fault.specs.declared.Refusal.TheVariants.{NoLevelPasses}
use Rattle.fault.specs.Faults.{fault_at}
use Rattle.fault.specs.Numbers.{number_of}
use Rattle.theory.specs.Test.{first_failing}
use Rattle.tasks.specs.Admission.{LowestInTime, EveryLevelLate}
use Rattle.tasks.specs.Levels.{top}
use Rattle.sheet.specs.Listing.{listing_text, refusal_text}
use Rattle.sheet.specs.Sheets.{Contents, read_sheet}
use Rattle.sheet.specs.Written.{Proper, sheet_text}

-- The text lists the lowest level of the contents that keeps every deadline, with the answers of the rows there.
abbrev pub ListsLowest : Contents → List ℕ → Type 0
ListsLowest c text = (f : ℕ) × (found : List (ℕ × ℕ)) × LowestInTime c.levels c.tasks f found × (text ≡ listing_text f found)

-- Every level of the contents leaves some job late, and the text says so, with the first row that fails at the highest.
abbrev pub SaysLate : Contents → List ℕ → Type 0
SaysLate c text = EveryLevelLate c.levels c.tasks × (text ≡ refusal_text (fault_at NoLevelPasses 0 (first_failing (top c.levels) c.tasks)))

-- The text names the first fault that the reading of the bytes meets, one of the refusals 1 to 10.
abbrev pub SaysFault : List ℕ → List ℕ → Type 0
SaysFault bytes text = (f : Fault) × (read_sheet bytes ≡ Err f) × (number_of f.refusal ≤ 10) × (text ≡ refusal_text f)

-- The text answers the bytes. Where the bytes are the text of proper contents, it lists their lowest level that keeps
-- every deadline, or says that every level is late; where they are the text of none, it names the first fault in them.
pub record AnswersSheet (bytes text : List ℕ) : Type 0 where
  pub of_sheet : (c : Contents) → Proper c → bytes ≡ sheet_text c → ListsLowest c text ⊎ SaysLate c text
  pub of_other : ((c : Contents) → Proper c → ¬ (bytes ≡ sheet_text c)) → SaysFault bytes text
