-- What the code of a body answers.
use Rattle.std.specs.Prelude.{◌≡◌, ℕ, List, Ok, Err, Result}
use Rattle.fault.specs.declared.Fault.{Fault}

-- The items of a body are there, and the text after it is left; or the body's fault is the answer.
abbrev pub Reads : {X : Type 0} → Result (List X × List ℕ) Fault → List X → List ℕ → Result (Unit {0}) Fault → Type 0
Reads read items text (Ok _) = read ≡ Ok (items, text)
Reads read items text (Err f) = read ≡ Err f
