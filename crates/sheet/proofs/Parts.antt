-- What an answer without a fault says of the parts that it comes of. The lemma hands the parts on.
use Rattle.std.proofs.Common.{◌≡◌, Ok, Err, Result, refl}
use Rattle.fault.specs.declared.Fault.{Fault}
use Rattle.sheet.specs.Sheets.{and_then}

-- Where what comes next has no fault, what was before has none.
pub ok_parts : {A B Z : Type 0} (r : Result A Fault) (k : A → Result B Fault) {y : B} → and_then r k ≡ Ok y → ((x : A) → r ≡ Ok x → k x ≡ Ok y → Z) → Z
ok_parts (Ok x) k h on = on x refl h
ok_parts (Err f) k h on = cc
