-- A refusal with its place.
use Rattle.std.specs.Prelude.{ℕ, List, ◌∷◌, ◌++◌, codes, decimal}
use Rattle.fault.specs.declared.Fault.{Fault}
use Rattle.fault.specs.declared.Refusal.{Refusal}
use Rattle.fault.specs.Numbers.{number_of, layer_of}

-- A refusal at a line and a row, in its own layer.
abbrev pub fault_at : Refusal → ℕ → ℕ → Fault
fault_at why line row = record { refusal = why; line = line; row = row; layer = layer_of why line }

-- `refused`
abbrev pub refused_word : List ℕ
refused_word = codes "refused"

-- `refused` NUMBER LINE ROW
abbrev pub fault_text : Fault → List ℕ
fault_text f =
    refused_word ++ (32 ∷ decimal (number_of f.refusal) ++ (32 ∷ decimal f.line ++ (32 ∷ decimal f.row)))
