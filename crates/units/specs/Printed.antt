-- Where a unit stands, as printed.
use Rattle.std.specs.Prelude.{ℕ, List, ◌∷◌, ◌++◌, decimal}
use Rattle.units.specs.declared.unit.Standing.{Standing}

-- ASKED LAG REST, with one space, byte 32, between two items
abbrev pub standing_items : Standing → List ℕ
standing_items s = decimal s.asked ++ (32 ∷ decimal s.lag ++ (32 ∷ decimal s.rest))
