-- What a standing means.
use Rattle.units.specs.Meaning.{Meaning}
use Rattle.units.specs.declared.unit.Standing.{Standing}

abbrev pub standing_meaning : Standing → Meaning
standing_meaning s = record { asked = s.asked; lag = s.lag; rest = s.rest }
