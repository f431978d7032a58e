-- The order of readings.
use Rattle.std.specs.Prelude.{Bool, nat_le}
use Rattle.queue_examples.specs.declared.Reading.{Reading}

-- By load, the heaviest first.
abbrev pub heavier : Reading → Reading → Bool
heavier x y = nat_le y.load x.load
