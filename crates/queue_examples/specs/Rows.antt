-- The order of rows.
use Rattle.std.specs.Prelude.{Bool, nat_le}
use Rattle.queue_examples.specs.declared.Row.{Row}

-- By number.
abbrev pub smaller : Row → Row → Bool
smaller x y = nat_le x.number y.number
