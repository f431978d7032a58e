-- What a divider means.
use Rattle.std.specs.Prelude.{ℕ, ◌%◌, ◌&&◌, ◌==◌, nat_lt}
use Rattle.units.specs.Meaning.{Meaning, Nature}
use Rattle.units.specs.Standing.{standing_meaning}
use Rattle.units.specs.declared.divider.Divider.{Divider}

abbrev pub divider_meaning : Divider → Meaning
divider_meaning d = standing_meaning d.standing

-- The nature of a divider with this rate and this wake count. It takes the levels that divide its rate, raises with no
-- lag, and wakes with its wake count.
abbrev pub divides : ℕ → ℕ → Nature
divides rate wake = record { raise = 0; wake = wake; takes = λ level. nat_lt 0 level && (rate % level == 0) }

abbrev pub divider_nature : Divider → Nature
divider_nature d = divides d.rate d.wake
