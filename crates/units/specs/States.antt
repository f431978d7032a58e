-- The states of a ramp.
use Rattle.std.specs.Prelude.{◌≡◌, Bool, true, ◌&&◌, nat_lt, refl}
use Rattle.std.proofs.Common.{arith}
use Rattle.std.proofs.lemmas.Bool.Decides.{nat_tests}
use Rattle.std.specs.Int.NonZero.{non_zero_u32_get}
use Rattle.units.specs.Meaning.{Meaning, off}
use Rattle.units.specs.declared.ramp.State.{State}
use Rattle.units.specs.declared.ramp.State.TheVariants.{Off, Working, Changing, Asleep}

-- A level is above 0, and a change or a sleep has some ticks left.
abbrev pub lasts : State → Bool
lasts Off = true
lasts (Working level) = nat_lt 0 (non_zero_u32_get level)
lasts (Changing level left) = nat_lt 0 (non_zero_u32_get level) && nat_lt 0 (non_zero_u32_get left)
lasts (Asleep level left) = nat_lt 0 (non_zero_u32_get level) && nat_lt 0 (non_zero_u32_get left)

-- Every state lasts: the types of its numbers say so.
pub every_state_lasts : (s : State) → lasts s ≡ true
every_state_lasts Off = refl
every_state_lasts (Working level) = grind (arith, nat_tests)
every_state_lasts (Changing level left) = grind (arith, nat_tests)
every_state_lasts (Asleep level left) = grind (arith, nat_tests)

abbrev pub state_meaning : State → Meaning
state_meaning Off = off
state_meaning (Working level) = record { asked = non_zero_u32_get level; lag = 0; rest = 0 }
state_meaning (Changing level left) = record { asked = non_zero_u32_get level; lag = non_zero_u32_get left; rest = 0 }
state_meaning (Asleep level left) = record { asked = non_zero_u32_get level; lag = 0; rest = non_zero_u32_get left }
