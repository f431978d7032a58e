-- What a ramp means, and its lags.
use Rattle.std.specs.Prelude.{◌≡◌, ℕ, Bool, ◌&&◌, List, length, Some, None, Ok, Err, count_by, Option, Result, ◌==◌, nat_le, nat_lt}
use Rattle.std.specs.List.{list_any}
use Rattle.fault.specs.declared.Refusal.{Refusal}
use Rattle.tasks.specs.Tables.{listed}
use Rattle.units.specs.Calls.{ask_with, rest_for, tick_with, ask_refusal, rest_refusal}
use Rattle.units.specs.Meaning.{Meaning, Nature, off}
use Rattle.units.specs.States.{state_meaning}
use Rattle.units.specs.declared.ramp.Event.{Event}
use Rattle.units.specs.declared.ramp.Event.TheVariants.{Ask, Rest, Tick, Off}
use Rattle.units.specs.declared.ramp.Ramp.{Ramp}
use Rattle.units.specs.declared.ramp.State.{State}

-- Whether a level stands in a list.
abbrev pub stands : List ℕ → ℕ → Bool
stands levels level = list_any (λ x. x == level) levels

-- How many levels of a list are above `low` and up to `high`.
abbrev pub between : ℕ → ℕ → List ℕ → ℕ
between low high levels = count_by (λ x. nat_lt low x && nat_le x high) levels

abbrev pub ramp_meaning : Ramp → Meaning
ramp_meaning r = state_meaning r.state

-- The nature of a ramp with these levels. It takes exactly them, and each of its lags counts some of them.
abbrev pub ramps : List ℕ → Nature
ramps levels = record { raise = length levels; wake = length levels; takes = stands levels }

abbrev pub ramp_nature : Ramp → Nature
ramp_nature r = ramps (listed r.levels)

-- Why a ramp refuses an event.
abbrev pub ramp_refusal : List ℕ → Event → Meaning → Option Refusal
ramp_refusal levels (Ask level) u = ask_refusal (ramps levels) level u
ramp_refusal levels (Rest ticks) u = rest_refusal ticks u
ramp_refusal levels Tick u = None
ramp_refusal levels Off u = None

-- What an event leaves, where it is taken. A raise has a lag tick for each level on the way, and a wake one for each level
-- up to the one asked for.
abbrev pub ramp_after : List ℕ → Event → Meaning → Meaning
ramp_after levels (Ask level) u = ask_with (between u.asked level levels) level u
ramp_after levels (Rest ticks) u = rest_for ticks u
ramp_after levels Tick u = tick_with (between 0 u.asked levels) u
ramp_after levels Off u = off

-- The state that an event leads to, or why the event is refused.
abbrev pub Moves : List ℕ → Event → Meaning → Result State Refusal → Type 0
Moves levels event u (Ok s) = (ramp_refusal levels event u ≡ None) × (state_meaning s ≡ ramp_after levels event u)
Moves levels event u (Err why) = ramp_refusal levels event u ≡ Some why
