-- The unit of a run: when it works, and what a tick leaves.
use Rattle.std.proofs.Common.{◌≡◌, ℕ, ◌+◌, ◌-◌, ◌≤◌, true, cond, arith, ◌==◌}
use Rattle.std.proofs.lemmas.Bool.Decides.{nat_tests}
use Rattle.units.specs.Calls.{tick_with}
use Rattle.units.specs.Meaning.{Meaning, ready, works}

-- The ticks for which a unit may not work yet, where k is the wake allowance.
abbrev pub ahead : ℕ → Meaning → ℕ
ahead k u = cond (u.rest == 0) u.lag (u.rest + k)

-- A ready unit neither rests nor lags.
pub ready_is : (u : Meaning) → ready u ≡ true → (u.rest ≡ 0) × (u.lag ≡ 0)
ready_is u e = grind arith

-- A unit that neither rests nor lags is ready.
pub ready_from : (u : Meaning) → u.rest ≡ 0 → u.lag ≡ 0 → ready u ≡ true
ready_from u r g = grind (arith, nat_tests)

-- A unit that neither rests nor lags works at the level asked for.
pub works_is : (u : Meaning) → u.rest ≡ 0 → u.lag ≡ 0 → works u ≡ u.asked
works_is u r g = grind (arith, nat_tests)

-- A unit that is not at rest works once its lag is over.
pub ahead_lag : (k : ℕ) (u : Meaning) → u.rest ≡ 0 → ahead k u ≡ u.lag
ahead_lag k u r = grind (arith, nat_tests)

-- A unit with no ticks ahead neither rests nor lags.
pub ahead_ready : (k : ℕ) (u : Meaning) → ahead k u ≡ 0 → (u.rest ≡ 0) × (u.lag ≡ 0)
ahead_ready k u z = grind arith

-- A tick leaves one tick less ahead, whatever the lag after a rest.
pub tick_ahead : (k l : ℕ) (u : Meaning) → l ≤ k → ahead k (tick_with l u) ≤ ahead k u - 1
tick_ahead k l u le = grind (arith, nat_tests)

-- A unit that works goes on working.
pub tick_still : (l : ℕ) (u : Meaning) → u.rest ≡ 0 → u.lag ≡ 0 → ((tick_with l u).rest ≡ 0) × ((tick_with l u).lag ≡ 0)
tick_still l u r g = grind arith
