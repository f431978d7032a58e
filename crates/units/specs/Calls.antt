-- The calls of a speed unit as functions. A lag that the unit chooses is an argument.
use Rattle.std.specs.Prelude.{◌≡◌, ℕ, ◌-◌, ◌≤◌, cond, ◌&&◌, ◌↔◌, Some, None, Ok, Err, Option, Result, ◌==◌, nat_le, nat_lt}
use Rattle.fault.specs.declared.Fault.{Fault}
use Rattle.fault.specs.declared.Refusal.{Refusal}
use Rattle.fault.specs.declared.Refusal.TheVariants.{UnitBusy, UnknownLevel, BadRest}
use Rattle.fault.specs.Faults.{fault_at}
use Rattle.units.specs.Meaning.{Meaning, Nature, ready, Asked, Rested, Ticked}

-- What an ask for a level leaves, where it is taken.
abbrev pub ask_with : ℕ → ℕ → Meaning → Meaning
ask_with lag level u = record { asked = level; lag = cond (nat_lt u.asked level) lag u.lag; rest = u.rest }

-- What a rest leaves, where it is taken.
abbrev pub rest_for : ℕ → Meaning → Meaning
rest_for ticks u = record { asked = u.asked; lag = u.lag; rest = ticks }

-- What a tick leaves. The tick that ends a rest does not also lower the lag.
abbrev pub tick_with : ℕ → Meaning → Meaning
tick_with lag u =
    record { asked = u.asked; lag = cond (u.rest == 0) (u.lag - 1) (cond (u.rest == 1) lag u.lag); rest = u.rest - 1 }

-- Why an ask for a level is refused.
abbrev pub ask_refusal : Nature → ℕ → Meaning → Option Refusal
ask_refusal n level u = cond (ready u) (cond (n.takes level) None (Some UnknownLevel)) (Some UnitBusy)

-- Why a rest is refused.
abbrev pub rest_refusal : ℕ → Meaning → Option Refusal
rest_refusal ticks u =
    cond (ready u) (cond (nat_lt 0 ticks && (nat_le ticks 65535 && nat_lt 0 u.asked)) None (Some BadRest)) (Some UnitBusy)

-- The answer of a call, by its refusal.
abbrev pub answer : Option Refusal → Result (Unit {0}) Fault
answer None = Ok tt
answer (Some why) = Err (fault_at why 0 0)

-- What a call leaves, by its refusal: `new` where it is taken, and else what was there.
abbrev pub unless : Option Refusal → Meaning → Meaning → Meaning
unless None new u = new
unless (Some why) new u = u

-- A call that may be refused has this answer and leaves this.
abbrev pub CallIs : Option Refusal → Meaning → Meaning → Result (Unit {0}) Fault → Meaning → Type 0
CallIs why new u r u' = (r ≡ answer why) × (u' ≡ unless why new u)

-- An ask for a level, at the lag that the unit chooses for a raise: its answer, and what it leaves.
abbrev pub AskIs : Nature → ℕ → ℕ → Meaning → Result (Unit {0}) Fault → Meaning → Type 0
AskIs n level lag u r u' = CallIs (ask_refusal n level u) (ask_with lag level u) u r u'

-- A rest for some ticks: its answer, and what it leaves.
abbrev pub RestIs : ℕ → Meaning → Result (Unit {0}) Fault → Meaning → Type 0
RestIs ticks u r u' = CallIs (rest_refusal ticks u) (rest_for ticks u) u r u'

-- Each call's relation holds exactly where the answer and what is left are those of its functions, at some lag within
-- the allowance.
pub record CallsAreFunctions : Type 0 where
  pub ask : (n : Nature) (level : ℕ) (u : Meaning) (r : Result (Unit {0}) Fault) (u' : Meaning) →
      Asked n level u r u' ↔ ((lag : ℕ) × (lag ≤ n.raise) × AskIs n level lag u r u')
  pub rest : (ticks : ℕ) (u : Meaning) (r : Result (Unit {0}) Fault) (u' : Meaning) →
      Rested ticks u r u' ↔ RestIs ticks u r u'
  pub tick : (n : Nature) (u u' : Meaning) → Ticked n u u' ↔ ((lag : ℕ) × (lag ≤ n.wake) × (u' ≡ tick_with lag u))
