-- The calls as relations are the calls as functions.
use Rattle.std.proofs.Common.{◌≡◌, ℕ, ◌≤◌, min, ◌↔◌, Ok, Err, Result, arith, rules}
use Rattle.std.proofs.lemmas.Bool.Decides.{nat_tests}
use Rattle.fault.specs.declared.Fault.{Fault}
use Rattle.units.specs.Calls.{tick_with, AskIs, RestIs}
use Rattle.units.specs.Meaning.{Meaning, Nature, Asked, Rested, Ticked}

-- An ask, by its relation and by its functions.
pub ask_is : (n : Nature) (level : ℕ) (u : Meaning) (r : Result (Unit {0}) Fault) (u' : Meaning) →
    Asked n level u r u' ↔ ((lag : ℕ) × (lag ≤ n.raise) × AskIs n level lag u r u')
ask_is n level u (Ok x) u' = (λ t. (min u'.lag n.raise, omega arith, grind (arith, nat_tests)), λ (lag, le, is). search rules)
ask_is n level u (Err e) u' = (λ t. (0, omega arith, grind (arith, nat_tests)), λ (lag, le, is). search rules)

-- A rest, by its relation and by its functions.
pub rest_is : (ticks : ℕ) (u : Meaning) (r : Result (Unit {0}) Fault) (u' : Meaning) → Rested ticks u r u' ↔ RestIs ticks u r u'
rest_is ticks u (Ok x) u' = (λ t. grind (arith, nat_tests), λ is. search rules)
rest_is ticks u (Err e) u' = (λ t. grind (arith, nat_tests), λ is. search rules)

-- A tick, by its relation and by its function.
pub tick_is : (n : Nature) (u u' : Meaning) → Ticked n u u' ↔ ((lag : ℕ) × (lag ≤ n.wake) × (u' ≡ tick_with lag u))
tick_is n u u' = (λ t. (min u'.lag n.wake, omega arith, grind (arith, nat_tests)), λ (lag, le, is). search rules)
