-- What a run asks, by what it finds.
use Rattle.std.proofs.Common.{◌≡◌, ℕ, true, None, Ok, Result, sym, MatchResult}
use Rattle.std.proofs.lemmas.Bool.{and_parts}
use Rattle.fault.specs.declared.Fault.{Fault}
use Rattle.units.proofs.Calls.{ask_is}
use Rattle.units.specs.Calls.{ask_with, ask_refusal}
use Rattle.units.specs.Meaning.{Meaning, Nature, ready, Asked}
use Rattle.machine.specs.Speed.{may_ask}
use Rattle.run.specs.Steps.{WithRaise}

-- A level that may be asked for is not refused.
taken : (x : Nature) (level : ℕ) (u : Meaning) → may_ask x level u ≡ true → ask_refusal x level u ≡ None
taken x level u e = let p = and_parts (ready u) (x.takes level) e in simp (p.0, p.1)

-- An ask that may be made is taken, with some lag within the allowance.
pub asks : (x : Nature) (level : ℕ) (u : Meaning) (r : Result (Unit {0}) Fault) (u' : Meaning) → may_ask x level u ≡ true → Asked x level u r u' →
    (r ≡ Ok tt) × WithRaise x (λ lag. ask_with lag level u) u'
asks x level u r u' e a =
    let (lag, le, is) = (ask_is x level u r u').0 a in
    let (ok, left) = rw (taken x level u e) at is in
    (ok, (lag, le, sym left))

-- So it is not refused.
pub asks_well : (x : Nature) (level : ℕ) (u : Meaning) (r : Result (Unit {0}) Fault) (u' : Meaning) → may_ask x level u ≡ true → Asked x level u r u' →
    MatchResult r (λ _. WithRaise x (λ lag. ask_with lag level u) u') (λ _. ⊥)
asks_well x level u r u' e a = let p = asks x level u r u' e a in rw p.0 p.1
