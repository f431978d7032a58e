use Rattle.std.proofs.Common.{◌≡◌, ◌-◌, arith}
use Rattle.std.proofs.lemmas.Bool.Decides.{nat_tests}
use Rattle.units.proofs.ramp.Ramp.next.Goals as goal

pub returns-in-None : goal.returns-in-None
returns-in-None c =
    let is = c.in-Asleep-Tick in
    let none : c.get-in-Asleep-Tick.result - 1 ≡ 0 = c.in-None.ensures in
    rw (is.is-0, is.is-1) (grind (arith, nat_tests))
