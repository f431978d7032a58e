use Rattle.std.proofs.Common.{◌≡◌, true, rules}
use Rattle.machine.specs.Speed.{may_ask}
use Rattle.run.proofs.Asking.{asks}
use Rattle.run.proofs.speed.try_ask.Goals as goal

pub returns-then-taken-clause-does : goal.returns-then-taken-clause-does
returns-then-taken-clause-does g c =
    let may : may_ask (g.U.SpeedUnit.nature c.args.unit.now) c.args.level (g.U.SpeedUnit.meaning c.args.unit.now) ≡ true = search rules in
    let (_, (lag, le, is)) = asks _ c.args.level _ c.ask.result _ may c.ask.ensures.does in
    (lag, le, simp c.if-taken.true is)
