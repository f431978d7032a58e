use Rattle.run.proofs.Asking.{asks_well}
use Rattle.run.proofs.beginning.ask_admitted.Goals as goal

pub returns-clause-does : goal.returns-clause-does
returns-clause-does g c =
    let x = g.U.SpeedUnit.nature c.args.unit.now in
    let u = g.U.SpeedUnit.meaning c.args.unit.now in
    let u₁ = g.U.SpeedUnit.meaning c.ask.new.self in
    asks_well x c.args.plan.now.level u c.ask.result u₁ c.requires.may (rw c.level.ensures.is at c.ask.ensures.does)
