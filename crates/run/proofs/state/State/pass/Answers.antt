use Rattle.run.specs.Views.{plan_of, state_of}
use Rattle.run.proofs.Composed.{passes}
use Rattle.run.proofs.state.State.pass.Goals as goal

pub returns-clause-does : goal.returns-clause-does
returns-clause-does g c =
    let ticked = c.tick.ensures in
    passes _ _ (plan_of c.args.plan.now) (state_of c.args.self.now) (g.U.SpeedUnit.meaning c.args.unit.now) _ _ ticked.does ticked.fixed c.settle.ensures.does
