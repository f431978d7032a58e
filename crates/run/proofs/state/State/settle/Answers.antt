use Rattle.std.proofs.Common.{List, ap, ◌∙◌}
use Rattle.theory.specs.Tasks.{Task}
use Rattle.machine.specs.Inner.{release_due}
use Rattle.run.specs.Views.{plan_of, state_of}
use Rattle.run.proofs.Composed.{settles}
use Rattle.run.proofs.state.State.settle.Goals as goal

pub returns-clause-does : goal.returns-clause-does
returns-clause-does g c =
    let st = state_of c.args.self.now in
    let released = c.release_due.ensures ∙ ap (λ (ts : List Task). release_due ts st.count st.inner) c.tasks.ensures in
    let back = c.back-self.ensures in
    settles _ _ (plan_of c.args.plan.now) st (g.U.SpeedUnit.meaning c.args.unit.now) (g.U.SpeedUnit.meaning c.back-self.new.unit) _ _ _ c.back-self.result _ released c.elect.ensures back.does back.fixed c.spare-self.ensures.does
