use Rattle.run.specs.Views.{plan_of, inner_of}
use Rattle.run.proofs.Begun.{may_begin, opens, begins}
use Rattle.run.proofs.Planning.{planned}
use Rattle.run.proofs.beginning.open.Goals as goal

pub ask_admitted-requires : goal.ask_admitted-requires
ask_admitted-requires g c =
    record {
      may = may_begin (g.U.SpeedUnit.nature c.args.unit.now) (plan_of c.args.plan.now) c.args.starts.now (g.U.SpeedUnit.meaning c.args.unit.now) (planned c.args.plan.now) c.in_ok-check.ensures.does;
    }

pub returns-clause-does : goal.returns-clause-does
returns-clause-does g c =
    let x = g.U.SpeedUnit.nature c.args.unit.now in
    let p = plan_of c.args.plan.now in
    let allowed = c.allowances-allowed in
    let asked = c.in_ok-ask_admitted.ensures in
    begins x _ p c.args.starts.now (g.U.SpeedUnit.meaning c.args.unit.now) (g.U.SpeedUnit.meaning c.ask_admitted.new.unit) _ _ (planned c.args.plan.now) c.in_ok-check.ensures.does asked.does asked.fixed
    (opens x p c.args.starts.now (inner_of c.in_ok-inner.inner) allowed.result.raise allowed.result.wake allowed.ensures.raise allowed.ensures.wake c.in_ok-inner.ensures) c.settle.ensures.does
