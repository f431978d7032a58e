use Rattle.tasks.proofs.Admitting.{plan_lowest}
use Rattle.tasks.proofs.plan.AdmittedPlan.level.Goals as goal

pub returns-clause-lowest : goal.returns-clause-lowest
returns-clause-lowest c = rw c.level_of.ensures (plan_lowest c.args.self.now)
