use Rattle.tasks.proofs.Admitting.{fault_late}
use Rattle.tasks.proofs.table.OpenTable.refused.Goals as goal

pub returns-clause-none : goal.returns-clause-none
returns-clause-none c = fault_late c.args.self c.args.fault c.requires
