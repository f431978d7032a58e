use Rattle.machine.proofs.every_run_is_lawful.Goals as goal
use Rattle.machine.proofs.Promises.{every_run_is_lawful}

pub returns : goal.returns
returns c = every_run_is_lawful
