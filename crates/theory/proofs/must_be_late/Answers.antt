use Rattle.theory.proofs.must_be_late.Goals as goal
use Rattle.theory.proofs.Plain.{must_be_late}

pub returns : goal.returns
returns c = must_be_late
