use Rattle.theory.proofs.never_overwritten.Goals as goal
use Rattle.theory.proofs.OnTime.{never_overwritten}

pub returns : goal.returns
returns c = never_overwritten
