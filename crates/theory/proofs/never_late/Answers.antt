use Rattle.theory.proofs.never_late.Goals as goal
use Rattle.theory.proofs.OnTime.{never_late}

pub returns : goal.returns
returns c = never_late
