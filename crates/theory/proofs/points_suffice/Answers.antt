use Rattle.theory.proofs.points_suffice.Goals as goal
use Rattle.theory.proofs.Suffice.{points_suffice}

pub returns : goal.returns
returns c = points_suffice
