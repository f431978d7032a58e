use Rattle.run.proofs.Keeping.{promised}
use Rattle.run.proofs.run.Run.begin.Goals as goal

pub returns-in-Ok-clause-promised : goal.returns-in-Ok-clause-promised
returns-in-Ok-clause-promised g c = promised _ _ _ _ _ _ c.in-Ok.ensures.does
