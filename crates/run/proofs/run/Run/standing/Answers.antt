use Rattle.run.proofs.Composed.{stood_by}
use Rattle.run.proofs.Keeping.{goes_on}
use Rattle.run.proofs.run.Run.standing.Goals as goal

pub returns : goal.returns
returns g c = let said = stood_by _ _ _ _ c.shown.ensures in record { does = said; promise = goes_on _ _ _ _ _ _ said }
