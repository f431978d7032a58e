use Rattle.run.proofs.Composed.{ticked_by}
use Rattle.run.proofs.Keeping.{goes_on}
use Rattle.run.proofs.run.Run.tick.Goals as goal

pub returns-clause-does : goal.returns-clause-does
returns-clause-does g c = ticked_by _ _ c.args.said _ _ _ c.tick.ensures.does

pub returns-clause-promise : goal.returns-clause-promise
returns-clause-promise g c = goes_on _ _ _ _ _ _ (ticked_by _ _ c.args.said _ _ _ c.tick.ensures.does)
