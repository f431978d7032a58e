use Rattle.std.proofs.Common.{arith}
use Rattle.tasks.specs.Tables.{listed}
use Rattle.units.proofs.Ramping.{asked_lag}
use Rattle.units.proofs.ramp.Ramp.asked.Goals as goal

pub returns-in-Some : goal.returns-in-Some
returns-in-Some c = grind (arith, asked_lag c.args.old c.args.level (listed c.args.self.now.levels))
