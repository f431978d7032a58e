use Rattle.std.proofs.lemmas.List.Sums.{count_by-le-length}
use Rattle.tasks.specs.Tables.{listed}
use Rattle.units.specs.Ramp.{ramp_meaning, ramp_nature}
use Rattle.units.proofs.Calls.{ask_is}
use Rattle.units.proofs.ramp_unit.RampSpeedUnit.ask.Goals as goal

pub returns-clause-does : goal.returns-clause-does
returns-clause-does c =
    let ramp = c.args.self.now in
    (ask_is (ramp_nature ramp) c.args.level (ramp_meaning ramp) _ _).1 (_, count_by-le-length _ (listed ramp.levels), c.on.ensures.does)
