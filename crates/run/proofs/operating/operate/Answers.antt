use Rattle.std.proofs.Common.{◌≡◌, [], rules}
use Rattle.units.specs.Meaning.{off}
use Rattle.machine.specs.Machine.{numbers}
use Rattle.run.specs.Views.{moment}
use Rattle.run.proofs.Wholes.{operated, from_begin}
use Rattle.run.proofs.operating.operate.Goals as goal

pub returns-clause-does : goal.returns-clause-does
returns-clause-does g c =
    let unit = g.U.SpeedUnit in
    let admitted = c.in_ok-plan.ensures in
    let begun = c.in_ok-run.ensures in
    let said = c.say_all.ensures in
    let last = moment c.say_all.new.run (unit.meaning c.say_all.new.unit) in
    let none : c.in-Ok.events.items ≡ [] = search rules in
    let reached = from_begin _ _ c.in_ok-plan.plan _ c.args.starts.now (unit.meaning c.args.unit.now) c.in-Ok.events.items c.say_all.new.events.items _ last begun.fixed begun.does.0 none said.promise begun.does.1 in
    let end : c.standing.result ≡ numbers off = search rules in
    operated _ c.args.table _ _ _ c.in_ok-plan.plan _ last admitted.answer.1 admitted.answer.2 c.level-level.ensures.is admitted.lowest (simp none at said.said) reached end
