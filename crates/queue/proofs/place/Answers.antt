use Rattle.std.proofs.Common.{rules, not}
use Rattle.std.proofs.lemmas.Iterator.{YieldsList-from_slice}
use Rattle.std.proofs.lemmas.Iterator.Search.{position_from_yields_List}
use Rattle.queue.proofs.Places.{ordered_found}
use Rattle.queue.proofs.place.Goals as goal

pub returns-clause-cuts : goal.returns-clause-cuts
returns-clause-cuts g c =
    let before = g.E.Ranked.before in
    ordered_found before c.args.new c.args.entries.now _ _
    (position_from_yields_List (λ y. not (before y c.args.new)) _ _ _ c.position.ensures.ran (YieldsList-from_slice c.args.entries.now cc)
    (λ x b q k. search rules))
    c.unwrap_or.ensures
