use Rattle.std.proofs.Common.{rules, of_calls, add-one}
use Rattle.std.proofs.lemmas.Iterator.{YieldsList-from_slice}
use Rattle.std.proofs.lemmas.Iterator.Search.{position_from_yields_List}
use Rattle.run.proofs.Placing.{place_is}
use Rattle.run.proofs.opening.check_each.Goals as goal

pub returns-in-Some : goal.returns-in-Some
returns-in-Some g c = λ p h.
    let place = place_is p c.args.numbers.now c.position.result
    (position_from_yields_List p _ _ c.position.result c.position.ensures.ran (YieldsList-from_slice c.args.numbers.now cc) (λ x b q k. let s = h x b in search (rules, of_calls, s))) in
    search (rules, place, add-one)

pub returns : goal.returns
returns g c = λ p h.
    let place = place_is p c.args.numbers.now c.position.result
    (position_from_yields_List p _ _ c.position.result c.position.ensures.ran (YieldsList-from_slice c.args.numbers.now cc) (λ x b q k. let s = h x b in search (rules, of_calls, s))) in
    search (rules, place)
