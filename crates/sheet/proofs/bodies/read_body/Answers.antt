use Rattle.std.proofs.Common.{◌≡◌, Some, None, arith, rules}
use Rattle.std.proofs.lemmas.Option.{MatchOption-at_some, MatchOption-at_none}
use Rattle.sheet.proofs.Steps.{along_due, along_form, along_check, along_more}
use Rattle.sheet.proofs.bodies.read_body.Goals as goal

pub returns-in_err-due-clause-items : goal.returns-in_err-due-clause-items
returns-in_err-due-clause-items g c =
    let e = along_due _ _ _ _ _ _ _ _ c.loop-row.invariant.read c.loop-row-test.true (omega arith) c.in_err-due.ensures.due in
    search rules

pub returns-in_err-item-clause-items : goal.returns-in_err-item-clause-items
returns-in_err-item-clause-items g c =
    let none : c.read.result ≡ None = grind arith in
    let e = along_form _ _ _ _ _ _ _ _ c.loop-row.invariant.read c.loop-row-test.true (omega arith) c.in_ok-due.ensures.due c.due.ensures.line (MatchOption-at_none _ _ none c.read.ensures) in
    let value = c.in_err-item.ensures.value in
    let fault : c.in_err-item.field-0.0 ≡ c.new.result = grind arith in
    search rules

pub returns-in_err-take-clause-items : goal.returns-in_err-take-clause-items
returns-in_err-take-clause-items g c =
    let some : c.read.result ≡ Some c.in_ok-item.item = grind arith in
    let e = along_check _ _ _ _ _ _ _ _ c.loop-row.invariant.read c.loop-row-test.true (omega arith) c.in_ok-due.ensures.due c.due.ensures.line (MatchOption-at_some _ _ _ some c.read.ensures) c.in_err-take.ensures.items.0 in
    search rules

pub loop-row-preserved : goal.loop-row-preserved
loop-row-preserved g c =
    let some : c.read.result ≡ Some c.in_ok-item.item = grind arith in
    let e = along_more _ _ _ _ _ _ _ _ c.loop-row.invariant.read c.loop-row-test.true (omega arith) c.in_ok-due.ensures.due c.due.ensures.line (MatchOption-at_some _ _ _ some c.read.ensures) c.in_ok-take.ensures.items.0 in
    search rules
