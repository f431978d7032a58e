use Rattle.std.proofs.Common.{rules}
use Rattle.sheet.proofs.Promises.{answers_fault, answers_plan, answers_late}
use Rattle.sheet.proofs.reply.plan_of.Goals as goal

pub returns-in_err-sheet-clause-promise : goal.returns-in_err-sheet-clause-promise
returns-in_err-sheet-clause-promise c =
    let e = answers_fault c.args.bytes.now _ c.in_err-sheet.ensures.value in
    search rules

pub returns-in_err-admit-clause-promise : goal.returns-in_err-admit-clause-promise
returns-in_err-admit-clause-promise c =
    let admit = c.in_err-admit.ensures in
    let e = answers_late c.args.bytes.now _ c.in_ok-sheet.ensures.value _ admit.answer.0 admit.none.0 in
    search rules

pub returns-clause-promise : goal.returns-clause-promise
returns-clause-promise c = answers_plan c.args.bytes.now _ c.in_ok-sheet.ensures.value _ _ c.in_ok-admit.ensures.lowest
