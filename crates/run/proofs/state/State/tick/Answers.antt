use Rattle.std.proofs.Common.{rules, ap, ◌∙◌, ◌≡◌, Err}
use Rattle.fault.specs.declared.Fault.{Fault}
use Rattle.std.proofs.lemmas.Result.{err_from_is_err_and}
use Rattle.units.specs.Meaning.{works}
use Rattle.run.proofs.Composed.{refused, count_full}
use Rattle.run.proofs.state.State.tick.Goals as goal

pub returns-then-self-ge1000000000-clause-does : goal.returns-then-self-ge1000000000-clause-does
returns-then-self-ge1000000000-clause-does g c = count_full _ _ _ _ _ c.if-self-ge1000000000.true c.into.ensures

pub returns-in_err-report-clause-does : goal.returns-in_err-report-clause-does
returns-in_err-report-clause-does g c =
    let e = c.in_err-report.ensures in
    let (_, is, same) = err_from_is_err_and c.from_residual.result c.from_residual.ensures.1 in
    let at : works (g.U.SpeedUnit.meaning c.args.unit.now) ≡ c.works.result = search rules in
    refused _ _ _ _ _ _ _ _ c.from_residual.result c.if-self-ge1000000000.false at e.does (is ∙ ap (λ (f : Fault). Err f) same)
