use Rattle.std.proofs.Common.{Err, rules}
use Rattle.sheet.proofs.Converse.{read_exact}
use Rattle.sheet.proofs.sheet.BlankSheet.read.Goals as goal

pub returns-then-bytes-gt4096-clause-exact : goal.returns-then-bytes-gt4096-clause-exact
returns-then-bytes-gt4096-clause-exact c = read_exact c.args.bytes.now (Err c.into.result) (search rules)

pub returns-in_err-counts-clause-exact : goal.returns-in_err-counts-clause-exact
returns-in_err-counts-clause-exact c = read_exact c.args.bytes.now c.from_residual.result (search rules)

pub returns-clause-exact : goal.returns-clause-exact
returns-clause-exact c = read_exact c.args.bytes.now c.read_bodies.result (search rules)
