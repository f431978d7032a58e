use Rattle.std.proofs.Common.{arith}
use Rattle.std.proofs.lemmas.Bool.Decides.{nat_tests}
use Rattle.std.proofs.lemmas.List.{take_all}
use Rattle.script.proofs.words.add_line.Goals as goal

pub returns-clause-words : goal.returns-clause-words
returns-clause-words c =
    let long = c.args.words.now.ok.0 in
    grind (arith, nat_tests, take_all)
