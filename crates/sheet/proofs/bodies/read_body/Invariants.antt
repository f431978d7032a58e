use Rattle.std.proofs.Common.{◌≡◌, ◌+◌}
use Rattle.sheet.proofs.Steps.{Along}
use Rattle.sheet.proofs.bodies.read_body.Given as goal

abbrev pub invariant-loop-row : goal.invariant-loop-row
invariant-loop-row g l = record {
  read : Along g.B.Body.form g.B.Body.check l.initial.lines.line l.count l.initial.lines.text.now l.row (g.B.Body.items l.held) l.lines.text.now;
  line : l.lines.line + 1 ≡ l.initial.lines.line + l.row;
  most : g.B.Body.most l.held ≡ g.B.Body.most l.initial.held;
  others : g.B.Body.others l.held ≡ g.B.Body.others l.initial.held;
}
