use Rattle.std.proofs.Common.{◌≡◌, [], drop}
use Rattle.machine.specs.Begin.{put_all}
use Rattle.run.specs.Views.{line_of}
use Rattle.run.proofs.opening.fill.Given as goal

-- With the rows that are left, the queue is the one that is wanted.
abbrev pub invariant-loop-row : goal.invariant-loop-row
invariant-loop-row l =
    (l.delay.taken ≡ l.row) × (put_all l.row (drop l.row l.firsts) (line_of l.delay) ≡ put_all 0 l.firsts [])
