use Rattle.std.proofs.Common.{◌≡◌, map}
use Rattle.tasks.specs.Tables.{task_of}
use Rattle.machine.specs.Inner.{release_due}
use Rattle.run.specs.Views.{inner_of}
use Rattle.run.proofs.inner.Inner.release_due.Given as goal

-- What is still to be released leaves the rows as all the releases do.
abbrev pub invariant-loop-key : goal.invariant-loop-key
invariant-loop-key l = release_due (map task_of l.tasks) l.tick (inner_of l.self) ≡ release_due (map task_of l.tasks) l.tick (inner_of l.initial.self)

abbrev pub decreases-loop-key : goal.decreases-loop-key
decreases-loop-key l = l.self.delay.taken
