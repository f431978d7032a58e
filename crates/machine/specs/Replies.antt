-- What a tick replies.
use Rattle.std.specs.Prelude.{Ok, Err, Result}
use Rattle.fault.specs.declared.Fault.{Fault}
use Rattle.machine.specs.declared.word.Reply.{Reply}
use Rattle.machine.specs.declared.word.Reply.TheVariants.{Ran, Refused}
use Rattle.machine.specs.declared.word.Report.{Report}

-- The reply of a tick, by its result.
abbrev pub reply_of : Result Report Fault → Reply
reply_of (Ok report) = Ran report
reply_of (Err fault) = Refused fault
