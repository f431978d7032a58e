-- Words that are refused.
use Rattle.std.specs.Prelude.{◌≡◌}
use Rattle.fault.specs.declared.Refusal.TheVariants.{CountFull, NothingGiven}
use Rattle.fault.specs.Faults.{fault_at}
use Rattle.machine.specs.declared.word.Reply.TheVariants.{Refused}
use Rattle.machine.specs.declared.word.Word.TheVariants.{GoOn, Ended}
use Rattle.machine.specs.Machine.{State}
use Rattle.witnesses.specs.Saying.{Course, heard, IsReached}
use Rattle.witnesses.specs.Settings.{on_ramp}
use Rattle.witnesses.specs.Waking.{at_begin}

-- A state with the last tick count in place of its own.
abbrev pub at_last : State → State
at_last st = record { count = 1000000000; inner = st.inner; pace = st.pace; raise = st.raise; wake = st.wake }

-- The begin on the ramp with that count.
abbrev pub last : Course
last = record { history = at_begin.history; now = record { state = at_last at_begin.now.state; unit = at_begin.now.unit } }

-- Ended is refused in a tick that gives no units, as after a begin on the ramp, which still lags; and go-on at the last
-- count. Nothing changes.
pub record WordsRefused : Type 0 where
  pub reached : IsReached on_ramp at_begin
  pub nothing_given : heard on_ramp Ended at_begin ≡ record { reply = Refused (fault_at NothingGiven 0 0); now = at_begin.now }
  pub count_full : heard on_ramp GoOn last ≡ record { reply = Refused (fault_at CountFull 0 0); now = last.now }
