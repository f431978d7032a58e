use Rattle.std.proofs.Common.{refl}
use Rattle.machine.specs.declared.word.Word.TheVariants.{GoOn, Ended}
use Rattle.witnesses.specs.Saying.{say_times, IsReached}
use Rattle.witnesses.specs.Settings.{on_ramp}
use Rattle.witnesses.specs.Waking.{at_begin, at_166, at_176, at_177, at_200}
use Rattle.witnesses.proofs.a_ramp_lags_and_wakes.Goals as goal
use Rattle.witnesses.proofs.Saying.{reached_say, reached_times}
use Rattle.witnesses.proofs.Settings.{ramp_keeps, ramp_began}

reached_166 : IsReached on_ramp at_166
reached_166 = reached_times on_ramp ramp_keeps GoOn 166 at_begin ramp_began

reached_176 : IsReached on_ramp at_176
reached_176 = reached_say on_ramp ramp_keeps Ended (say_times on_ramp GoOn 9 at_166) (reached_times on_ramp ramp_keeps GoOn 9 at_166 reached_166)

reached_200 : IsReached on_ramp at_200
reached_200 = reached_times on_ramp ramp_keeps GoOn 23 at_177 (reached_say on_ramp ramp_keeps GoOn at_176 reached_176)

pub returns : goal.returns
returns c = record {
  reached = reached_times on_ramp ramp_keeps GoOn 3 at_200 reached_200;
  stands_0 = refl;
  stands_166 = refl;
  slowed_166 = refl;
  stands_176 = refl;
  stands_177 = refl;
  stands_200 = refl;
  stands_203 = refl;
  works_203 = refl;
}
