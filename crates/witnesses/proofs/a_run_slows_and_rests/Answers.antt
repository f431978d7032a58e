use Rattle.std.proofs.Common.{refl, lit<}
use Rattle.machine.specs.declared.word.Word.TheVariants.{GoOn, Ended}
use Rattle.witnesses.specs.Saying.{say_times, IsReached}
use Rattle.witnesses.specs.Settings.{on_divider}
use Rattle.witnesses.specs.Slowing.{at_begin, at_160, at_180}
use Rattle.witnesses.proofs.a_run_slows_and_rests.Goals as goal
use Rattle.witnesses.proofs.Saying.{reached_say, reached_times}
use Rattle.witnesses.proofs.Settings.{three_planned, divider_keeps, divider_began}

reached_160 : IsReached on_divider at_160
reached_160 = reached_times on_divider divider_keeps GoOn 160 at_begin divider_began

reached_180 : IsReached on_divider at_180
reached_180 =
    reached_say on_divider divider_keeps Ended (say_times on_divider GoOn 19 at_160)
    (reached_times on_divider divider_keeps GoOn 19 at_160 reached_160)

pub returns : goal.returns
returns c = record {
  admitted = refl;
  planned = three_planned;
  begins = divider_began;
  reached_160 = reached_160;
  stands_160 = refl;
  slowed_160 = refl;
  below_160 = lit< tt;
  reached_180 = reached_180;
  stands_180 = refl;
  full_180 = refl;
  rests_180 = lit< tt;
}
