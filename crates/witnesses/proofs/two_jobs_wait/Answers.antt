use Rattle.std.proofs.Common.{refl, lit<, lit≤}
use Rattle.machine.specs.declared.word.Word.TheVariants.{GoOn}
use Rattle.witnesses.specs.Saying.{from_begin}
use Rattle.witnesses.specs.Settings.{on_divider}
use Rattle.witnesses.proofs.two_jobs_wait.Goals as goal
use Rattle.witnesses.proofs.Saying.{reached_times}
use Rattle.witnesses.proofs.Settings.{divider_keeps, divider_began}

pub returns : goal.returns
returns c = record {
  reached = reached_times on_divider divider_keeps GoOn 10 (from_begin on_divider) divider_began;
  finished = refl;
  row_2 = (lit< tt, lit≤ tt, lit≤ tt);
  row_3 = (lit< tt, lit≤ tt, lit≤ tt);
  works_at = refl;
}
