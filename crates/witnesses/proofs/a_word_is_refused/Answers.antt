use Rattle.std.proofs.Common.{refl}
use Rattle.witnesses.proofs.a_word_is_refused.Goals as goal
use Rattle.witnesses.proofs.Settings.{ramp_began}

pub returns : goal.returns
returns c = record { reached = ramp_began; nothing_given = refl; count_full = refl }
