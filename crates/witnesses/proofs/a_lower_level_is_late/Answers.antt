use Rattle.std.proofs.Common.{refl, inl, inr, lit<, lit≤}
use Rattle.theory.specs.Lists.{Any}
use Rattle.theory.specs.Ticks.{Late, plain}
use Rattle.witnesses.specs.Settings.{three}
use Rattle.witnesses.proofs.a_lower_level_is_late.Goals as goal

at_100 : Any (Late 100) (plain 25 100 three.tasks)
at_100 = inr (inr (inl (lit< tt, lit≤ tt)))

pub returns : goal.returns
returns c = record { admitted = refl; listed = inl refl; below = lit< tt; at_100 = at_100; late = (100, at_100) }
