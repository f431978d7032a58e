use Rattle.std.proofs.Common.{ℕ, refl, subst, inl, inr, arith, lit<, lit≤}
use Rattle.theory.specs.Lists.{Any, In}
use Rattle.theory.specs.Ticks.{Late, plain, PlainRunLate}
use Rattle.tasks.specs.Admission.{SomeEmpty}
use Rattle.witnesses.specs.Settings.{crowded}
use Rattle.witnesses.specs.Refusing.{too_low}
use Rattle.witnesses.proofs.a_table_is_refused.Goals as goal

at_5 : Any (Late 3) (plain 5 3 crowded)
at_5 = inr (inl (lit< tt, lit≤ tt))

at_10 : Any (Late 3) (plain 10 3 crowded)
at_10 = inr (inl (lit< tt, lit≤ tt))

each_late : (g : ℕ) → In g too_low → PlainRunLate g crowded
each_late g (inl e) = subst (λ (f : ℕ). PlainRunLate f crowded) e (3, at_5)
each_late g (inr (inl e)) = subst (λ (f : ℕ). PlainRunLate f crowded) e (3, at_10)
each_late g (inr (inr none)) = absurd none

some : ¬ (SomeEmpty too_low crowded)
some e = grind arith

pub returns : goal.returns
returns c = record { refused = refl; late_at_5 = at_5; late_at_10 = at_10; late = (some, each_late) }
