use Rattle.std.proofs.Common.{◌≡◌, true, false, [], ◌∷◌, refl, arith, lit<, lit≤}
use Rattle.theory.specs.Tasks.{Task}
use Rattle.theory.proofs.Suffice.{points_suffice}
use Rattle.tasks.specs.Tables.{numbers}
use Rattle.machine.specs.Machine.{Within}
use Rattle.machine.specs.Plans.{Planned}
use Rattle.witnesses.specs.Lateness.{long_lags, overfull}
use Rattle.witnesses.specs.Settings.{hundred}
use Rattle.witnesses.proofs.lateness_can_hold.Goals as goal
use Rattle.witnesses.proofs.Settings.{three_planned, crowded_valid, no_lags_within}

outside : ¬ (Within hundred long_lags)
outside w = omega arith

-- The demand of the second row would fit in time, and so the row would pass; but it is computed not to.
not_planned : ¬ (Planned overfull)
not_planned p =
    let row : Task = numbers 3 3 15 in
    let valid = crowded_valid.0 in
    let pass : false ≡ true = (points_suffice 10 (row ∷ []) row (lit≤ tt) (valid, tt) valid).1 (p.fits (row ∷ []) row [] refl) in
    grind arith

pub returns : goal.returns
returns c = record {
  planned = three_planned;
  accepted = refl;
  outside = outside;
  late_50 = ((lit< tt, lit≤ tt, lit≤ tt), lit≤ tt);
  not_planned = not_planned;
  accepted_too = refl;
  within = no_lags_within;
  late_3 = ((lit< tt, lit≤ tt, lit≤ tt), lit≤ tt);
}
