-- The plan of the witnesses is admitted, its begins are accepted, and their units keep their allowances.
use Rattle.std.proofs.Common.{ℕ, ◌≤◌, ◌&&◌, refl, inl, inr, arith, lit≤, nat_le, nat_lt}
use Rattle.std.proofs.lemmas.List.Sums.{count_by-le-length}
use Rattle.theory.specs.Lists.{All}
use Rattle.theory.specs.Tasks.{Valid}
use Rattle.theory.proofs.Exact.{every_row_fits}
use Rattle.units.specs.Meaning.{off}
use Rattle.units.specs.Ramp.{between}
use Rattle.machine.specs.Machine.{Within}
use Rattle.machine.specs.Plans.{Planned}
use Rattle.machine.specs.Reached.{Began}
use Rattle.witnesses.specs.Saying.{from_begin}
use Rattle.witnesses.specs.Settings.{three, all_at, hundred, no_lags, on_divider, ramp, ramp_lags, on_ramp, crowded}
use Rattle.witnesses.proofs.Saying.{Keeps}

-- The three tasks are valid.
three_valid : All Valid three.tasks
three_valid = grind arith

-- Their plan is admitted.
pub three_planned : Planned three
three_planned = record {
  valid = three_valid;
  few = lit≤ tt;
  level = lit≤ tt;
  listed = inr (inl refl);
  fits = every_row_fits 50 three.tasks (lit≤ tt) three_valid refl;
}

-- The crowded tasks are valid too.
pub crowded_valid : All Valid crowded
crowded_valid = grind arith

-- A unit that takes no lags keeps the divider's allowances.
pub no_lags_within : Within hundred no_lags
no_lags_within = grind arith

-- So does the divider of the witnesses.
pub divider_keeps : Keeps on_divider
divider_keeps u = no_lags_within

-- The levels between two are at most all levels.
few_between : (low high : ℕ) → between low high three.levels ≤ 3
few_between low high = count_by-le-length (λ x. nat_lt low x && nat_le x high) three.levels

-- The ramp of the witnesses keeps its own.
pub ramp_keeps : Keeps on_ramp
ramp_keeps u = record { back = few_between u.asked 50; slowed = lit≤ tt; woken = few_between 0 u.asked }

-- The begin on the divider is accepted.
pub divider_began : Began hundred three (all_at 0) off (from_begin on_divider).now
divider_began = record { planned = three_planned; accepted = refl; lags = no_lags; within = no_lags_within; is = refl }

-- The begin on the ramp is accepted.
pub ramp_began : Began ramp three (all_at 3) off (from_begin on_ramp).now
ramp_began = record { planned = three_planned; accepted = refl; lags = ramp_lags off; within = ramp_keeps off; is = refl }
