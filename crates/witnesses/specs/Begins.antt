-- Begins that are refused, one for each refusal.
use Rattle.std.specs.Prelude.{◌≡◌, [], ◌∷◌, Some}
use Rattle.fault.specs.declared.Refusal.TheVariants.{BadCount, LateStart, UnitNotReady, LevelNotTaken, EarlyStart}
use Rattle.fault.specs.Faults.{fault_at}
use Rattle.units.specs.Divider.{divides}
use Rattle.units.specs.Meaning.{off}
use Rattle.units.specs.Ramp.{ramps}
use Rattle.machine.specs.Begin.{begin_fault}
use Rattle.witnesses.specs.Settings.{three, all_at, hundred}

-- Each of the five refusals of a begin, with its row where it names one.
pub record BeginsRefused : Type 0 where
  -- two first releases for three rows
  pub count : begin_fault hundred three (0 ∷ 0 ∷ []) off ≡ Some (fault_at BadCount 0 0)
  -- the first release of row 3 is above 65,535
  pub late : begin_fault hundred three (0 ∷ 0 ∷ 65536 ∷ []) off ≡ Some (fault_at LateStart 0 3)
  -- the unit still rests
  pub resting : begin_fault hundred three (all_at 0) (record { asked = 50; lag = 0; rest = 1 }) ≡ Some (fault_at UnitNotReady 0 0)
  -- the unit still lags
  pub lagging : begin_fault hundred three (all_at 0) (record { asked = 50; lag = 1; rest = 0 }) ≡ Some (fault_at UnitNotReady 0 0)
  -- a divider of rate 80 does not take the first level, 25
  pub untaken : begin_fault (divides 80 0) three (all_at 0) off ≡ Some (fault_at LevelNotTaken 0 1)
  -- a ramp of three levels may take 3 ticks to raise, and row 2 is released before that
  pub early : begin_fault (ramps three.levels) three (3 ∷ 2 ∷ 3 ∷ []) off ≡ Some (fault_at EarlyStart 0 2)
