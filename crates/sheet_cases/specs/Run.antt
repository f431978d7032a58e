-- A worked case of a run: its one task ends in the first tick, and the unit rests up to the next release.
use Rattle.std.specs.Prelude.{◌≡◌, [], ◌∷◌, None, Ok}
use Rattle.tasks.specs.Admission.{admission}
use Rattle.tasks.specs.Tables.{numbers}
use Rattle.units.specs.Divider.{divides}
use Rattle.units.specs.Meaning.{Nature, off}
use Rattle.machine.specs.declared.word.Word.TheVariants.{Ended}
use Rattle.machine.specs.Begin.{begin_fault, begun}
use Rattle.machine.specs.Machine.{Now, Lags, Within, step}
use Rattle.machine.specs.Plans.{Plan}

-- One task of 60 units, which are due 6 ticks after its release, admitted at 10 units a tick.
abbrev pub lone : Plan
lone = record { tasks = numbers 10 6 60 ∷ []; levels = 5 ∷ 10 ∷ []; admitted = 10 }

-- A divider of rate 10 and wake count 2.
abbrev pub ten_and_two : Nature
ten_and_two = divides 10 2

-- The lags that it takes: none where a level is asked for, and the wake count at the end of a rest.
abbrev pub its_lags : Lags
its_lags = record { back = 0; slowed = 0; woken = 2 }

-- The run of the plan on this divider, which is off, begins with the first release at tick 0.
abbrev pub at_begin : Now
at_begin = begun ten_and_two lone (0 ∷ []) its_lags off

-- Then `ended` is said once.
abbrev pub after_ended : Now
after_ended = (step ten_and_two lone Ended its_lags at_begin.state at_begin.unit).now

-- The task ends 9 ticks before its next release, so that the unit rests for 7 and wakes in the 2 that are left.
pub record EndedAtOnce : Type 0 where
  pub admitted : admission lone.levels lone.tasks ≡ Ok (10, (6, 6) ∷ [])
  pub accepted : begin_fault ten_and_two lone (0 ∷ []) off ≡ None
  pub within : Within ten_and_two its_lags
  pub count : after_ended.state.count ≡ 1
  pub asked : after_ended.unit.asked ≡ 10
  pub rest : after_ended.unit.rest ≡ 7
