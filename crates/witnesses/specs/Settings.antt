-- The tasks, the units and the runs of the witnesses.
use Rattle.std.specs.Prelude.{◌≡◌, ℕ, List, [], ◌∷◌, Ok}
use Rattle.theory.specs.Tasks.{Task}
use Rattle.tasks.specs.Admission.{admission}
use Rattle.tasks.specs.Tables.{numbers}
use Rattle.units.specs.Divider.{divides}
use Rattle.units.specs.Meaning.{Meaning, Nature}
use Rattle.units.specs.Ramp.{ramps, between}
use Rattle.machine.specs.Machine.{Lags}
use Rattle.machine.specs.Plans.{Plan}
use Rattle.witnesses.specs.Saying.{Setting}

-- Three tasks, admitted at the middle one of three levels.
abbrev pub three : Plan
three = record { tasks = numbers 50 50 500 ∷ numbers 80 80 1000 ∷ numbers 100 100 2000 ∷ []; levels = 25 ∷ 50 ∷ 100 ∷ []; admitted = 50 }

-- They are admitted at that level, where the rows have these smallest points and demands.
abbrev pub ThreeAdmitted : Type 0
ThreeAdmitted = admission three.levels three.tasks ≡ Ok (50, (50, 10) ∷ (50, 30) ∷ (80, 80) ∷ [])

-- All of them are first released at tick n.
abbrev pub all_at : ℕ → List ℕ
all_at n = n ∷ n ∷ n ∷ []

-- A divider of rate 100 that wakes at once.
abbrev pub hundred : Nature
hundred = divides 100 0

-- The lags of a unit that takes none.
abbrev pub no_lags : Lags
no_lags = record { back = 0; slowed = 0; woken = 0 }

-- The three tasks on this divider, released at tick 0.
abbrev pub on_divider : Setting
on_divider = record { nature = hundred; lags = λ u. no_lags; plan = three; starts = all_at 0 }

-- A ramp of the three levels.
abbrev pub ramp : Nature
ramp = ramps three.levels

-- The lags of this ramp: a tick for each level on the way up to the admitted one; none to a lower one; and at the end of a
-- rest a tick for each level up to the one asked for.
abbrev pub ramp_lags : Meaning → Lags
ramp_lags u = record { back = between u.asked three.admitted three.levels; slowed = 0; woken = between 0 u.asked three.levels }

-- The three tasks on this ramp, released at tick 3.
abbrev pub on_ramp : Setting
on_ramp = record { nature = ramp; lags = ramp_lags; plan = three; starts = all_at 3 }

-- Two equal tasks that take two ticks each at 10 units: four ticks of work, due in three.
abbrev pub crowded : List Task
crowded = numbers 3 3 15 ∷ numbers 3 3 15 ∷ []
