-- A speed unit by its meaning, and what each call does to it.
use Rattle.std.specs.Prelude.{◌≡◌, ℕ, ◌+◌, ◌-◌, ◌<◌, ◌≤◌, Bool, true, false, cond, ◌&&◌, ◌⊎◌, Ok, Err, Result, ◌==◌}
use Rattle.fault.specs.declared.Fault.{Fault}
use Rattle.fault.specs.declared.Refusal.TheVariants.{UnitBusy, UnknownLevel, BadRest}
use Rattle.fault.specs.Faults.{fault_at}

-- What changes: the level asked for (0: off), the ticks until it works, and the ticks still asleep.
pub record Meaning : Type 0 where
  pub asked : ℕ
  pub lag : ℕ
  pub rest : ℕ

-- What is fixed for a unit's life: the raise allowance, the wake allowance, and the levels that it takes.
pub record Nature : Type 0 where
  pub raise : ℕ
  pub wake : ℕ
  pub takes : ℕ → Bool

abbrev pub off : Meaning
off = record { asked = 0; lag = 0; rest = 0 }

-- Whether neither a rest nor a lag is left.
abbrev pub ready : Meaning → Bool
ready u = u.rest == 0 && u.lag == 0

-- The level that a unit works at: the one asked for, once neither a rest nor a lag is left.
abbrev pub works : Meaning → ℕ
works u = cond (ready u) u.asked 0

abbrev pub Ready : Meaning → Type 0
Ready u = (u.lag ≡ 0) × (u.rest ≡ 0)

abbrev pub Busy : Meaning → Type 0
Busy u = 0 < u.lag + u.rest

-- An ask for a level that is taken. Only the size of the lag after a raise is left open, within its allowance.
pub record AskTaken (n : Nature) (level : ℕ) (u u' : Meaning) : Type 0 where
  pub ready : Ready u
  pub taken : n.takes level ≡ true
  pub asked : u'.asked ≡ level
  pub rest : u'.rest ≡ 0
  pub raised : u.asked < level → u'.lag ≤ n.raise
  pub not_raised : level ≤ u.asked → u'.lag ≡ 0

-- Why an ask for a level is refused: the unit is busy, or else does not take the level.
abbrev pub AskRefused : Nature → ℕ → Meaning → Fault → Type 0
AskRefused n level u e =
    (Busy u × (e ≡ fault_at UnitBusy 0 0))
    ⊎ (Ready u × (n.takes level ≡ false) × (e ≡ fault_at UnknownLevel 0 0))

-- An ask for a level, with its answer.
abbrev pub Asked : Nature → ℕ → Meaning → Result (Unit {0}) Fault → Meaning → Type 0
Asked n level u (Ok _) u' = AskTaken n level u u'
Asked n level u (Err e) u' = AskRefused n level u e × (u' ≡ u)

-- A rest for some ticks that is taken.
pub record RestTaken (ticks : ℕ) (u u' : Meaning) : Type 0 where
  pub ready : Ready u
  pub some : 0 < ticks
  pub most : ticks ≤ 65535
  pub on : 0 < u.asked
  pub asked : u'.asked ≡ u.asked
  pub lag : u'.lag ≡ 0
  pub rest : u'.rest ≡ ticks

-- Why a rest is refused: the unit is busy, or else the ticks are out of their range or nothing is asked.
abbrev pub RestRefused : ℕ → Meaning → Fault → Type 0
RestRefused ticks u e =
    (Busy u × (e ≡ fault_at UnitBusy 0 0))
    ⊎ (Ready u × ((ticks ≡ 0) ⊎ ((65535 < ticks) ⊎ (u.asked ≡ 0))) × (e ≡ fault_at BadRest 0 0))

-- A rest for some ticks, with its answer.
abbrev pub Rested : ℕ → Meaning → Result (Unit {0}) Fault → Meaning → Type 0
Rested ticks u (Ok _) u' = RestTaken ticks u u'
Rested ticks u (Err e) u' = RestRefused ticks u e × (u' ≡ u)

-- A tick: of the rest while there is one, else of the lag. Only the size of the lag after the rest is left open, within
-- its allowance.
pub record Ticked (n : Nature) (u u' : Meaning) : Type 0 where
  pub asked : u'.asked ≡ u.asked
  pub rest : u'.rest ≡ u.rest - 1
  pub wakes : u.rest ≡ 1 → u'.lag ≤ n.wake
  pub sleeps : 1 < u.rest → u'.lag ≡ u.lag
  pub awake : u.rest ≡ 0 → u'.lag ≡ u.lag - 1
