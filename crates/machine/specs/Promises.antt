-- What is promised of every run.
use Rattle.std.specs.Prelude.{◌≡◌, ℕ, ◌+◌, ◌<◌, true, ◌↔◌, List, None}
use Rattle.units.specs.Calls.{ask_refusal, rest_refusal}
use Rattle.units.specs.Meaning.{Meaning, Nature, works}
use Rattle.machine.specs.Begin.{firsts}
use Rattle.machine.specs.History.{History, Unfinished, Late, count}
use Rattle.machine.specs.Machine.{Now}
use Rattle.machine.specs.Plans.{Plan}
use Rattle.machine.specs.Reached.{Reached}
use Rattle.machine.specs.Speed.{may_ask, may_rest}

-- No job of any row is late, as the history tells.
abbrev pub NoJobLate : Nature → Plan → List ℕ → History → Type 0
NoJobLate x p starts h = (i k : ℕ) → ¬ (Late p.tasks (firsts x.raise p.tasks starts) h i k)

-- While two jobs are unfinished, the unit works at the admitted level.
abbrev pub FullForTwo : Nature → Plan → List ℕ → History → Meaning → Type 0
FullForTwo x p starts h u =
    (i k j m : ℕ) → Unfinished p.tasks (firsts x.raise p.tasks starts) h i k →
    Unfinished p.tasks (firsts x.raise p.tasks starts) h j m → ¬ ((i ≡ j) × (k ≡ m)) → works u ≡ p.admitted

-- While the unit rests or lags, no job is unfinished.
abbrev pub IdleAtRest : Nature → Plan → List ℕ → History → Meaning → Type 0
IdleAtRest x p starts h u =
    0 < u.rest + u.lag → (i k : ℕ) → ¬ (Unfinished p.tasks (firsts x.raise p.tasks starts) h i k)

-- What holds of a run whenever a call returns. The run's count is that of the history.
pub record Lawful (x : Nature) (p : Plan) (starts : List ℕ) (h : History) (now : Now) : Type 0 where
  pub on_time : NoJobLate x p starts h
  pub full : FullForTwo x p starts h now.unit
  pub idle : IdleAtRest x p starts h now.unit
  pub counted : now.state.count ≡ count h

-- It holds of every history that an accepted begin can lead to.
abbrev pub EveryRunIsLawful : Type 0
EveryRunIsLawful =
    (x : Nature) (p : Plan) (starts : List ℕ) (u : Meaning) (h : History) (now : Now) → Reached x p starts u h now → Lawful x p starts h now

-- An ask or a rest is made where the unit would take it, and nowhere else.
abbrev pub MadeWhereTaken : Type 0
MadeWhereTaken =
    ((x : Nature) (level : ℕ) (u : Meaning) → (may_ask x level u ≡ true) ↔ (ask_refusal x level u ≡ None)) ×
    ((ticks : ℕ) (u : Meaning) → (may_rest ticks u ≡ true) ↔ (rest_refusal ticks u ≡ None))
