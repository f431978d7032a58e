-- What an accepted begin and the words after it lead to, with any lags within the allowances.
use Rattle.std.specs.Prelude.{◌≡◌, ℕ, List, [], ◌∷◌, None}
use Rattle.units.specs.Meaning.{Meaning, Nature}
use Rattle.machine.specs.declared.word.Reply.{Reply}
use Rattle.machine.specs.declared.word.Word.{Word}
use Rattle.machine.specs.Begin.{begin_fault, begun}
use Rattle.machine.specs.History.{History}
use Rattle.machine.specs.Machine.{Now, Lags, Within, step}
use Rattle.machine.specs.Plans.{Plan, Planned}

-- A begin of an admitted plan that is accepted, on a unit with the meaning u.
pub record Began (x : Nature) (p : Plan) (starts : List ℕ) (u : Meaning) (after : Now) : Type 0 where
  pub planned : Planned p
  pub accepted : begin_fault x p starts u ≡ None
  pub lags : Lags
  pub within : Within x lags
  pub is : begun x p starts lags u ≡ after

-- A word, with its reply.
pub record Said (x : Nature) (p : Plan) (word : Word) (before : Now) (reply : Reply) (after : Now) : Type 0 where
  pub lags : Lags
  pub within : Within x lags
  pub is : step x p word lags before.state before.unit ≡ record { reply = reply; now = after }

-- From a begin with these first releases, on a unit with the meaning u, the history leads here.
abbrev pub Reached : Nature → Plan → List ℕ → Meaning → History → Now → Type 0
Reached x p starts u [] now = Began x p starts u now
Reached x p starts u (e ∷ h) now = (before : Now) × Reached x p starts u h before × Said x p e.word before e.reply now
