-- What the calls of a run promise.
use Rattle.std.specs.Prelude.{ℕ, List, ◌∷◌}
use Rattle.units.specs.Meaning.{Meaning, Nature}
use Rattle.machine.specs.declared.word.Reply.{Reply}
use Rattle.machine.specs.declared.word.Word.{Word}
use Rattle.machine.specs.History.{History}
use Rattle.machine.specs.Machine.{Now}
use Rattle.machine.specs.Plans.{Plan}
use Rattle.machine.specs.Promises.{Lawful}
use Rattle.machine.specs.Reached.{Reached}

-- From a begin with these first releases, on a unit with the meaning u, the history leads here, and all that is promised holds: no job is late, the unit works at the admitted level
-- while two jobs are unfinished, none is unfinished while it rests or lags, and the count is that of the history.
pub record Promised (x : Nature) (p : Plan) (starts : List ℕ) (u : Meaning) (h : History) (now : Now) : Type 0 where
  pub reached : Reached x p starts u h now
  pub lawful : Lawful x p starts h now

-- Of every history that leads to the moment before a word, the history with this word and its reply leads to the moment after, with all that is promised.
abbrev pub GoesOn : Nature → Plan → Word → Now → Reply → Now → Type 0
GoesOn x p word before reply after =
    (starts : List ℕ) (u : Meaning) (h : History) → Reached x p starts u h before → Promised x p starts u (record { word = word; reply = reply } ∷ h) after
