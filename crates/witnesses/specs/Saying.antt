-- Words said to a run one after another, and where they lead.
use Rattle.std.specs.Prelude.{ℕ, zero, suc, List, [], ◌∷◌}
use Rattle.units.specs.Meaning.{Meaning, Nature, off}
use Rattle.machine.specs.declared.word.Reply.{Reply}
use Rattle.machine.specs.declared.word.Word.{Word}
use Rattle.machine.specs.Begin.{begun}
use Rattle.machine.specs.History.{History}
use Rattle.machine.specs.Machine.{Now, Lags, Result, step, standing_of}
use Rattle.machine.specs.Plans.{Plan}
use Rattle.machine.specs.Reached.{Reached}

-- What a run is made of: the nature of its unit, the lags that the unit takes in a call, by what it means before; the plan;
-- and the first releases.
pub record Setting : Type 0 where
  pub nature : Nature
  pub lags : Meaning → Lags
  pub plan : Plan
  pub starts : List ℕ

-- A run as far as it has come: what was said and replied since begin, and what it now is.
pub record Course : Type 0 where
  pub history : History
  pub now : Now

-- The run has begun, on a unit that is off, and nothing is said yet.
abbrev pub from_begin : Setting → Course
from_begin s = record { history = []; now = begun s.nature s.plan s.starts (s.lags off) off }

-- What a word does to the run.
abbrev pub heard : Setting → Word → Course → Result
heard s word c = step s.nature s.plan word (s.lags c.now.unit) c.now.state c.now.unit

-- One more word is said.
abbrev pub say : Setting → Word → Course → Course
say s word c = let r = heard s word c in record { history = record { word = word; reply = r.reply } ∷ c.history; now = r.now }

-- The same word is said n times.
abbrev pub say_times : Setting → Word → ℕ → Course → Course
say_times s word zero c = c
say_times s word (suc n) c = say_times s word n (say s word c)

-- The run is reached from an accepted begin of an admitted plan, on a unit that is off.
abbrev pub IsReached : Setting → Course → Type 0
IsReached s c = Reached s.nature s.plan s.starts off c.history c.now

-- What the run replies when it is asked where it stands.
abbrev pub where_it_stands : Course → Reply
where_it_stands c = standing_of c.now.state c.now.unit
