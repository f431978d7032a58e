-- The promises, for begin and for each word.
use Rattle.std.proofs.Common.{ℕ, List, ◌∷◌}
use Rattle.units.specs.Meaning.{Meaning, Nature}
use Rattle.machine.proofs.Promises.{every_run_is_lawful}
use Rattle.machine.specs.declared.word.Reply.{Reply}
use Rattle.machine.specs.declared.word.Word.{Word}
use Rattle.machine.specs.History.{History}
use Rattle.machine.specs.Machine.{Now}
use Rattle.machine.specs.Plans.{Plan}
use Rattle.machine.specs.Reached.{Said, Reached}
use Rattle.run.specs.Promises.{Promised, GoesOn}

-- What is reached is as promised.
pub promised : (x : Nature) (p : Plan) (starts : List ℕ) (u : Meaning) (h : History) (now : Now) → Reached x p starts u h now → Promised x p starts u h now
promised x p starts u h now r = record { reached = r; lawful = every_run_is_lawful x p starts u h now r }

-- A word goes on from whatever was reached before it.
pub goes_on : (x : Nature) (p : Plan) (word : Word) (before : Now) (reply : Reply) (after : Now) → Said x p word before reply after → GoesOn x p word before reply after
goes_on x p word before reply after said starts u h r = promised x p starts u (record { word = word; reply = reply } ∷ h) after (before, r, said)
