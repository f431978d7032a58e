-- What a run replies, as printed. One space, byte 32, stands between two items.
use Rattle.std.specs.Prelude.{ℕ, List, ◌∷◌, ◌++◌, codes, decimal}
use Rattle.fault.specs.Faults.{fault_text}
use Rattle.units.specs.Printed.{standing_items}
use Rattle.machine.specs.declared.word.Outcome.{Outcome}
use Rattle.machine.specs.declared.word.Outcome.TheVariants.{Going, Ended, Spent}
use Rattle.machine.specs.declared.word.Reply.{Reply}
use Rattle.machine.specs.declared.word.Reply.TheVariants.{Ran, Stands, Refused}
use Rattle.machine.specs.declared.word.Report.{Report}
use Rattle.machine.specs.declared.word.RunStanding.{RunStanding}

-- The text of each outcome.
abbrev pub outcome_text : Outcome → List ℕ
outcome_text Going = codes "going"
outcome_text Ended = codes "ended"
outcome_text Spent = codes "spent"

-- ROW LEVEL UNITS OUTCOME
abbrev pub report_items : Report → List ℕ
report_items r = decimal r.row ++ (32 ∷ decimal r.level ++ (32 ∷ decimal r.units ++ (32 ∷ outcome_text r.outcome)))

-- COUNT ROW GIVEN ASKED LAG REST
abbrev pub run_standing_items : RunStanding → List ℕ
run_standing_items s = decimal s.count ++ (32 ∷ decimal s.row ++ (32 ∷ decimal s.given ++ (32 ∷ standing_items s.unit)))

-- A tick, where the run stands, or a refusal.
abbrev pub reply_items : Reply → List ℕ
reply_items (Ran r) = report_items r
reply_items (Stands s) = run_standing_items s
reply_items (Refused f) = fault_text f
