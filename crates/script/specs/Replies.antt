-- The text of what a run replies, a line for each reply. One space, byte 32, stands between two items.
use Rattle.std.specs.Prelude.{ℕ, List, [], ◌∷◌, ◌++◌, decimal}
use Rattle.machine.specs.Printed.{report_items, run_standing_items}
use Rattle.machine.specs.declared.word.Reply.{Reply}
use Rattle.machine.specs.declared.word.Reply.TheVariants.{Ran, Stands, Refused}
use Rattle.machine.specs.declared.word.Report.{Report}
use Rattle.machine.specs.declared.word.RunStanding.{RunStanding}
use Rattle.sheet.specs.Listing.{level_word, refusal_text}
use Rattle.units.specs.Printed.{standing_items}
use Rattle.units.specs.declared.unit.Standing.{Standing}

-- `level` LEVEL
abbrev pub level_text : ℕ → List ℕ
level_text level = level_word ++ (32 ∷ decimal level ++ (10 ∷ []))

-- ROW LEVEL UNITS OUTCOME
abbrev pub report_text : Report → List ℕ
report_text r = report_items r ++ (10 ∷ [])

-- ASKED LAG REST
abbrev pub standing_text : Standing → List ℕ
standing_text s = standing_items s ++ (10 ∷ [])

-- COUNT ROW GIVEN ASKED LAG REST
abbrev pub run_standing_text : RunStanding → List ℕ
run_standing_text s = run_standing_items s ++ (10 ∷ [])

-- The line of a reply.
abbrev pub reply_text : Reply → List ℕ
reply_text (Ran r) = report_text r
reply_text (Stands s) = run_standing_text s
reply_text (Refused f) = refusal_text f
