use Rattle.std.proofs.Common.{◌≡◌, ◌+◌, ◌++◌, map, drop, string_bytes}
use Rattle.tasks.specs.Tables.{point_demand}
use Rattle.sheet.specs.Listing.{rows_text}
use Rattle.sheet.proofs.report.add_rows.Given as goal

-- With the rows that are left, the text is the first line and all rows.
abbrev pub invariant-loop-i : goal.invariant-loop-i
invariant-loop-i l =
    string_bytes l.text ++ rows_text (l.i + 1) (map point_demand (drop l.i l.answers)) ≡ string_bytes l.initial.text ++ rows_text 1 (map point_demand l.answers)
