-- What the code holds of a sheet.
use Rattle.std.specs.Prelude.{◌≡◌, Ok, Err, Result}
use Rattle.fault.specs.declared.Fault.{Fault}
use Rattle.tasks.specs.Tables.{levels_of, tasks_of}
use Rattle.sheet.specs.declared.sheet.Sheet.{Sheet}
use Rattle.sheet.specs.Sheets.{Contents}

-- What a sheet that was read says.
abbrev pub contents_of : Sheet → Contents
contents_of s = record { levels = levels_of s.table; tasks = tasks_of s.table; starts = s.starts.items }

-- A sheet was read, and says c.
abbrev pub ReadsAs : Result Sheet Fault → Contents → Type 0
ReadsAs (Ok s) c = contents_of s ≡ c
ReadsAs (Err f) c = ⊥
