-- A sheet: three counts, and then the levels, the tasks and the first releases, an item a line. Reading goes line by
-- line, and the first fault is the answer.
use Rattle.std.specs.Prelude.{ℕ, zero, suc, ◌+◌, Bool, cond, ◌||◌, List, [], ◌∷◌, ◌++◌, length, Some, None, Ok, Err, Option, Result, ◌==◌, nat_le, nat_lt}
use Rattle.std.specs.Option.{ok_or}
use Rattle.fault.specs.declared.Fault.{Fault}
use Rattle.fault.specs.declared.Refusal.TheVariants.{SheetTooLong, EndsEarly, BadLine, BadCount, LateStart, BytesFollow}
use Rattle.fault.specs.Faults.{fault_at}
use Rattle.theory.specs.Tasks.{Task}
use Rattle.tasks.specs.Levels.{level_fault}
use Rattle.tasks.specs.Ranges.{one_to}
use Rattle.tasks.specs.Tables.{task_fault}
use Rattle.sheet.specs.declared.counts.Counts.{Counts}
use Rattle.sheet.specs.Text.{cut, number}
use Rattle.sheet.specs.Lines.{levels_word, tasks_word, starts_word, count_line, task_line}

-- What a sheet says.
pub record Contents : Type 0 where
  pub levels : List ℕ
  pub tasks : List Task
  pub starts : List ℕ

-- Where there is no error, what comes next.
abbrev pub and_then : {A B E : Type 0} → Result A E → (A → Result B E) → Result B E
and_then (Ok x) k = k x
and_then (Err e) k = Err e

abbrev pub unless : {A : Type 0} → Option Fault → Result A Fault → Result A Fault
unless None r = r
unless (Some e) r = Err e

-- The line that is due, and the text after it. The line has its number in the sheet, and the place of its item in the
-- body that it belongs to, 0 for a count.
abbrev pub due_line : ℕ → ℕ → List ℕ → Result (List ℕ × List ℕ) Fault
due_line line row text = ok_or (cut 10 text) (fault_at EndsEarly line row)

-- The item of the line that is due, which has the form for it, and the text after the line.
abbrev pub item_at : {X : Type 0} → (List ℕ → Option X) → ℕ → ℕ → List ℕ → Result (X × List ℕ) Fault
item_at form line row text =
    and_then (due_line line row text) (λ p. and_then (ok_or (form p.0) (fault_at BadLine line row)) (λ x. Ok (x, p.1)))

-- A line with a count in its range, and the text after it.
abbrev pub count_at : ℕ → List ℕ → (ℕ → Bool) → List ℕ → Result (ℕ × List ℕ) Fault
count_at line word in_range text =
    and_then (item_at (count_line word) line 0 text) (λ p. cond (in_range p.0) (Ok p) (Err (fault_at BadCount line 0)))

-- n more items, an item a line, after those of `done` and `base` lines before them: each line has the form for an item,
-- and each item may follow those before it. The items, and the text after them.
abbrev pub body : {X : Type 0} → (List ℕ → Option X) → (ℕ → List X → X → Option Fault) → ℕ → ℕ → List X → List ℕ → Result (List X × List ℕ) Fault
body form check base zero done text = Ok (done, text)
body form check base (suc n) done text =
    and_then (item_at form (base + (length done + 1)) (length done + 1) text) (λ p.
    unless (check (base + (length done + 1)) done p.0) (body form check base n (done ++ (p.0 ∷ [])) p.1))

-- Why a first release does not follow those before it: it is out of its range.
abbrev pub start_fault : ℕ → List ℕ → ℕ → Option Fault
start_fault line starts s = cond (nat_le s 65535) None (Some (fault_at LateStart line (length starts + 1)))

-- The sheet ends after its last line.
abbrev pub at_end : ℕ → Contents → List ℕ → Result Contents Fault
at_end line c [] = Ok c
at_end line c (b ∷ bs) = Err (fault_at BytesFollow line 0)

-- First releases are for each task or for none.
abbrev pub each_or_none : ℕ → ℕ → Bool
each_or_none tasks starts = starts == 0 || starts == tasks

-- The first three lines, and the text after them.
abbrev pub counts : List ℕ → Result (Counts × List ℕ) Fault
counts text =
    and_then (count_at 1 levels_word (one_to 64) text) (λ l.
    and_then (count_at 2 tasks_word (one_to 32) l.1) (λ k.
    and_then (count_at 3 starts_word (each_or_none k.0) k.1) (λ s.
    Ok (record { levels = l.0; tasks = k.0; starts = s.0 }, s.1))))

-- The lines after the counts.
abbrev pub bodies : Counts → List ℕ → Result Contents Fault
bodies n text =
    and_then (body number level_fault 3 n.levels [] text) (λ levels.
    and_then (body task_line task_fault (3 + n.levels) n.tasks [] levels.1) (λ tasks.
    and_then (body number start_fault (3 + n.levels + n.tasks) n.starts [] tasks.1) (λ starts.
    at_end (3 + n.levels + n.tasks + n.starts + 1) (record { levels = levels.0; tasks = tasks.0; starts = starts.0 }) starts.1)))

-- What the bytes of a sheet say, or the first fault in them.
abbrev pub read_lines : List ℕ → Result Contents Fault
read_lines text = and_then (counts text) (λ n. bodies n.0 n.1)

abbrev pub read_sheet : List ℕ → Result Contents Fault
read_sheet bytes = cond (nat_lt 4096 (length bytes)) (Err (fault_at SheetTooLong 0 0)) (read_lines bytes)
