-- The text of proper contents is read as those contents.
use Rattle.std.proofs.Common.{◌≡◌, ℕ, Bool, true, List, [], ◌++◌, length, Ok, sym, refl, arith}
use Rattle.std.proofs.lemmas.List.{append-nil}
use Rattle.std.proofs.lemmas.Bool.{le-ltb}
use Rattle.std.proofs.lemmas.Bool.Decides.{nat_tests}
use Rattle.tasks.specs.Levels.{level_fault}
use Rattle.tasks.specs.Ranges.{one_to}
use Rattle.tasks.specs.Tables.{task_fault}
use Rattle.sheet.specs.Lines.{levels_word, tasks_word, starts_word, count_line, task_line}
use Rattle.sheet.specs.Sheets.{Contents, count_at, start_fault, each_or_none, counts, bodies, read_sheet}
use Rattle.sheet.specs.Text.{number}
use Rattle.sheet.specs.Written.{count_text, number_text, task_text, each_text, sheet_text, Proper}
use Rattle.sheet.specs.declared.counts.Counts.{Counts}
use Rattle.sheet.proofs.Back.{Back, number_back, count_back, task_back}
use Rattle.sheet.proofs.Lengths.{sheet_short}
use Rattle.sheet.proofs.Passing.{all_weaker, body_back, levels_follow, levels_low, tasks_follow, task_low, starts_follow}

-- A count in its range.
count_read : (line : ℕ) (word : List ℕ) (in_range : ℕ → Bool) (n : ℕ) (rest : List ℕ) → Back (count_line word) (count_text word) n → in_range n ≡ true → count_at line word in_range (count_text word n ++ rest) ≡ Ok (n, rest)
count_read line word in_range n rest b h = let read = b line 0 rest in cc

module _ (c : Contents) (p : Proper c) where
  -- The text after the counts.
  abbrev items : List ℕ
  items = each_text number_text c.levels ++ (each_text task_text c.tasks ++ each_text number_text c.starts)

  -- The counts.
  abbrev many : Counts
  many = record { levels = length c.levels; tasks = length c.tasks; starts = length c.starts }

  -- The first three lines give the counts.
  counts_read : counts (sheet_text c) ≡ Ok (many, items)
  counts_read = rw (count_read 1 levels_word (one_to 64) (length c.levels) _ (count_back levels_word _ (omega arith) refl refl refl) (grind (arith, nat_tests))) (rw (count_read 2 tasks_word (one_to 32) (length c.tasks) _ (count_back tasks_word _ (omega arith) refl refl refl) (grind (arith, nat_tests))) (rw (count_read 3 starts_word (each_or_none (length c.tasks)) (length c.starts) items (count_back starts_word _ (omega arith) refl refl refl) (grind (arith, nat_tests))) refl))

  -- The lines after them give the contents.
  bodies_read : bodies many items ≡ Ok c
  bodies_read =
      let levels = all_weaker (λ n h. number_back n (omega arith)) c.levels (levels_low 0 c.levels p.rising) in
      let tasks = all_weaker (λ t h. let low = task_low t h in task_back t (omega arith) (omega arith) (omega arith)) c.tasks p.in_range in
      let starts = all_weaker (λ n h. number_back n (omega arith)) c.starts p.early in
      rw (body_back number number_text level_fault 3 c.levels [] _ levels (levels_follow 3 c.levels [] p.rising (omega arith))) (rw (body_back task_line task_text task_fault _ c.tasks [] _ tasks (tasks_follow _ c.tasks [] p.in_range (omega arith))) (rw (sym (append-nil (each_text number_text c.starts))) (rw (body_back number number_text start_fault _ c.starts [] [] starts (starts_follow _ c.starts [] p.early)) refl)))

  -- The text of proper contents gives those contents.
  pub sheet_back : read_sheet (sheet_text c) ≡ Ok c
  sheet_back = rw (le-ltb _ _ (sheet_short c p)) (rw counts_read bodies_read)
