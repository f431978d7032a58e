-- The first three lines, one after the other.
use Rattle.std.proofs.Common.{◌≡◌, ℕ, true, false, List, Ok, Err, subst}
use Rattle.fault.specs.declared.Fault.{Fault}
use Rattle.fault.specs.declared.Refusal.TheVariants.{BadCount}
use Rattle.fault.specs.Faults.{fault_at}
use Rattle.tasks.specs.Ranges.{one_to}
use Rattle.sheet.specs.Lines.{levels_word, tasks_word, starts_word, count_line}
use Rattle.sheet.specs.Sheets.{counts, count_at, each_or_none, item_at}

-- What a line gives, by the number of the line.
at_line : {X : Type 0} (gives : ℕ → X) {x : X} {line here : ℕ} → line ≡ here → gives line ≡ x → gives here ≡ x
at_line gives {x} e h = let P : ℕ → Type 0 = λ n. gives n ≡ x in subst P e h

module _ (text : List ℕ) (one two : ℕ) {after_levels : List ℕ} {levels : ℕ} (is_one : one ≡ 1) (is_two : two ≡ 2) (first : count_at one levels_word (one_to 64) text ≡ Ok (levels, after_levels)) where
  levels_read : count_at 1 levels_word (one_to 64) text ≡ Ok (levels, after_levels)
  levels_read = at_line (λ n. count_at n levels_word (one_to 64) text) is_one first

  -- The fault of the second line is that of the counts.
  pub tasks_fault : {f : Fault} → count_at two tasks_word (one_to 32) after_levels ≡ Err f → counts text ≡ Err f
  tasks_fault second = let l = levels_read in let k = at_line (λ n. count_at n tasks_word (one_to 32) after_levels) is_two second in cc

  module _ (three : ℕ) {after_tasks : List ℕ} {tasks : ℕ} (is_three : three ≡ 3) (second : count_at two tasks_word (one_to 32) after_levels ≡ Ok (tasks, after_tasks)) where
    tasks_read : count_at 2 tasks_word (one_to 32) after_levels ≡ Ok (tasks, after_tasks)
    tasks_read = at_line (λ n. count_at n tasks_word (one_to 32) after_levels) is_two second

    -- So is the fault of the third.
    pub starts_fault : {f : Fault} → item_at (count_line starts_word) three 0 after_tasks ≡ Err f → counts text ≡ Err f
    starts_fault third =
        let l = levels_read in let k = tasks_read in let s = at_line (λ n. item_at (count_line starts_word) n 0 after_tasks) is_three third in cc

    module _ {starts : ℕ} {rest : List ℕ} (third : item_at (count_line starts_word) three 0 after_tasks ≡ Ok (starts, rest)) where
      starts_read : item_at (count_line starts_word) 3 0 after_tasks ≡ Ok (starts, rest)
      starts_read = at_line (λ n. item_at (count_line starts_word) n 0 after_tasks) is_three third

      -- So it is where first releases are for some of the tasks.
      pub starts_off : each_or_none tasks starts ≡ false → (line : ℕ) → line ≡ 3 → counts text ≡ Err (fault_at BadCount line 0)
      starts_off off line is_line = let l = levels_read in let k = tasks_read in let s = starts_read in cc

      -- Else the counts are read.
      pub counts_are : each_or_none tasks starts ≡ true → counts text ≡ Ok (record { levels = levels; tasks = tasks; starts = starts }, rest)
      counts_are on = let l = levels_read in let k = tasks_read in let s = starts_read in cc
