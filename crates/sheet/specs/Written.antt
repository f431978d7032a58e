-- The text of a sheet that says given contents.
use Rattle.std.specs.Prelude.{◌≡◌, ℕ, ◌≤◌, true, ◌⊎◌, List, [], ◌∷◌, ◌++◌, length, None, decimal}
use Rattle.theory.specs.Lists.{All}
use Rattle.theory.specs.Tasks.{Task}
use Rattle.tasks.specs.Levels.{ascending}
use Rattle.tasks.specs.Ranges.{task_refusal}
use Rattle.sheet.specs.Lines.{levels_word, tasks_word, starts_word}
use Rattle.sheet.specs.Sheets.{Contents}

abbrev pub count_text : List ℕ → ℕ → List ℕ
count_text word n = word ++ (32 ∷ decimal n ++ (10 ∷ []))

abbrev pub number_text : ℕ → List ℕ
number_text n = decimal n ++ (10 ∷ [])

abbrev pub task_text : Task → List ℕ
task_text t = decimal t.period ++ (32 ∷ decimal t.deadline ++ (32 ∷ decimal t.work ++ (10 ∷ [])))

-- The texts of the items, one after the other.
abbrev pub each_text : {X : Type 0} → (X → List ℕ) → List X → List ℕ
each_text text [] = []
each_text text (x ∷ xs) = text x ++ each_text text xs

abbrev pub sheet_text : Contents → List ℕ
sheet_text c =
    count_text levels_word (length c.levels) ++ (count_text tasks_word (length c.tasks) ++ (count_text starts_word (length c.starts) ++
    (each_text number_text c.levels ++ (each_text task_text c.tasks ++ each_text number_text c.starts))))

-- Contents that a sheet may have: counts and numbers in their ranges, levels that ascend, and a first release for each
-- task or for none.
pub record Proper (c : Contents) : Type 0 where
  pub some_levels : 1 ≤ length c.levels
  pub few_levels : length c.levels ≤ 64
  pub rising : ascending 0 c.levels ≡ true
  pub some_tasks : 1 ≤ length c.tasks
  pub few_tasks : length c.tasks ≤ 32
  pub in_range : All (λ t. task_refusal t.period t.deadline t.work ≡ None) c.tasks
  pub starts_for : (length c.starts ≡ 0) ⊎ (length c.starts ≡ length c.tasks)
  pub early : All (λ s. s ≤ 65535) c.starts
