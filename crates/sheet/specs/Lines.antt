-- The forms of a line, without its byte 10. One space, byte 32, stands between two items.
use Rattle.std.specs.Prelude.{ℕ, codes, cond, List, Some, None, Option, option_and_then}
use Rattle.std.specs.Str.{bytes_eq}
use Rattle.theory.specs.Tasks.{Task}
use Rattle.tasks.specs.Tables.{numbers}
use Rattle.sheet.specs.Text.{cut, number}

infixl 10 ◌>>=◌
-- Where there is a value, what comes of it.
abbrev pub ◌>>=◌ : {A B : Type 0} → Option A → (A → Option B) → Option B
o >>= k = option_and_then k o

-- `levels`, `tasks` and `starts`.
abbrev pub levels_word : List ℕ
levels_word = codes "levels"

abbrev pub tasks_word : List ℕ
tasks_word = codes "tasks"

abbrev pub starts_word : List ℕ
starts_word = codes "starts"

-- WORD COUNT
abbrev pub count_line : List ℕ → List ℕ → Option ℕ
count_line word xs = do
  p ← cut 32 xs
  cond (bytes_eq p.0 word) (number p.1) None

-- PERIOD DEADLINE WORK
abbrev pub task_line : List ℕ → Option Task
task_line xs = do
  p ← cut 32 xs
  q ← cut 32 p.1
  period ← number p.0
  deadline ← number q.0
  work ← number q.1
  Some (numbers period deadline work)
