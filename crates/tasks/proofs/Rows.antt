-- The row at a place of a table, as the theory has it.
use Rattle.std.proofs.Common.{◌≡◌, ℕ, ◌<◌, List, map, length, get_or, sym, ap, ◌∙◌, arith}
use Rattle.std.proofs.lemmas.List.{get_or-map, length-map}
use Rattle.tasks.specs.declared.task.Task.{Task}
use Rattle.theory.specs.Tasks.{no_task}
use Rattle.tasks.specs.Tables.{task_of}

-- The task that the code reads at a place is the theory's there.
pub row_is : (tasks : List Task) (i : ℕ) (t : Task) → i < length tasks → t ≡ get_or tasks i t → get_or (map task_of tasks) i no_task ≡ task_of t
row_is tasks i t lt is = get_or-map task_of tasks i t no_task lt ∙ ap task_of (sym is)

-- So is the one that it reads at a place of a list that is that of the tasks.
pub row_read : (tasks read : List Task) (i : ℕ) (t : Task) → read ≡ tasks → i < length read → t ≡ get_or read i t →
    (i < length (map task_of tasks)) × (get_or (map task_of tasks) i no_task ≡ task_of t)
row_read tasks read i t same lt is = (
  omega (arith, length-map tasks task_of, ap length same),
  row_is tasks i t (omega (arith, ap length same)) (is ∙ ap (λ (l : List Task). get_or l i t) same),
)
