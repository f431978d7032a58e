-- What was said to a run since begin, and what it replied; and the jobs, told from that alone.
use Rattle.std.specs.Prelude.{ℕ, suc, ◌+◌, ◌*◌, ◌<◌, ◌≤◌, Bool, true, false, cond, ◌||◌, List, [], ◌∷◌, length, ◌==◌, slice_index}
use Rattle.theory.specs.Tasks.{Task}
use Rattle.machine.specs.declared.word.Event.{Event}
use Rattle.machine.specs.declared.word.Reply.{Reply}
use Rattle.machine.specs.declared.word.Reply.TheVariants.{Ran, Stands, Refused}
use Rattle.machine.specs.declared.word.Word.{Word}
use Rattle.machine.specs.declared.word.Word.TheVariants.{GoOn, Ended, Standing}
use Rattle.machine.specs.Plans.{task_at}

-- The words with their replies, the latest first.
abbrev pub History : Type 0
History = List Event

abbrev pub says_ended : Word → Bool
says_ended GoOn = false
says_ended Ended = true
says_ended Standing = false

-- The tick count: how many go-on and ended were taken.
abbrev pub counted : Reply → ℕ → ℕ
counted (Ran a) n = suc n
counted (Stands s) n = n
counted (Refused f) n = n

abbrev pub count : History → ℕ
count [] = 0
count (e ∷ h) = counted e.reply (count h)

-- Of a row: how many of its jobs are finished, and the units of the first that is not.
pub record Tally : Type 0 where
  pub finished : ℕ
  pub units : ℕ

-- The first unfinished job gets n units. This finishes it if it now has its whole work, or if the call was ended.
abbrev pub gets : Task → Bool → ℕ → Tally → Tally
gets t said n c =
    cond (said || c.units + n == t.work) (record { finished = suc c.finished; units = 0 })
    (record { finished = c.finished; units = c.units + n })

-- It gets the units that a reply names for the row i.
abbrev pub heard : Task → ℕ → Bool → Reply → Tally → Tally
heard t i said (Ran a) c = cond (a.row == suc i) (gets t said a.units c) c
heard t i said (Stands s) c = c
heard t i said (Refused f) c = c

abbrev pub tally : Task → ℕ → History → Tally
tally t i [] = record { finished = 0; units = 0 }
tally t i (e ∷ h) = heard t i (says_ended e.word) e.reply (tally t i h)

-- When job k of the row i, from 0 on, is released. `first` has the first release of each row.
abbrev pub release_of : List Task → List ℕ → ℕ → ℕ → ℕ
release_of ts first i k = slice_index first i + k * (task_at ts i).period

-- Job k of the row i is released, and not finished.
abbrev pub Unfinished : List Task → List ℕ → History → ℕ → ℕ → Type 0
Unfinished ts first h i k =
    (i < length ts) × ((tally (task_at ts i) i h).finished ≤ k) × (release_of ts first i k ≤ count h)

-- It is unfinished at its deadline, or after it.
abbrev pub Late : List Task → List ℕ → History → ℕ → ℕ → Type 0
Late ts first h i k = Unfinished ts first h i k × (release_of ts first i k + (task_at ts i).deadline ≤ count h)
