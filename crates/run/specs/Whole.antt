-- A whole run: from a table to its record.
use Rattle.std.specs.Prelude.{◌≡◌, ℕ, ◌↔◌, List, [], ◌∷◌, map, reverse, Some, None, Ok, Err, Result}
use Rattle.fault.specs.declared.Refusal.{Refusal}
use Rattle.tasks.specs.Admission.{LowestInTime, admission, plan_levels, plan_tasks, plan_answers}
use Rattle.tasks.specs.Tables.{levels_of, tasks_of}
use Rattle.tasks.specs.declared.table.OpenTable.{OpenTable}
use Rattle.units.specs.Meaning.{Meaning, Nature, off}
use Rattle.machine.specs.declared.word.Word.{Word}
use Rattle.machine.specs.Begin.{begin_fault}
use Rattle.machine.specs.History.{History}
use Rattle.machine.specs.Machine.{Now, numbers}
use Rattle.machine.specs.Plans.{Plan}
use Rattle.machine.specs.Promises.{NoJobLate, Lawful}
use Rattle.machine.specs.Reached.{Reached}
use Rattle.run.specs.declared.record.Halt.{Halt}
use Rattle.run.specs.declared.record.Halt.TheVariants.{NoMemory, NotAdmitted, NotBegun}
use Rattle.run.specs.declared.record.Record.{Record}
use Rattle.run.specs.Views.{plan_of}

-- The history of a record: its events, the latest first.
abbrev pub history : Record → History
history r = reverse r.events.items

-- P holds after begin, and after every word of a history.
abbrev pub Throughout : (History → Type 0) → History → Type 0
Throughout P [] = P []
Throughout P (e ∷ h) = P (e ∷ h) × Throughout P h

-- The plan of a table at a level.
abbrev pub plan_at : OpenTable → ℕ → Plan
plan_at t f = record { tasks = tasks_of t; levels = levels_of t; admitted = f }

-- The table t was admitted and run on a unit with the meaning u, and these words were said. The level is the lowest listed one that keeps every deadline,
-- and at every lower one the plain run has a late job. The record has every word with its reply, as the run of that plan gives it. After begin and after
-- every word no job is late; and so it is after every other history that this begin can lead to. At the end the unit is off.
pub record Operated (x : Nature) (t : OpenTable) (starts : List ℕ) (u : Meaning) (words : List Word) (r : Record) : Type 0 where
  pub lowest : (found : List (ℕ × ℕ)) × LowestInTime (levels_of t) (tasks_of t) r.level found
  pub accepted : begin_fault x (plan_at t r.level) starts u ≡ None
  pub said : map (λ e. e.word) r.events.items ≡ words
  pub reached : (last : Now) × Reached x (plan_at t r.level) starts u (history r) last
  pub on_time : Throughout (NoJobLate x (plan_at t r.level) starts) (history r)
  pub any_other : (h : History) (now : Now) → Reached x (plan_at t r.level) starts u h now → Lawful x (plan_at t r.level) starts h now
  pub off : r.end ≡ numbers off

-- What a whole run answers. What does not begin gives back the table as it was, or the plan that was made of it.
abbrev pub Operates : Nature → OpenTable → List ℕ → Meaning → List Word → Result Record Halt → Type 0
Operates x t starts u words (Ok r) = Operated x t starts u words r
Operates x t starts u words (Err (NoMemory given)) = given ≡ t
Operates x t starts u words (Err (NotAdmitted b)) = (admission (levels_of t) (tasks_of t) ≡ Err b.fault) × (b.given ≡ t)
Operates x t starts u words (Err (NotBegun b)) =
    (plan_levels b.given ≡ levels_of t) × (plan_tasks b.given ≡ tasks_of t) ×
    LowestInTime (levels_of t) (tasks_of t) b.given.level (plan_answers b.given) × (begin_fault x (plan_of b.given) starts u ≡ Some b.fault)

-- Admission was tried, and refused for this reason or not: exactly where it holds.
abbrev pub RefusedExactly : Refusal → Type 0 → Result Record Halt → Type 0
RefusedExactly why P (Ok r) = ¬ P
RefusedExactly why P (Err (NoMemory given)) = Unit {0}
RefusedExactly why P (Err (NotAdmitted b)) = (b.fault.refusal ≡ why) ↔ P
RefusedExactly why P (Err (NotBegun b)) = ¬ P
