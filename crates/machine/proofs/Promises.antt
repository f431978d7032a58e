-- The promises, from what holds of every run with its history.
use Rattle.std.proofs.Common.{◌≡◌, ℕ, ◌+◌, ◌*◌, ◌<◌, ◌≤◌, true, List, [], ◌∷◌, length, get_or, sym, ap, ◌∙◌, subst, inl, inr, ⊎_elim, arith, rules}
use Rattle.std.proofs.lemmas.Bool.{cases_eq}
use Rattle.std.proofs.lemmas.List.{length-map}
use Rattle.theory.specs.Tasks.{Task, Valid}
use Rattle.theory.specs.Ticks.{Row}
use Rattle.units.specs.Meaning.{Meaning, Nature, works}
use Rattle.machine.specs.Begin.{firsts}
use Rattle.machine.specs.History.{History, Unfinished, Late, release_of}
use Rattle.machine.specs.Inner.{job_at}
use Rattle.machine.specs.Machine.{Now, Result}
use Rattle.machine.specs.Plans.{Plan, Planned, task_at}
use Rattle.machine.specs.Promises.{EveryRunIsLawful}
use Rattle.machine.specs.Reached.{Reached}
use Rattle.machine.specs.Speed.{Speed}
use Rattle.machine.proofs.Accepted.{accepted}
use Rattle.machine.proofs.Begin.{begin_holds}
use Rattle.machine.proofs.Calls.{step_holds}
use Rattle.machine.proofs.Holds.{tallies, Holds}
use Rattle.machine.proofs.Load.{sound_due}
use Rattle.machine.proofs.Records.{Fits}
use Rattle.machine.proofs.Rows.{row_at, task_is, valid_at}
use Rattle.machine.proofs.Settle.{Mode, full_works}
use Rattle.machine.proofs.Unit.{ahead}

-- An admitted plan whose level the unit takes, and a run of it of which all holds that should.
record Runs (x : Nature) (p : Plan) (starts : List ℕ) (h : History) (now : Now) : Type 0 where
  pub planned : Planned p
  pub takes : x.takes p.admitted ≡ true
  pub holds : Holds x p (firsts x.raise p.tasks starts) h now

-- Every history that an accepted begin can lead to is one of such a run.
reach_holds : (x : Nature) (p : Plan) (starts : List ℕ) (u : Meaning) (h : History) (now : Now) → Reached x p starts u h now → Runs x p starts h now
reach_holds x p starts u [] now began = grind (arith, accepted, begin_holds)
reach_holds x p starts u (e ∷ h) now (before, reached, said) =
    let a = reach_holds x p starts u h before reached in
    record {
      planned = a.planned;
      takes = a.takes;
      holds = subst (λ (y : Result). Holds x p (firsts x.raise p.tasks starts) (record { word = e.word; reply = y.reply } ∷ h) y.now) said.is
          (grind (arith, step_holds));
    }

module _ (x : Nature) (p : Plan) (planned : Planned p) (first : List ℕ) (h : History) (now : Now) (a : Holds x p first h now) where
  -- The table, the rows, the count, the unit, and how many jobs of a row are finished.
  abbrev ts : List Task
  ts = p.tasks

  abbrev rows : List Row
  rows = a.held.rows

  abbrev n : ℕ
  n = a.n

  abbrev speed : Speed
  speed = record { pace = a.pace; unit = now.unit }

  abbrev fin : ℕ → ℕ
  fin i = (tallies p h i).finished

  -- Each row of the table is one of the rows.
  in_rows : (i : ℕ) → i < length ts → i < length rows
  in_rows i hi = grind (arith, length-map)

  -- It has the task of the table.
  task_same : (i : ℕ) → i < length ts → (row_at rows i).task ≡ task_at ts i
  task_same i hi = search (rules, task_is, in_rows)

  -- The task is valid.
  valid : (i : ℕ) → i < length ts → Valid (task_at ts i)
  valid i hi = subst Valid (task_same i hi) (valid_at rows (grind arith) i (in_rows i hi))

  -- The record of a row fits.
  fits : (i : ℕ) → i < length ts → Fits (get_or first i 0) (tallies p h i) (job_at a.s.jobs i) (row_at rows i)
  fits i hi = a.held.kept.fits i (in_rows i hi)

  -- The first unfinished job's release, as the theory's row has it and as the history tells it.
  release_is : (i : ℕ) → i < length ts → get_or first i 0 + fin i * (row_at rows i).task.period ≡ release_of ts first i (fin i)
  release_is i hi = grind (arith, task_same)

  -- The first unfinished job of a row that waits is still to be released.
  waits : (i : ℕ) → i < length ts → (row_at rows i).rem ≡ 0 → n < release_of ts first i (fin i)
  waits i hi z = omega (arith, a.held.later i (in_rows i hi), ((fits i hi).waits z).0, release_is i hi)

  -- The unfinished job of a row is not late.
  due_later : (i : ℕ) → i < length ts → 0 < (row_at rows i).rem → n < (row_at rows i).due
  due_later i hi some = by a.held.mode
    where
      by : Mode p.admitted x.raise x.wake n rows a.s speed → n < (row_at rows i).due
      by (inl m) = sound_due p.admitted n (ahead x.wake now.unit) rows m.sound i (in_rows i hi) some
      by (inr (j, m)) = ⊎_elim (λ e. grind arith) (λ ne. absurd (omega (arith, some, (m.others i (in_rows i hi) ne).0))) (cases_eq i j)

  -- The first unfinished job of a row is not late, as the history tells.
  first_due : (i : ℕ) → i < length ts → n < release_of ts first i (fin i) + (task_at ts i).deadline
  first_due i hi =
      grind (arith, fits i hi, due_later i hi, release_is i hi, task_same i hi, waits i hi)

  -- A later job of a row is released later.
  release_grows : (i j k : ℕ) → j ≤ k → release_of ts first i j ≤ release_of ts first i k
  release_grows i j k le = grind arith

  -- No job is late.
  none_late : (i k : ℕ) → ¬ (Late ts first h i k)
  none_late i k ((hi, open', out), late) = grind (arith, first_due, release_grows)

  -- An unfinished job is the first of its row, and has units left.
  first_only : (i k : ℕ) → Unfinished ts first h i k → (k ≡ fin i) × (0 < (row_at rows i).rem)
  first_only i k (hi, open', out) = search (rules, valid, release_grows, first_due, waits)

  -- While the unit rests or lags, no job is unfinished.
  none_asleep : 0 < now.unit.rest + now.unit.lag → (i k : ℕ) → ¬ (Unfinished ts first h i k)
  none_asleep sleeps i k (hi, open', out) = by a.held.mode
    where
      by : Mode p.admitted x.raise x.wake n rows a.s speed → ⊥
      by (inl m) =
          let some = (first_only i k (hi, open', out)).1 in
          let z = (full_works p.admitted x.wake n rows speed m i (in_rows i hi) some).0 in grind arith
      by (inr (j, m)) = omega (arith, m.rest, m.lag)

  -- While two jobs are unfinished, the unit works at the admitted level.
  two_at_full : (i k j m : ℕ) → Unfinished ts first h i k → Unfinished ts first h j m → ¬ ((i ≡ j) × (k ≡ m)) → works now.unit ≡ p.admitted
  two_at_full i k j m one two apart = by a.held.mode
    where
      one' : (k ≡ fin i) × (0 < (row_at rows i).rem)
      one' = first_only i k one

      two' : (m ≡ fin j) × (0 < (row_at rows j).rem)
      two' = first_only j m two

      by : Mode p.admitted x.raise x.wake n rows a.s speed → works now.unit ≡ p.admitted
      by (inl f) = (full_works p.admitted x.wake n rows speed f i (in_rows i one.0) one'.1).1
      by (inr (r, s)) =
          let at : (y : ℕ) → y < length ts → 0 < (row_at rows y).rem → y ≡ r =
          λ y hy some. ⊎_elim (λ e. e) (λ ne. absurd (omega (arith, some, (s.others y (in_rows y hy) ne).0))) (cases_eq y r) in
          let same : i ≡ j = at i one.0 one'.1 ∙ sym (at j two.0 two'.1) in
          absurd (apart (same, one'.0 ∙ ap fin same ∙ sym two'.0))

-- Every run is lawful.
pub every_run_is_lawful : EveryRunIsLawful
every_run_is_lawful x p starts u h now reached =
    let r = reach_holds x p starts u h now reached in
    let first = firsts x.raise p.tasks starts in
    record {
      on_time = none_late x p r.planned first h now r.holds;
      full = two_at_full x p r.planned first h now r.holds;
      idle = none_asleep x p r.planned first h now r.holds;
      counted = grind arith;
    }
