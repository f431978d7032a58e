-- What a run asks of its unit.
use Rattle.std.specs.Prelude.{ℕ, ◌-◌, ◌*◌, min, Bool, cond, ◌&&◌, List, [], ◌∷◌, Some, None, Option, nat_le, nat_lt}
use Rattle.std.specs.List.{find}
use Rattle.queue.specs.declared.Entry.{Entry}
use Rattle.units.specs.Calls.{ask_with, rest_for}
use Rattle.units.specs.Meaning.{Meaning, Nature, ready}
use Rattle.machine.specs.declared.job.Job.{Job}
use Rattle.machine.specs.declared.job.Pace.{Pace}
use Rattle.machine.specs.declared.job.Pace.TheVariants.{Full, Slowed, Over}
use Rattle.machine.specs.Inner.{Inner, job_at}
use Rattle.machine.specs.Plans.{Plan, task_at}

-- The unit, and whether it is slowed.
pub record Speed : Type 0 where
  pub pace : Pace
  pub unit : Meaning

-- Whether the unit would take an ask for a level, and a rest. What it would refuse is not asked.
abbrev pub may_ask : Nature → ℕ → Meaning → Bool
may_ask x level u = ready u && x.takes level

abbrev pub may_rest : ℕ → Meaning → Bool
may_rest ticks u = ready u && (nat_lt 0 ticks && (nat_le ticks 65535 && nat_lt 0 u.asked))

-- If the unit was slowed for a job that is now finished, the admitted level is asked for.
abbrev pub ask_back : Nature → ℕ → ℕ → Pace → Meaning → Speed
ask_back x f lag Full u = record { pace = Full; unit = u }
ask_back x f lag (Slowed i) u = record { pace = Slowed i; unit = u }
ask_back x f lag Over u = cond (may_ask x f u) (record { pace = Full; unit = ask_with lag f u }) (record { pace = Over; unit = u })

-- With no active job, the unit rests until the first release, less the wake allowance k. It is tick n.
abbrev pub rest_until : ℕ → ℕ → List Entry → Meaning → Meaning
rest_until n k [] u = u
rest_until n k (e ∷ es) u = cond (may_rest (e.key - n - k) u) (rest_for (e.key - n - k) u) u

-- The smaller of a job's deadline and the first release.
abbrev pub window_end : ℕ → List Entry → ℕ
window_end due [] = due
window_end due (e ∷ es) = min due e.key

-- The ticks that a lone job may take at a lower level: up to that time, less the raise allowance r, from tick n on.
abbrev pub window : ℕ → ℕ → Job → List Entry → ℕ
window n r j d = window_end j.due d - r - n

-- The lowest level of a list that, times the window, is at least the units still to give.
abbrev pub enough_in : ℕ → ℕ → List ℕ → Option ℕ
enough_in w need gs = find (λ g. nat_le need (g * w)) gs

-- The unit is slowed for the row i to that level, if it is below the admitted level f.
abbrev pub slow_to : Nature → ℕ → ℕ → ℕ → Option ℕ → Meaning → Speed
slow_to x f lag i None u = record { pace = Full; unit = u }
slow_to x f lag i (Some g) u =
    cond (nat_lt g f && may_ask x g u) (record { pace = Slowed i; unit = ask_with lag g u }) (record { pace = Full; unit = u })

-- With the active job of the row i alone, the unit is slowed in its window.
abbrev pub slow_for : Nature → Plan → ℕ → ℕ → ℕ → ℕ → Inner → Meaning → Speed
slow_for x p lag n r i s u =
    let j = job_at s.jobs i in
    let w = window n r j s.delay in
    cond (nat_lt 0 w) (slow_to x p.admitted lag i (enough_in w ((task_at p.tasks i).work - j.given) p.levels) u) (record { pace = Full; unit = u })

-- A unit at the admitted level that works: it rests, or is slowed, or neither, as the active row and the run queue say.
abbrev pub rest_or_slow : Nature → Plan → ℕ → ℕ → ℕ → ℕ → Option ℕ → List Entry → Inner → Meaning → Speed
rest_or_slow x p lag n r k None q s u = record { pace = Full; unit = rest_until n k s.delay u }
rest_or_slow x p lag n r k (Some i) [] s u = slow_for x p lag n r i s u
rest_or_slow x p lag n r k (Some i) (h ∷ q) s u = record { pace = Full; unit = u }

-- If rest or lag is above 0, or the unit is still slowed, nothing more is asked.
abbrev pub spared : Nature → Plan → ℕ → ℕ → ℕ → ℕ → Inner → Pace → Meaning → Speed
spared x p lag n r k s Full u = cond (ready u) (rest_or_slow x p lag n r k s.active s.queue s u) (record { pace = Full; unit = u })
spared x p lag n r k s (Slowed i) u = record { pace = Slowed i; unit = u }
spared x p lag n r k s Over u = record { pace = Over; unit = u }
