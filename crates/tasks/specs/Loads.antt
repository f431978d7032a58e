-- What rows ask for at a level, by the ticks that a job of each takes.
use Rattle.std.specs.Prelude.{◌≡◌, ℕ, ◌+◌, ◌*◌, min, List, [], ◌∷◌}
use Rattle.std.proofs.Common.{lit≤}
use Rattle.theory.specs.Tasks as theory
use Rattle.tasks.specs.declared.load.Load.{Load}

-- The ticks that the loads ask for up to t.
abbrev pub asked : List Load → ℕ → ℕ
asked [] t = 0
asked (l ∷ ls) t = l.cost * theory.cdiv t l.period + asked ls t

-- The least of `last` and the first multiples of the periods at t or after it.
abbrev pub next : List Load → ℕ → ℕ → ℕ
next [] last t = last
next (l ∷ ls) last t = next ls (min last (theory.cdiv t l.period * l.period)) t

-- l is the load of the task t at level f.
abbrev pub LoadOf : ℕ → theory.Task → Load → Type 0
LoadOf f t l = (l.period ≡ t.period) × (l.cost ≡ theory.cost f t)

-- The loads of tasks at level f, in their order.
abbrev pub Loads : ℕ → List theory.Task → List Load → Type 0
Loads f [] [] = Unit {0}
Loads f [] (l ∷ ls) = ⊥
Loads f (t ∷ ts) [] = ⊥
Loads f (t ∷ ts) (l ∷ ls) = LoadOf f t l × Loads f ts ls

-- What stands in a place that is not used.
abbrev pub no_load : Load
no_load = record { period = 1; cost = 1; some_time = lit≤ tt; short = lit≤ tt; some_cost = lit≤ tt; light = lit≤ tt }
