-- The search for a row's smallest passing point, which goes from point to point.
use Rattle.std.specs.Prelude.{ℕ, ◌*◌, ◌<◌, min, List, [], ◌∷◌}
use Rattle.theory.specs.Lists.{In}
use Rattle.theory.specs.Tasks.{Task, cdiv, demand}
use Rattle.theory.specs.Test.{down_to, points}

-- The first multiple of a row's period at t or after it.
abbrev pub period_end : Task → ℕ → ℕ
period_end r t = cdiv t r.period * r.period

-- The least of `last` and the first multiples of the rows' periods at t or after it.
abbrev pub next_point : List Task → ℕ → ℕ → ℕ
next_point [] last t = last
next_point (r ∷ rs) last t = next_point rs (min last (period_end r t)) t

-- No point of the row i that is below t passes.
abbrev pub NoneBelow : ℕ → List Task → Task → ℕ → Type 0
NoneBelow f hi i t = (q : ℕ) → In q (points hi i) → q < t → q < demand f (down_to hi i) q
