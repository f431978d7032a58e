-- The demand of rows: of two lists together, at a later time, and row by row.
use Rattle.std.proofs.Common.{◌≡◌, ℕ, ◌+◌, ◌*◌, ◌≤◌, List, [], ◌∷◌, ◌++◌, mul-le-mul_left, arith}
use Rattle.theory.specs.Lists.{All}
use Rattle.theory.specs.Tasks.{Task, Valid, cdiv, cost, demand}
use Rattle.theory.specs.Test.{down_to}
use Rattle.theory.proofs.Cdiv.{cdiv_mono}

-- Two lists of rows ask for the sum of what each asks for.
pub demand_append : (f : ℕ) (xs ys : List Task) (t : ℕ) → demand f (xs ++ ys) t ≡ demand f xs t + demand f ys t
demand_append f [] ys t = omega arith
demand_append f (x ∷ xs) ys t = omega (arith, demand_append f xs ys t)

-- The rows ask for no less in a longer time.
pub demand_mono : (f : ℕ) (rows : List Task) (t u : ℕ) → All Valid rows → t ≤ u → demand f rows t ≤ demand f rows u
demand_mono f [] t u v h = omega arith
demand_mono f (r ∷ rs) t u v h =
    let c : cdiv t r.period ≤ cdiv u r.period = cdiv_mono t u r.period (omega arith) h in
    omega (arith, mul-le-mul_left (cost f r) c, demand_mono f rs t u v.1 h)

-- A job of a valid row takes at least a tick.
pub cost_pos : (f : ℕ) (r : Task) → 1 ≤ f → Valid r → 1 ≤ cost f r
cost_pos f r hf v = grind arith

-- A valid row asks for at least the ticks of one job, in any time that is not empty.
pub asks_a_job : (f : ℕ) (r : Task) (t : ℕ) → Valid r → 1 ≤ t → cost f r ≤ cost f r * cdiv t r.period
asks_a_job f r t v h = grind arith

-- A row under others adds what it asks for by itself.
pub demand_down : (f : ℕ) (hi : List Task) (i : Task) (t : ℕ) → demand f (down_to hi i) t ≡ demand f hi t + cost f i * cdiv t i.period
demand_down f hi i t = grind (arith, demand_append)

-- A valid row and those above it ask for something, in any time that is not empty.
pub demand_pos : (f : ℕ) (hi : List Task) (i : Task) (t : ℕ) → 1 ≤ f → Valid i → 1 ≤ t → 1 ≤ demand f (down_to hi i) t
demand_pos f hi i t hf v h = grind (arith, demand_down)
