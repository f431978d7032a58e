-- The level test, as a computation: the points of a row, its answer, and the answers of a table.
use Rattle.std.specs.Prelude.{ℕ, zero, suc, ◌*◌, ◌/◌, min, Bool, cond, List, [], ◌∷◌, ◌++◌, is_some, Some, None, Option, nat_le}
use Rattle.std.specs.Option.{option_map}
use Rattle.theory.specs.Tasks.{Task, demand}

-- The rows above a row, and the row itself, in order of priority.
abbrev pub down_to : List Task → Task → List Task
down_to hi i = hi ++ (i ∷ [])

-- The multiples m * p, from m = n down to 1, that are at most d.
abbrev pub multiples : ℕ → ℕ → ℕ → List ℕ
multiples d p zero = []
multiples d p (suc n) = cond (nat_le (suc n * p) d) (suc n * p ∷ multiples d p n) (multiples d p n)

-- The deadline of the row i, and the multiples of the periods of the given rows up to it: as many of each row as its
-- period goes into the period of i.
abbrev pub points_of : Task → List Task → List ℕ
points_of i [] = i.deadline ∷ []
points_of i (j ∷ js) = multiples i.deadline j.period (i.period / j.period) ++ points_of i js

-- The points of the row i under the rows hi.
abbrev pub points : List Task → Task → List ℕ
points hi i = points_of i (down_to hi i)

-- What the rows ask for up to t fits into t.
abbrev pub fits : ℕ → List Task → ℕ → Bool
fits f rows t = nat_le (demand f rows t) t

-- The smaller of x and y, where there is a y.
abbrev pub lesser : ℕ → Option ℕ → ℕ
lesser x None = x
lesser x (Some y) = min x y

-- The smallest number of a list that has a property.
abbrev pub smallest : (ℕ → Bool) → List ℕ → Option ℕ
smallest q [] = None
smallest q (x ∷ xs) = cond (q x) (Some (lesser x (smallest q xs))) (smallest q xs)

-- The answer of the row i under the rows hi, at level f: its smallest point at which the demand fits, and the demand
-- there. A row passes where it has an answer.
abbrev pub answer : ℕ → List Task → Task → Option (ℕ × ℕ)
answer f hi i = option_map (λ t. (t, demand f (down_to hi i) t)) (smallest (fits f (down_to hi i)) (points hi i))

abbrev pub passes : ℕ → List Task → Task → Bool
passes f hi i = is_some (answer f hi i)

-- The first answer and the others, where all are there.
abbrev pub joined : Option (ℕ × ℕ) → Option (List (ℕ × ℕ)) → Option (List (ℕ × ℕ))
joined (Some a) (Some rest) = Some (a ∷ rest)
joined (Some a) None = None
joined None rest = None

-- The answers of the rows lo under the rows hi, in their order; there are none where one of the rows does not pass.
abbrev pub answers : ℕ → List Task → List Task → Option (List (ℕ × ℕ))
answers f hi [] = Some []
answers f hi (i ∷ lo) = joined (answer f hi i) (answers f (down_to hi i) lo)

-- A level passes where every row of the table does.
abbrev pub level_passes : ℕ → List Task → Bool
level_passes f table = is_some (answers f [] table)

-- How many of the rows lo under the rows hi pass before the first that does not.
abbrev pub passing : ℕ → List Task → List Task → ℕ
passing f hi [] = 0
passing f hi (i ∷ lo) = cond (passes f hi i) (suc (passing f (down_to hi i) lo)) 0

-- The number, from 1, of the first row of a table that does not pass.
abbrev pub first_failing : ℕ → List Task → ℕ
first_failing f table = suc (passing f [] table)

-- Level f with its answers, or what is found above it.
abbrev pub at_level : ℕ → Option (List (ℕ × ℕ)) → Option (ℕ × List (ℕ × ℕ)) → Option (ℕ × List (ℕ × ℕ))
at_level f (Some found) above = Some (f, found)
at_level f None above = above

-- The first listed level that passes, with the answers of the rows there.
abbrev pub lowest : List ℕ → List Task → Option (ℕ × List (ℕ × ℕ))
lowest [] table = None
lowest (f ∷ fs) table = at_level f (answers f [] table) (lowest fs table)
