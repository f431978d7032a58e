-- The answer of a row: its smallest point at which the demand fits, and the demand there.
use Rattle.std.proofs.Common.{◌≡◌, ℕ, ◌<◌, ◌≤◌, List, Some, None, Option, arith, MatchOption}
use Rattle.std.specs.Option.{option_map}
use Rattle.theory.specs.Lists.{All, In}
use Rattle.theory.specs.Tasks.{Task, Valid, demand}
use Rattle.theory.specs.Test.{down_to, points, fits, smallest, answer}
use Rattle.theory.proofs.Demand.{demand_pos}
use Rattle.theory.proofs.Lists.{valid_above}
use Rattle.theory.proofs.Points.{point_bounds}
use Rattle.theory.proofs.Smallest.{NoSuch, Smallest, smallest_is}

-- The demand fits at no point of the row.
abbrev pub NoPointFits : ℕ → List Task → Task → Type 0
NoPointFits f hi i = (q : ℕ) → In q (points hi i) → q < demand f (down_to hi i) q

-- p is the smallest point of the row at which the demand fits.
pub record FirstFit (f : ℕ) (hi : List Task) (i : Task) (p : ℕ) : Type 0 where
  pub point : In p (points hi i)
  pub fit : demand f (down_to hi i) p ≤ p
  pub first : (q : ℕ) → In q (points hi i) → demand f (down_to hi i) q ≤ q → p ≤ q

-- What holds of the smallest fitting point with its demand, and of none where no point fits, holds of the answer.
pub by_answer : (f : ℕ) (hi : List Task) (i : Task) (P : Option (ℕ × ℕ) → Type 0) →
    ((p : ℕ) → FirstFit f hi i p → P (Some (p, demand f (down_to hi i) p))) → (NoPointFits f hi i → P None) → P (answer f hi i)
by_answer f hi i P some none = by (smallest (fits f (down_to hi i)) (points hi i)) (smallest_is (fits f (down_to hi i)) (points hi i))
  where
    by : (o : Option ℕ) → MatchOption o (NoSuch (fits f (down_to hi i)) (points hi i)) (Smallest (fits f (down_to hi i)) (points hi i)) →
        P (option_map (λ t. (t, demand f (down_to hi i) t)) o)
    by None h = grind arith
    by (Some p) h = grind arith

-- Where the row has an answer, it is the smallest fitting point and the demand there.
pub answer_some : (f : ℕ) (hi : List Task) (i : Task) (p d : ℕ) → answer f hi i ≡ Some (p, d) → FirstFit f hi i p × (d ≡ demand f (down_to hi i) p)
answer_some f hi i p d =
    by_answer f hi i (λ o. o ≡ Some (p, d) → FirstFit f hi i p × (d ≡ demand f (down_to hi i) p))
    (grind arith) (grind arith)

-- The smallest fitting point and the demand there are the answer.
pub some_answer : (f : ℕ) (hi : List Task) (i : Task) (p : ℕ) → FirstFit f hi i p → answer f hi i ≡ Some (p, demand f (down_to hi i) p)
some_answer f hi i p s =
    by_answer f hi i (λ o. o ≡ Some (p, demand f (down_to hi i) p))
    (grind arith) (grind arith)

-- Where the demand fits at no point, there is no answer.
pub no_answer : (f : ℕ) (hi : List Task) (i : Task) → NoPointFits f hi i → answer f hi i ≡ None
no_answer f hi i none = by_answer f hi i (λ o. o ≡ None) (grind arith) (grind arith)

-- An answer is a demand of at least a tick, which fits into its point, up to the deadline.
pub answer_bounds : (f : ℕ) (hi : List Task) (i : Task) (p d : ℕ) → 1 ≤ f → All Valid (down_to hi i) → answer f hi i ≡ Some (p, d) →
    (1 ≤ d) × (d ≤ p) × (p ≤ i.deadline) × (d ≡ demand f (down_to hi i) p)
answer_bounds f hi i p d hf all e = grind (arith, answer_some, point_bounds, demand_pos, valid_above)
