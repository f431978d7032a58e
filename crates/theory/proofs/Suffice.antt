-- The points suffice: from any time at which the demand fits, it fits at the next point too.
use Rattle.std.proofs.Common.{◌≡◌, ℕ, ◌≤◌, true, List, is_some, refl, arith}
use Rattle.theory.specs.Lists.{All}
use Rattle.theory.specs.Tasks.{Task, Valid, demand}
use Rattle.theory.specs.Test.{down_to, passes}
use Rattle.theory.specs.Search.{next_point}
use Rattle.theory.specs.Theorems.{FitsInTime, PointsSuffice}
use Rattle.theory.proofs.Answer.{by_answer}
use Rattle.theory.proofs.Lists.{valid_down}
use Rattle.theory.proofs.Next.{next_from, next_is_point, next_asks_no_more}
use Rattle.theory.proofs.Points.{point_bounds}

-- Where the demand fits at t, it fits at the next point.
pub fits_next : (f : ℕ) (hi : List Task) (i : Task) (t : ℕ) → All Valid (down_to hi i) → t ≤ i.deadline → demand f (down_to hi i) t ≤ t →
    demand f (down_to hi i) (next_point (down_to hi i) i.deadline t) ≤ next_point (down_to hi i) i.deadline t
fits_next f hi i t all low h = grind (arith, next_asks_no_more, next_from)

-- A row passes at one of its points just when its demand fits at any time up to its deadline.
pub points_suffice : PointsSuffice
points_suffice f hi i hf v w = (to, from)
  where
    all : All Valid (down_to hi i)
    all = valid_down hi i v w

    to : passes f hi i ≡ true → FitsInTime f hi i
    to =
        by_answer f hi i (λ o. is_some o ≡ true → FitsInTime f hi i)
        (λ p s _. let b = point_bounds hi i p all s.point in (p, b.0, b.1, s.fit)) (grind arith)

    from : FitsInTime f hi i → passes f hi i ≡ true
    from (t, ht, low, h) =
        by_answer f hi i (λ o. is_some o ≡ true) (λ _ _. refl)
        (λ none. absurd (omega (arith, none (next_point (down_to hi i) i.deadline t) (next_is_point hi i t all ht), fits_next f hi i t all low h)))
