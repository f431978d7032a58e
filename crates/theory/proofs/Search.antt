-- The search of a row goes from point to point: where it begins, how it goes on, and how it ends.
use Rattle.std.proofs.Common.{◌≡◌, ℕ, ◌+◌, ◌-◌, ◌<◌, ◌≤◌, List, [], Some, None, ⊎_elim, arith}
use Rattle.std.proofs.lemmas.Bool.{cases_lt}
use Rattle.theory.specs.Lists.{All}
use Rattle.theory.specs.Tasks.{Task, Valid, cost, demand}
use Rattle.theory.specs.Test.{down_to, answer}
use Rattle.theory.specs.Search.{next_point, NoneBelow}
use Rattle.theory.proofs.Answer.{answer_some, some_answer, no_answer, answer_bounds}
use Rattle.theory.proofs.Demand.{demand_mono, demand_down, demand_pos, asks_a_job}
use Rattle.theory.proofs.Lists.{valid_above}
use Rattle.theory.proofs.Next.{next_is_point, next_first, next_asks_no_more}
use Rattle.theory.proofs.Points.{point_bounds}
use Rattle.theory.proofs.Suffice.{fits_next}

-- Where the demand does not fit at the next point p, it fits at no point below the demand at p.
pub jump : (f : ℕ) (hi : List Task) (i : Task) (t : ℕ) → All Valid (down_to hi i) → NoneBelow f hi i t →
    next_point (down_to hi i) i.deadline t < demand f (down_to hi i) (next_point (down_to hi i) i.deadline t) →
    NoneBelow f hi i (demand f (down_to hi i) (next_point (down_to hi i) i.deadline t))
jump f hi i t all none over q m h =
    grind (arith, demand_mono f (down_to hi i) (next_point (down_to hi i) i.deadline t) q, next_first hi i t q)

-- Where the demand fits at the next point, that is the answer.
pub found : (f : ℕ) (hi : List Task) (i : Task) (t : ℕ) → All Valid (down_to hi i) → 1 ≤ t → NoneBelow f hi i t →
    demand f (down_to hi i) (next_point (down_to hi i) i.deadline t) ≤ next_point (down_to hi i) i.deadline t →
    answer f hi i ≡ Some (next_point (down_to hi i) i.deadline t, demand f (down_to hi i) (next_point (down_to hi i) i.deadline t))
found f hi i t all ht none fit =
    some_answer f hi i (next_point (down_to hi i) i.deadline t) (grind (arith, next_is_point, next_first))

-- Where the search is past the deadline, there is no answer.
pub exhausted : (f : ℕ) (hi : List Task) (i : Task) (t : ℕ) → All Valid (down_to hi i) → NoneBelow f hi i t → i.deadline < t → answer f hi i ≡ None
exhausted f hi i t all none past = grind (arith, no_answer, point_bounds)

-- The search of a row may begin where the row above it ended, and the cost of its own job after that.
pub from_above : (f : ℕ) (hi : List Task) (j i : Task) (p d : ℕ) → 1 ≤ f → All Valid (down_to (down_to hi j) i) → answer f hi j ≡ Some (p, d) →
    NoneBelow f (down_to hi j) i (d + cost f i)
from_above f hi j i p d hf all e q m h = ⊎_elim (λ over. over) (λ fit. absurd (refute fit)) (cases_lt q (demand f (down_to rows i) q))
  where
    rows : List Task
    rows = down_to hi j

    above : All Valid rows
    above = (valid_above rows i [] all).0

    valid : Valid i
    valid = (valid_above rows i [] all).1

    late : 1 ≤ q
    late = (point_bounds rows i q all m).0

    s : ℕ
    s = q - cost f i

    -- The demand of the rows above fits at s, which is q without the cost of the row's job.
    fit_above : demand f (down_to rows i) q ≤ q → (demand f rows s ≤ s) × (1 ≤ s) × (s + cost f i ≡ q)
    fit_above fit =
        let one = asks_a_job f i q valid late in
        let sum = demand_down f rows i q in
        let some = demand_pos f hi j q hf (valid_above hi j [] above).1 late in
        let less = demand_mono f rows s q above (omega arith) in
        (omega arith, omega arith, omega arith)

    -- So the row above had an answer below that.
    refute : demand f (down_to rows i) q ≤ q → ⊥
    refute fit =
        let (fit_s, some, sum) = fit_above fit in
        let bounds = answer_bounds f hi j p d hf above e in
        ⊎_elim (λ past. omega arith)
        (λ low.
        let u = next_point rows j.deadline s in
        let (a, is) = answer_some f hi j p d e in
        let before = a.first u (next_is_point hi j s above some) (fits_next f hi j s above low fit_s) in
        let up = demand_mono f rows p u above before in
        let same = next_asks_no_more f rows j.deadline s u above (omega arith) in
        omega arith)
        (cases_lt j.deadline s)
