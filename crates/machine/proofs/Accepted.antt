-- What an accepted begin says of the unit and of the first releases.
use Rattle.std.proofs.Common.{◌≡◌, ℕ, suc, ◌<◌, ◌≤◌, Bool, true, false, not, ◌&&◌, ◌||◌, List, [], ◌∷◌, length, get_or, Some, None, Option, refl, arith, nat_le, nat_lt, ◌==◌}
use lib.ListN.{length-replicate, get_or-replicate}
use Rattle.std.specs.Option.{option_map}
use Rattle.std.proofs.lemmas.Bool.{ltb-false}
use Rattle.fault.specs.declared.Fault.{Fault}
use Rattle.theory.specs.Lists.{All}
use Rattle.theory.proofs.Lists.{all_imp}
use Rattle.units.specs.Meaning.{Meaning, Nature}
use Rattle.machine.specs.Begin.{place_of, count_fault, late_fault, ready_fault, untaken_fault, early_fault, or_else, begin_fault, firsts}
use Rattle.machine.specs.Plans.{Plan, Planned}
use Rattle.machine.proofs.Lists.{all_at, any_all}
use Rattle.machine.proofs.Unit.{ready_is}

-- Where neither of two faults is found, the first is not, and the second is not.
or_else_none : (a b : Option Fault) → or_else a b ≡ None → (a ≡ None) × (b ≡ None)
or_else_none (Some e) b h = grind arith
or_else_none None b h = (refl, h)

-- Where no fault is made of a place, there is no such place.
mapped_none : (make : ℕ → Fault) (o : Option ℕ) → option_map make o ≡ None → o ≡ None
mapped_none make (Some k) h = grind arith
mapped_none make None h = refl

-- Where there is no place of a bad number, every number is good.
place_none : (bad : ℕ → Bool) (k : ℕ) (xs : List ℕ) → place_of bad k xs ≡ None → All (λ a. bad a ≡ false) xs
place_none bad k [] h = tt
place_none bad k (a ∷ xs) h =
    grind (arith, place_none bad (suc k) xs)

-- What begin leaves no fault in: the unit, the admitted level, the number of first releases, and that none is before the raise allowance.
pub record Accepted (x : Nature) (p : Plan) (starts : List ℕ) (u : Meaning) : Type 0 where
  pub rest : u.rest ≡ 0
  pub lag : u.lag ≡ 0
  pub takes : x.takes p.admitted ≡ true
  pub size : length (firsts x.raise p.tasks starts) ≡ length p.tasks
  pub after : (k : ℕ) → k < length (firsts x.raise p.tasks starts) → x.raise ≤ get_or (firsts x.raise p.tasks starts) k 0

-- It holds where begin finds no fault.
pub accepted : (x : Nature) (p : Plan) (starts : List ℕ) (u : Meaning) → Planned p → begin_fault x p starts u ≡ None → Accepted x p starts u
accepted x p starts u planned none =
    let (n₁, r₁) = or_else_none (count_fault (length p.tasks) (length starts)) _ none in
    let (_, r₂) = or_else_none (late_fault starts) _ r₁ in
    let (n₂, r₃) = or_else_none (ready_fault u) _ r₂ in
    let (n₃, n₄) = or_else_none (untaken_fault x p.admitted p.levels) (early_fault x.raise starts) r₃ in
    let is = ready_is u (grind arith) in
    record {
      rest = is.0;
      lag = is.1;
      takes = taken (grind (arith, place_none, mapped_none));
      size = sized starts (grind arith);
      after = later starts (grind (arith, place_none, mapped_none));
    }
  where
    untaken : ℕ → Bool
    untaken g = nat_le g p.admitted && not (x.takes g)

    early : ℕ → Bool
    early a = nat_lt a x.raise

    taken : All (λ g. untaken g ≡ false) p.levels → x.takes p.admitted ≡ true
    taken all =
        any_all (λ g. g ≡ p.admitted) (λ g. untaken g ≡ false) (x.takes p.admitted ≡ true) (λ g e b. grind arith) p.levels planned.listed all

    sized : (bs : List ℕ) → (length bs == 0 || length bs == length p.tasks) ≡ true → length (firsts x.raise p.tasks bs) ≡ length p.tasks
    sized [] e = length-replicate (length p.tasks) x.raise
    sized (b ∷ bs) e = grind arith

    later : (bs : List ℕ) → All (λ a. early a ≡ false) bs → (k : ℕ) → k < length (firsts x.raise p.tasks bs) → x.raise ≤ get_or (firsts x.raise p.tasks bs) k 0
    later [] a k h = grind (arith, get_or-replicate, length-replicate)
    later (b ∷ bs) a k h = grind (arith, all_at, all_imp, ltb-false)
