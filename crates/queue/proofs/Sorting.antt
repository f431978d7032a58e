-- An entry put in order into a list: a sorted list stays sorted, and nothing is lost.
use Rattle.std.proofs.Common.{◌≡◌, Bool, true, List, [], ◌∷◌, refl, arith}
use Rattle.std.proofs.lemmas.List.Sorted.{IsPermutation-refl, IsPermutation-trans, IsPermutation-cons, IsPermutation-swap}
use Rattle.std.proofs.lemmas.Bool.{cond_both, and_from}
use Rattle.std.specs.List.Sorted.{IsPermutation}
use Rattle.queue.specs.Order.{Order, ordered, leads, sorted}

module _ {E : Type 0} (before : E → E → Bool) (o : Order before) where
  -- What stands before y's list and before y stands before that list.
  leads_on : (x y : E) (ys : List E) → before x y ≡ true → leads before y ys ≡ true → leads before x ys ≡ true
  leads_on x y [] h l = refl
  leads_on x y (z ∷ zs) h l = grind (arith, o.trans x y z, leads_on x y zs)

  -- What stands before a list and before x stands before the list with x in its place.
  leads_ordered : (y x : E) (xs : List E) → before y x ≡ true → leads before y xs ≡ true → leads before y (ordered before x xs) ≡ true
  leads_ordered y x [] h l = and_from _ _ h refl
  leads_ordered y x (z ∷ zs) h l = grind (arith, leads_ordered y x zs)

  -- A sorted list with x in its place is sorted.
  pub sorted_ordered : (x : E) (xs : List E) → sorted before xs ≡ true → sorted before (ordered before x xs) ≡ true
  sorted_ordered x [] s = refl
  sorted_ordered x (y ∷ ys) s = grind (arith, o.total x y, leads_on x y ys, leads_ordered y x ys, sorted_ordered x ys)

-- x in its place is x and the others, in another order.
pub shuffled_ordered : {E : Type 0} (before : E → E → Bool) (x : E) (xs : List E) → IsPermutation (x ∷ xs) (ordered before x xs)
shuffled_ordered before x [] = IsPermutation-refl (x ∷ [])
shuffled_ordered before x (y ∷ ys) =
    cond_both (before y x) (y ∷ ordered before x ys) (x ∷ y ∷ ys) (IsPermutation (x ∷ y ∷ ys))
    (λ _. IsPermutation-trans _ _ _ (IsPermutation-swap (x ∷ y ∷ ys) (y ∷ x ∷ ys) 0 1 (omega arith) (omega arith) refl) (IsPermutation-cons y _ _ (shuffled_ordered before x ys)))
    (λ _. IsPermutation-refl (x ∷ y ∷ ys))
