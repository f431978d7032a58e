-- The smallest number of a list that has a property: it stands in the list, has the property, and no smaller one does both.
use Rattle.std.proofs.Common.{◌≡◌, ℕ, ◌≤◌, Bool, true, false, List, [], ◌∷◌, Some, None, Option, cond, arith, MatchOption}
use Rattle.theory.specs.Lists.{In}
use Rattle.theory.specs.Test.{lesser, smallest}

-- No number of the list has the property.
abbrev pub NoSuch : (ℕ → Bool) → List ℕ → Type 0
NoSuch q xs = (x : ℕ) → In x xs → q x ≡ false

-- m is the smallest number of the list that has the property.
pub record Smallest (q : ℕ → Bool) (xs : List ℕ) (m : ℕ) : Type 0 where
  pub listed : In m xs
  pub has : q m ≡ true
  pub least : (x : ℕ) → In x xs → q x ≡ true → m ≤ x

-- One number more: where it has the property, the smaller of the two is the smallest.
smallest_more : (q : ℕ → Bool) (x : ℕ) (xs : List ℕ) (o : Option ℕ) → MatchOption o (NoSuch q xs) (Smallest q xs) →
    MatchOption (cond (q x) (Some (lesser x o)) o) (NoSuch q (x ∷ xs)) (Smallest q (x ∷ xs))
smallest_more q x xs None h = grind arith
smallest_more q x xs (Some y) h = grind arith

-- What `smallest` computes is the smallest number with the property, or there is none.
pub smallest_is : (q : ℕ → Bool) (xs : List ℕ) → MatchOption (smallest q xs) (NoSuch q xs) (Smallest q xs)
smallest_is q [] = λ x m. absurd m
smallest_is q (x ∷ xs) = smallest_more q x xs (smallest q xs) (smallest_is q xs)
