-- What holds of every element of a list, and what holds of some element.
use Rattle.std.specs.Prelude.{◌≡◌, ◌⊎◌, List, [], ◌∷◌}

-- P holds of each element.
abbrev pub All : {X : Type 0} → (X → Type 0) → List X → Type 0
All P [] = Unit {0}
All P (x ∷ xs) = P x × All P xs

-- P holds of some element.
abbrev pub Any : {X : Type 0} → (X → Type 0) → List X → Type 0
Any P [] = ⊥
Any P (x ∷ xs) = P x ⊎ Any P xs

-- x stands in the list.
abbrev pub In : {X : Type 0} → X → List X → Type 0
In x xs = Any (λ y. y ≡ x) xs
