-- A total order given as a test, and a list that is put in order by it.
use Rattle.std.specs.Prelude.{◌≡◌, Bool, true, cond, ◌&&◌, ◌⊎◌, List, [], ◌∷◌}
use Rattle.std.specs.Ordering.{is_le}
use Rattle.std.specs.declared.cmp.Ordering.{Ordering}

-- The laws of a total order: of any two one may stand before the other, and both ways only where they are equal.
pub record Order {E : Type 0} (before : E → E → Bool) : Type 0 where
  pub total : (x y : E) → (before x y ≡ true) ⊎ (before y x ≡ true)
  pub trans : (x y z : E) → before x y ≡ true → before y z ≡ true → before x z ≡ true
  pub antisym : (x y : E) → before x y ≡ true → before y x ≡ true → x ≡ y

-- Whether the first may stand before the second, by a comparison: where it is not the greater.
abbrev pub upto : {E : Type 0} → (E → E → Ordering) → E → E → Bool
upto cmp x y = is_le (cmp x y)

-- x put after every entry at the front that may stand before it, so after its equals.
abbrev pub ordered : {E : Type 0} → (E → E → Bool) → E → List E → List E
ordered before x [] = x ∷ []
ordered before x (y ∷ ys) = cond (before y x) (y ∷ ordered before x ys) (x ∷ y ∷ ys)

-- Whether x may stand before each entry of a list.
abbrev pub leads : {E : Type 0} → (E → E → Bool) → E → List E → Bool
leads before x [] = true
leads before x (y ∷ ys) = before x y && leads before x ys

-- Whether each entry may stand before all that follow.
abbrev pub sorted : {E : Type 0} → (E → E → Bool) → List E → Bool
sorted before [] = true
sorted before (x ∷ xs) = leads before x xs && sorted before xs
