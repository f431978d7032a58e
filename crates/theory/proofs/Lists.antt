-- What stands in a list, and the validity of the rows of one.
use Rattle.std.proofs.Common.{◌⊎◌, List, [], ◌∷◌, ◌++◌, inr, arith}
use Rattle.theory.specs.Lists.{All, In}
use Rattle.theory.specs.Tasks.{Task, Valid}
use Rattle.theory.specs.Test.{down_to}

-- What stands in a list stands in it with another behind.
pub in_left : {X : Type 0} (x : X) (xs ys : List X) → In x xs → In x (xs ++ ys)
in_left x [] ys m = absurd m
in_left x (y ∷ xs) ys m = grind (arith, in_left x xs ys)

-- What stands in a list stands in it with another in front.
pub in_right : {X : Type 0} (x : X) (xs ys : List X) → In x ys → In x (xs ++ ys)
in_right x [] ys m = m
in_right x (y ∷ xs) ys m = inr (in_right x xs ys m)

-- What stands in two lists put together stands in one of them.
pub in_either : {X : Type 0} (x : X) (xs ys : List X) → In x (xs ++ ys) → In x xs ⊎ In x ys
in_either x [] ys m = inr m
in_either x (y ∷ xs) ys m = grind (arith, in_either x xs ys)

-- What follows from P at every element follows of all.
pub all_imp : {X : Type 0} (P Q : X → Type 0) → ((x : X) → P x → Q x) → (xs : List X) → All P xs → All Q xs
all_imp P Q h [] a = tt
all_imp P Q h (x ∷ xs) a = (h x a.0, all_imp P Q h xs a.1)

-- What follows from P and Q at every element follows of all.
pub all_two : {X : Type 0} (P Q R : X → Type 0) → ((x : X) → P x → Q x → R x) → (xs : List X) → All P xs → All Q xs → All R xs
all_two P Q R h [] a b = tt
all_two P Q R h (x ∷ xs) a b = (h x a.0 b.0, all_two P Q R h xs a.1 b.1)

-- Valid rows and a valid row under them are valid together.
pub valid_down : (hi : List Task) (i : Task) → All Valid hi → Valid i → All Valid (down_to hi i)
valid_down [] i v w = (w, tt)
valid_down (r ∷ hi) i v w = (v.0, valid_down hi i v.1 w)

-- In a valid table the rows above a row are valid, and so is that row.
pub valid_above : (hi : List Task) (i : Task) (lo : List Task) → All Valid (hi ++ (i ∷ lo)) → All Valid hi × Valid i
valid_above [] i lo v = (tt, v.0)
valid_above (x ∷ hi) i lo v = let w = valid_above hi i lo v.1 in ((v.0, w.0), w.1)
