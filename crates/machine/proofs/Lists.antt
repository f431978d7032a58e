-- Lists: pairs in order, what an ordered put keeps, and what stands at a place.
use Rattle.std.proofs.Common.{◌≡◌, ℕ, zero, suc, ◌<◌, ◌≤◌, Bool, true, false, List, [], ◌∷◌, length, get_or, set, inl, inr, ⊎_elim, arith}
use Rattle.queue.specs.Order.{ordered}
use Rattle.theory.specs.Lists.{All, Any}
use Rattle.theory.proofs.Lists.{all_two}
use Rattle.theory.proofs.Places.{sum_to, At}

-- R holds of each entry and every later one.
abbrev pub Pairs : {X : Type 0} → (X → X → Type 0) → List X → Type 0
Pairs R [] = Unit {0}
Pairs R (x ∷ xs) = All (R x) xs × Pairs R xs

-- An element that is there has what all have.
pub any_all : {X : Type 0} (P Q : X → Type 0) (C : Type 0) → ((x : X) → P x → Q x → C) → (xs : List X) → Any P xs → All Q xs → C
any_all P Q C h [] a b = absurd a
any_all P Q C h (x ∷ xs) (inl a) b = h x a b.0
any_all P Q C h (x ∷ xs) (inr a) b = any_all P Q C h xs a b.1

module _ {E : Type 0} (before : E → E → Bool) (x : E) where
  -- What holds of a list whether or not its head stays before x holds of the list with x in its place.
  by_ordered : (y : E) (ys : List E) (P : List E → Type 0) →
      (before y x ≡ true → P (y ∷ ordered before x ys)) → (before y x ≡ false → P (x ∷ y ∷ ys)) → P (ordered before x (y ∷ ys))
  by_ordered y ys P p q = grind arith

  -- What holds of x and of all holds of all with x in its place.
  pub all_ordered : (P : E → Type 0) (xs : List E) → P x → All P xs → All P (ordered before x xs)
  all_ordered P [] h a = (h, tt)
  all_ordered P (y ∷ ys) h a = by_ordered y ys (All P) (λ _. (a.0, all_ordered P ys h a.1)) (λ _. (h, a))

  -- With x in its place, x is there.
  pub any_here : (P : E → Type 0) (xs : List E) → P x → Any P (ordered before x xs)
  any_here P [] h = inl h
  any_here P (y ∷ ys) h = by_ordered y ys (Any P) (λ _. inr (any_here P ys h)) (λ _. inl h)

  -- With x in its place, what was there still is.
  pub any_there : (P : E → Type 0) (xs : List E) → Any P xs → Any P (ordered before x xs)
  any_there P [] a = absurd a
  any_there P (y ∷ ys) a = by_ordered y ys (Any P) (λ _. ⊎_elim (λ b. inl b) (λ b. inr (any_there P ys b)) a) (λ _. inr a)

  -- With x in its place, the pairs stay in order. Q is what the other entries are to x.
  pub pairs_ordered : (R : E → E → Type 0) (Q : E → Type 0) → ((y : E) → Q y → before y x ≡ true → R y x) → ((y : E) → Q y → before y x ≡ false → R x y) →
      ((y z : E) → Q z → R x y → R y z → R x z) → (xs : List E) → All Q xs → Pairs R xs → Pairs R (ordered before x xs)
  pairs_ordered R Q up down far [] q a = (tt, tt)
  pairs_ordered R Q up down far (y ∷ ys) q a =
      by_ordered y ys (Pairs R)
      (λ e. (all_ordered (R y) ys (up y q.0 e) a.0, pairs_ordered R Q up down far ys q.1 a.1))
      (grind (arith, all_two))

-- What holds of all holds of the element at a place.
pub all_at : {X : Type 0} (P : X → Type 0) (d : X) (xs : List X) → All P xs → (k : ℕ) → k < length xs → P (get_or xs k d)
all_at P d [] a k h = absurd (omega arith)
all_at P d (x ∷ xs) a zero h = a.0
all_at P d (x ∷ xs) a (suc k) h = all_at P d xs a.1 k (omega arith)

-- What holds of the element at each place holds of all.
pub all_by : {X : Type 0} (P : X → Type 0) (d : X) (xs : List X) → ((k : ℕ) → k < length xs → P (get_or xs k d)) → All P xs
all_by P d [] h = tt
all_by P d (x ∷ xs) h = (h 0 (omega arith), all_by P d xs (λ k b. h (suc k) (omega arith)))

-- What holds at a place of a list holds of the element there.
pub at_get : {X : Type 0} (P : X → Type 0) (d : X) (k : ℕ) (xs : List X) → k < length xs → At P k xs → P (get_or xs k d)
at_get P d k [] h a = absurd (omega arith)
at_get P d zero (x ∷ xs) h a = a
at_get P d (suc k) (x ∷ xs) h a = at_get P d k xs (omega arith) a

-- A write of an element for which g is no more does not raise the sum of g.
pub sum_set : {X : Type 0} (g : X → ℕ) (d v : X) (m i : ℕ) (xs : List X) → i < length xs → g v ≤ g (get_or xs i d) → sum_to g m (set xs i v) ≤ sum_to g m xs
sum_set g d v zero i xs h le = omega arith
sum_set g d v (suc m) i [] h le = omega arith
sum_set g d v (suc m) zero (x ∷ xs) h le = omega arith
sum_set g d v (suc m) (suc i) (x ∷ xs) h le = omega (arith, sum_set g d v m i xs (omega arith) le)

-- A write that keeps P keeps it at each place.
pub at_set : {X : Type 0} (P : X → Type 0) (d v : X) (k i : ℕ) (xs : List X) → (P (get_or xs i d) → P v) → At P k xs → At P k (set xs i v)
at_set P d v k i [] f a = a
at_set P d v zero zero (x ∷ xs) f a = f a
at_set P d v zero (suc i) (x ∷ xs) f a = a
at_set P d v (suc k) zero (x ∷ xs) f a = a
at_set P d v (suc k) (suc i) (x ∷ xs) f a = at_set P d v k i xs f a
