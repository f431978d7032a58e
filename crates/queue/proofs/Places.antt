-- Where a new entry goes among those that stand, and how it is turned there.
use Rattle.std.proofs.Common.{◌≡◌, ℕ, ◌+◌, ◌-◌, ◌<◌, ◌≤◌, Bool, true, false, cond, not, List, [], ◌∷◌, ◌++◌, length, take, drop, set, Option, refl, sym, ap, ◌∙◌, one-add, arith}
use borrow.Rule.Slice.PartMut.{put_mid}
use Rattle.std.proofs.lemmas.Grind.{common_steps}
use Rattle.std.proofs.lemmas.List.{take-take, take-set-le, take_more_set, drop-append-le, drop_at, take_at, length-take, length-take-le, length-drop, drop-set-lt, length-set, length_push}
use Rattle.std.proofs.lemmas.List.Sums.{prefix_len-le-length}
use Rattle.std.proofs.lemmas.Slice.{between_is, take-put_mid, drop-put_mid}
use Rattle.std.specs.List.{between, insert, position, position_or_len}
use Rattle.std.specs.Option.{unwrap_or}
use Rattle.queue.specs.Order.{ordered}

-- The place of the first that may not stand before x, or the end, is where x goes.
ordered_at : {E : Type 0} (before : E → E → Bool) (x : E) (xs : List E) → insert xs (position_or_len (λ y. not (before y x)) xs) x ≡ ordered before x xs
ordered_at before x [] = refl
ordered_at before x (y ∷ ys) =
    let n = position_or_len (λ y. not (before y x)) ys in
    elim (before y x) as (λ b. insert (y ∷ ys) (cond (not (not b)) (1 + n) 0) x ≡ cond b (y ∷ ordered before x ys) (x ∷ y ∷ ys)) [
      | true ↦ rw one-add (ap (λ l. y ∷ l) (ordered_at before x ys))
      | false ↦ refl
    ]

-- So it does at the place that is found, or else at the end.
pub ordered_found : {E : Type 0} (before : E → E → Bool) (x : E) (xs : List E) (found : Option ℕ) (n : ℕ) → found ≡ position (λ y. not (before y x)) xs → n ≡ unwrap_or found (length xs) →
    insert xs n x ≡ ordered before x xs
ordered_found {E} before x xs found n is at =
    let p = λ (y : E). not (before y x) in
    let place : unwrap_or (position p xs) (length xs) ≡ position_or_len p xs = grind (arith, common_steps, prefix_len-le-length (λ y. not (p y)) xs) in
    ap (λ k. insert xs k x) (at ∙ ap (λ o. unwrap_or o (length xs)) is ∙ place) ∙ ordered_at before x xs

module _ {E : Type 0} (xs : List E) (n at : ℕ) (x : E) (ys : List E) (lt : n < length xs) (le : at ≤ n) where
  -- The entries from the place on, with x behind them.
  abbrev part : List E
  part = between at (n + 1) (set xs n x)

  -- Where x is turned to the front of that part, it is in its place among the first n.
  pub turned_in : ys ≡ drop (length part - 1) part ++ take (length part - 1) part → take (n + 1) (put_mid at (n + 1 - at) (set xs n x) ys) ≡ insert (take n xs) at x
  turned_in is =
      let kept = drop at (take n xs) in
      let long : length (take n xs) ≡ n = length-take-le n xs (omega arith) in
      let q : part ≡ kept ++ x ∷ [] = between_is (set xs n x) at (n + 1) ∙ ap (drop at) (take_more_set xs n x lt) ∙ drop-append-le at (take n xs) (x ∷ []) (omega arith) in
      let k : length kept ≡ length part - 1 = omega (arith, ap length q ∙ length_push kept x) in
      let behind = drop_at kept (x ∷ []) (length part - 1) k in
      let ahead = take_at kept (x ∷ []) (length part - 1) k in
      let r : ys ≡ x ∷ kept = cc in
      let m : n + 1 ≡ at + length ys = omega (arith, ap length r, length-drop at (take n xs)) in
      let front = take-put_mid at (n + 1 - at) (set xs n x) ys (n + 1) m (omega (arith, length-set xs n x)) in
      let same : take at (set xs n x) ≡ take at (take n xs) = take-set-le at xs n x le ∙ sym (take-take at n xs le) in
      cc

  -- What lies past that part stays as it was.
  pub turned_past : length ys ≡ length part → drop (n + 1) (put_mid at (n + 1 - at) (set xs n x) ys) ≡ drop (n + 1) xs
  turned_past long =
      let same = length-set xs n x in
      let front = length-take (n + 1 - at) (drop at (set xs n x)) in
      let rest = length-drop at (set xs n x) in
      drop-put_mid at (n + 1 - at) (set xs n x) ys (n + 1) (omega arith) (omega arith) (omega arith) ∙ drop-set-lt (n + 1) xs n x (omega arith)
