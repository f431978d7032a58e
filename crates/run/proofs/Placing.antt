-- The place of the first number of a list with a property, from its index.
use Rattle.std.proofs.Common.{◌≡◌, ℕ, suc, Bool, true, false, cond, List, [], ◌∷◌, Some, Option, refl, sym, ap, ◌∙◌, ◌+◌, add-one}
use Rattle.std.proofs.lemmas.Iterator.Adapters.{position_from-zero}
use Rattle.std.specs.List.{position, position_from}
use Rattle.std.specs.Option.{option_map}
use Rattle.machine.specs.Begin.{place_of}

-- Places count from 1, and indices from 0.
places : (bad : ℕ → Bool) (i : ℕ) (xs : List ℕ) → place_of bad (suc i) xs ≡ option_map suc (position_from bad i xs)
places bad i [] = refl
places bad i (x ∷ xs) =
    elim (bad x) as (λ b. cond b (Some (suc i)) (place_of bad (suc (suc i)) xs) ≡ option_map suc (cond b (Some i) (position_from bad (i + 1) xs))) [
      | true ↦ refl
      | false ↦ rw add-one (places bad (suc i) xs)
    ]

pub place_is : (bad : ℕ → Bool) (xs : List ℕ) (found : Option ℕ) → found ≡ position bad xs → place_of bad 1 xs ≡ option_map suc found
place_is bad xs found is = places bad 0 xs ∙ ap (option_map suc) (sym (is ∙ position_from-zero bad xs))
