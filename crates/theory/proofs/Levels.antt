-- The lowest level that passes: it is listed, its answers are there, and the levels before it have none.
use Rattle.std.proofs.Common.{◌≡◌, ℕ, ◌+◌, ◌<◌, Bool, true, ◌&&◌, List, [], ◌∷◌, ◌++◌, length, get_or, drop, Some, None, Option, refl, arith, nat_lt}
use Rattle.std.proofs.lemmas.List.{drop_more}
use Rattle.theory.specs.Lists.{In}
use Rattle.theory.specs.Tasks.{Task}
use Rattle.theory.specs.Test.{answers, at_level, lowest}
use Rattle.theory.proofs.Lists.{in_right, in_either}

-- The levels rise, from above `low` on.
abbrev pub rising : ℕ → List ℕ → Bool
rising low [] = true
rising low (x ∷ xs) = nat_lt low x && rising x xs

-- The level f is listed, and the levels before it have no answers.
abbrev pub NoneBefore : ℕ → List ℕ → List Task → Type 0
NoneBefore f fs table =
    (before : List ℕ) × (after : List ℕ) × (fs ≡ before ++ (f ∷ after)) × ((g : ℕ) → In g before → answers g [] table ≡ None)

-- The level that `lowest` gives has the answers found, and those before it have none.
passes_first : (fs : List ℕ) (table : List Task) (f : ℕ) (found : List (ℕ × ℕ)) → lowest fs table ≡ Some (f, found) →
    (answers f [] table ≡ Some found) × NoneBefore f fs table
passes_first [] table f found e = grind arith
passes_first (g ∷ fs) table f found e = by (answers g [] table) refl e (passes_first fs table f found)
  where
    by : (o : Option (List (ℕ × ℕ))) → answers g [] table ≡ o → at_level g o (lowest fs table) ≡ Some (f, found) →
        (lowest fs table ≡ Some (f, found) → (answers f [] table ≡ Some found) × NoneBefore f fs table) →
        (answers f [] table ≡ Some found) × NoneBefore f (g ∷ fs) table
    by (Some xs) is h rest =
        (grind arith, ([], fs, grind arith, λ x m. absurd m))
    by None is h rest =
        let (passes, (before, after, split, none)) = rest h in (passes, (g ∷ before, after, grind arith, grind arith))

-- The level that `lowest` gives is listed, has the answers found, and those before it have none.
pub lowest_finds : (fs : List ℕ) (table : List Task) (f : ℕ) (found : List (ℕ × ℕ)) → lowest fs table ≡ Some (f, found) →
    In f fs × (answers f [] table ≡ Some found) × NoneBefore f fs table
lowest_finds fs table f found e =
    let (passes, (before, after, split, none)) = passes_first fs table f found e in grind (arith, in_right)

-- In a rising list, what stands behind a level is above it.
rises : (low : ℕ) (fs : List ℕ) (g : ℕ) → rising low fs ≡ true → In g fs → low < g
rises low [] g a m = absurd m
rises low (f ∷ fs) g a m = grind (arith, rises f fs g)

-- The end of a rising list rises from the level before it.
rises_after : (low : ℕ) (before : List ℕ) (f : ℕ) (after : List ℕ) → rising low (before ++ (f ∷ after)) ≡ true → rising f after ≡ true
rises_after low [] f after a = grind arith
rises_after low (x ∷ before) f after a = grind (arith, rises_after x before f after)

-- Where the levels rise, no listed level below the one that `lowest` gives has answers.
pub lowest_first : (low : ℕ) (fs : List ℕ) (table : List Task) (f : ℕ) (found : List (ℕ × ℕ)) → rising low fs ≡ true →
    lowest fs table ≡ Some (f, found) → (g : ℕ) → In g fs → g < f → answers g [] table ≡ None
lowest_first low fs table f found a e g m lt =
    let (passes, (before, after, split, none)) = passes_first fs table f found e in
    grind (arith, rises_after low before f after, rises f after g, in_either g before (f ∷ after))

-- Where `lowest` gives no level, no listed level has answers.
pub lowest_none : (fs : List ℕ) (table : List Task) → lowest fs table ≡ None → (g : ℕ) → In g fs → answers g [] table ≡ None
lowest_none [] table e g m = absurd m
lowest_none (f ∷ fs) table e g m = grind (arith, lowest_none fs table)

-- Where no listed level has answers, `lowest` gives none.
pub none_lowest : (fs : List ℕ) (table : List Task) → ((g : ℕ) → In g fs → answers g [] table ≡ None) → lowest fs table ≡ None
none_lowest [] table h = refl
none_lowest (f ∷ fs) table h = grind (arith, none_lowest fs table)

-- One level more of the levels from place k on.
pub lowest_more : (fs : List ℕ) (k f : ℕ) (table : List Task) → k < length fs → f ≡ get_or fs k f →
    lowest (drop k fs) table ≡ at_level f (answers f [] table) (lowest (drop (k + 1) fs) table)
lowest_more fs k f table h e = grind (arith, drop_more)
