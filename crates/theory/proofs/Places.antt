-- Sums over the first rows, and what holds of the row at a place.
use Rattle.std.proofs.Common.{◌≡◌, ℕ, zero, suc, ◌+◌, ◌*◌, ◌<◌, ◌≤◌, Bool, List, [], ◌∷◌, ◌++◌, map, length, refl, ◌∙◌, append_assoc, arith}
use Rattle.theory.specs.Lists.{All}
use Rattle.theory.specs.Tasks.{Task, cdiv, cost, demand}
use Rattle.theory.specs.Ticks.{Row, fresh, released, given, serve, tick, tasks}
use Rattle.theory.specs.Theorems.{EveryRowFits}
use Rattle.theory.proofs.Demand.{demand_append}

-- The sum of g over the first i elements.
abbrev pub sum_to : {X : Type 0} → (X → ℕ) → ℕ → List X → ℕ
sum_to g zero xs = 0
sum_to g (suc i) [] = 0
sum_to g (suc i) (x ∷ xs) = g x + sum_to g i xs

-- P holds at the place i, if the list is so long.
abbrev pub At : {X : Type 0} → (X → Type 0) → ℕ → List X → Type 0
At P i [] = Unit {0}
At P zero (x ∷ xs) = P x
At P (suc i) (x ∷ xs) = At P i xs

-- What follows from P at every element follows at the place i.
pub at_imp : {X : Type 0} (P Q : X → Type 0) → ((x : X) → P x → Q x) → (i : ℕ) (xs : List X) → At P i xs → At Q i xs
at_imp P Q h i [] a = tt
at_imp P Q h zero (x ∷ xs) a = h x a
at_imp P Q h (suc i) (x ∷ xs) a = at_imp P Q h i xs a

-- What holds at the place i holds there after a map that keeps it.
pub at_map : {X Y : Type 0} (f : X → Y) (P : X → Type 0) (Q : Y → Type 0) → ((x : X) → P x → Q (f x)) → (i : ℕ) (xs : List X) → At P i xs → At Q i (map f xs)
at_map f P Q h i [] a = tt
at_map f P Q h zero (x ∷ xs) a = h x a
at_map f P Q h (suc i) (x ∷ xs) a = at_map f P Q h i xs a

-- What holds at the place i after a map holds there of the mapped element.
pub at_unmap : {X Y : Type 0} (f : X → Y) (Q : Y → Type 0) (i : ℕ) (xs : List X) → At Q i (map f xs) → At (λ x. Q (f x)) i xs
at_unmap f Q i [] a = tt
at_unmap f Q zero (x ∷ xs) a = a
at_unmap f Q (suc i) (x ∷ xs) a = at_unmap f Q i xs a

-- Two things that hold at the place i hold there together.
pub at_both : {X : Type 0} (P Q : X → Type 0) (i : ℕ) (xs : List X) → At P i xs → At Q i xs → At (λ x. P x × Q x) i xs
at_both P Q i [] a b = tt
at_both P Q zero (x ∷ xs) a b = (a, b)
at_both P Q (suc i) (x ∷ xs) a b = at_both P Q i xs a b

-- What holds at every place holds of every element.
pub all_from_at : {X : Type 0} (P : X → Type 0) (xs : List X) → ((i : ℕ) → i < length xs → At P i xs) → All P xs
all_from_at P [] h = tt
all_from_at P (x ∷ xs) h = (h 0 (omega arith), all_from_at P xs (λ i k. h (suc i) (omega arith)))

-- What holds of every element holds after a map that keeps it.
pub all_map : {X Y : Type 0} (f : X → Y) (P : X → Type 0) (Q : Y → Type 0) → ((x : X) → P x → Q (f x)) → (xs : List X) → All P xs → All Q (map f xs)
all_map f P Q h [] a = tt
all_map f P Q h (x ∷ xs) a = (h x a.0, all_map f P Q h xs a.1)

-- What holds of a row after its release, where it has one, and of the row itself, where it has none, holds of the row after
-- the releases.
pub by_release : (n : ℕ) (r : Row) (P : Row → Type 0) → (r.next ≡ n → P (fresh n r)) → ((r.next ≡ n → ⊥) → P r) → P (released n r)
by_release n r P yes' no' = grind arith

-- The service keeps what each row keeps when it is given units.
pub all_serve : (f : ℕ) (b : Bool) (P : Row → Type 0) → ((r : Row) → P r → P (given f b r)) → (rs : List Row) → All P rs → All P (serve f b rs)
all_serve f b P h [] a = tt
all_serve f b P h (r ∷ rs) a = grind (arith, all_serve f b P h rs, h r)

-- At the place i, the service keeps what a row keeps when it is given units.
pub at_serve : (f : ℕ) (b : Bool) (P : Row → Type 0) → ((r : Row) → P r → P (given f b r)) → (i : ℕ) (rs : List Row) → At P i rs → At P i (serve f b rs)
at_serve f b P h i [] a = tt
at_serve f b P h zero (r ∷ rs) a = grind arith
at_serve f b P h (suc i) (r ∷ rs) a = grind (arith, at_serve f b P h i rs)

-- The service leaves the tasks as they are.
pub tasks_serve : (f : ℕ) (b : Bool) (rs : List Row) → tasks (serve f b rs) ≡ tasks rs
tasks_serve f b [] = refl
tasks_serve f b (r ∷ rs) = grind (arith, tasks_serve f b rs)

-- The releases leave the tasks as they are.
pub tasks_release : (n : ℕ) (rs : List Row) → tasks (map (released n) rs) ≡ tasks rs
tasks_release n [] = refl
tasks_release n (r ∷ rs) = grind (arith, tasks_release n rs)

-- A tick leaves the tasks as they are.
pub tasks_tick : (f : ℕ) (b : Bool) (n : ℕ) (rs : List Row) → tasks (tick f b n rs) ≡ tasks rs
tasks_tick f b n rs = tasks_serve f b (map (released n) rs) ∙ tasks_release n rs

-- The ticks that one row asks for in p ticks.
abbrev pub asks : ℕ → ℕ → Task → ℕ
asks f p t = cost f t * cdiv p t.period

-- The demand down to the place i fits at some time up to the deadline there.
abbrev pub PassAt : ℕ → ℕ → List Task → Type 0
PassAt f i ts = (p : ℕ) × (1 ≤ p) × At (λ t. p ≤ t.deadline) i ts × (sum_to (asks f p) (suc i) ts ≤ p)

-- Under the rows `pre`, where every row fits, so does the one at each place.
pass_from : (f : ℕ) (pre ts : List Task) → EveryRowFits f (pre ++ ts) → (i : ℕ) → i < length ts →
    (p : ℕ) × (1 ≤ p) × At (λ t. p ≤ t.deadline) i ts × (demand f pre p + sum_to (asks f p) (suc i) ts ≤ p)
pass_from f pre [] pass i h = absurd (omega arith)
pass_from f pre (t ∷ ts) pass zero h =
    let (p, some, low, fits) = pass pre t ts refl in grind (arith, demand_append)
pass_from f pre (t ∷ ts) pass (suc i) h =
    let (p, some, low, fits) = pass_from f (pre ++ (t ∷ [])) ts (grind (arith, append_assoc pre (t ∷ []) ts)) i (omega arith) in
    grind (arith, demand_append)

-- Where every row of a table fits, so does the one at each place.
pub pass_at : (f : ℕ) (ts : List Task) → EveryRowFits f ts → (i : ℕ) → i < length ts → PassAt f i ts
pass_at f ts pass i h = let (p, some, low, fits) = pass_from f [] ts pass i h in (p, some, low, omega arith)
