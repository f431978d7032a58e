-- What loads ask for, one load after the other, and that this is what the rows ask for at the level.
use Rattle.std.proofs.Common.{◌≡◌, ℕ, ◌+◌, ◌*◌, ◌<◌, ◌≤◌, min, List, [], ◌∷◌, ◌++◌, length, get_or, drop, sym, refl, ap, ◌∙◌, ap₂, mul-le-mul, le-mul_of_pos_right, arith}
use Rattle.std.proofs.lemmas.Grind.{div_ceil_times}
use Rattle.std.proofs.lemmas.List.{drop_more}
use Rattle.std.specs.Int.{div_ceil}
use Rattle.theory.specs.Search.{next_point}
use Rattle.theory.specs.Tasks as theory
use Rattle.theory.specs.Tasks.{cdiv, demand}
use Rattle.theory.proofs.Cdiv.{cdiv_least}
use Rattle.tasks.specs.declared.load.Load.{Load}
use Rattle.tasks.specs.Loads.{asked, next, LoadOf, Loads}

-- The library's quotient, rounded up, is that of the theory.
pub rounded_up : (a b : ℕ) → 1 ≤ b → div_ceil a b ≡ cdiv a b
rounded_up a b some =
    let within = div_ceil_times a b some in
    grind arith

-- One load asks for at most this much up to a deadline.
pub one_le : (l : Load) (t : ℕ) → t ≤ 65535 → l.cost * cdiv t l.period ≤ 1048560000000
one_le l t h =
    let few : cdiv t l.period ≤ t = cdiv_least t l.period t (omega (arith, l.some_time)) (le-mul_of_pos_right t (omega (arith, l.some_time))) in
    mul-le-mul {n₂ = 16000000} {m₂ = 65535} (omega (arith, l.light)) (omega arith)

module _ (ls : List Load) (i : ℕ) (l : Load) (lt : i < length ls) (is : l ≡ get_or ls i l) where
  from_here : drop i ls ≡ l ∷ drop (i + 1) ls
  from_here = drop_more ls i l lt ∙ ap (λ j. j ∷ drop (i + 1) ls) (sym is)

  -- What is asked from the place i on is what the load there asks, and what is asked behind it.
  pub asked_more : (t : ℕ) → asked (drop i ls) t ≡ l.cost * cdiv t l.period + asked (drop (i + 1) ls) t
  asked_more t = ap (λ k. asked k t) from_here

  -- The next point from the place i on, by the load there and those behind it.
  pub next_more : (last t : ℕ) → next (drop i ls) last t ≡ next (drop (i + 1) ls) (min last (cdiv t l.period * l.period)) t
  next_more last t = ap (λ k. next k last t) from_here

-- What one more load asks for.
pub ruleset one_more = (rounded_up, one_le, asked_more, next_more)

-- The loads of rows ask for what the rows do.
pub asked_is : (f : ℕ) (ts : List theory.Task) (ls : List Load) (t : ℕ) → Loads f ts ls → asked ls t ≡ demand f ts t
asked_is f [] [] t h = refl
asked_is f [] (l ∷ ls) t h = absurd h
asked_is f (x ∷ ts) [] t h = absurd h
asked_is f (x ∷ ts) (l ∷ ls) t ((p, c), h) =
    ap₂ (λ (a b : ℕ). a + b) (ap₂ (λ (a b : ℕ). a * cdiv t b) c p) (asked_is f ts ls t h)

-- The next point of the loads is that of the rows.
pub next_is : (f : ℕ) (ts : List theory.Task) (ls : List Load) (last t : ℕ) → Loads f ts ls → next ls last t ≡ next_point ts last t
next_is f [] [] last t h = refl
next_is f [] (l ∷ ls) last t h = absurd h
next_is f (x ∷ ts) [] last t h = absurd h
next_is f (x ∷ ts) (l ∷ ls) last t ((p, c), h) =
    next_is f ts ls (min last (cdiv t l.period * l.period)) t h ∙ ap (λ (q : ℕ). next_point ts (min last (cdiv t q * q)) t) p

-- One row more has one load more.
pub loads_more : (f : ℕ) (ts : List theory.Task) (ls : List Load) (t : theory.Task) (l : Load) → Loads f ts ls → LoadOf f t l → Loads f (ts ++ (t ∷ [])) (ls ++ (l ∷ []))
loads_more f [] [] t l h is = (is, tt)
loads_more f [] (k ∷ ls) t l h is = absurd h
loads_more f (x ∷ ts) [] t l h is = absurd h
loads_more f (x ∷ ts) (k ∷ ls) t l h is = (h.0, loads_more f ts ls t l h.1 is)
