-- Division rounded up, by its bounds: `cdiv a b ≤ k` just when `a ≤ k * b`.
use Rattle.std.proofs.Common.{◌≡◌, ℕ, ◌+◌, ◌-◌, ◌*◌, ◌<◌, ◌≤◌, arith}
use Rattle.theory.specs.Tasks.{cdiv}

-- Where k times b reaches a, the quotient is at most k.
pub cdiv_least : (a b k : ℕ) → 1 ≤ b → a ≤ k * b → cdiv a b ≤ k
cdiv_least a b k hb h = grind arith

-- The quotient times b is less than b above a.
pub cdiv_tight : (a b : ℕ) → 1 ≤ b → cdiv a b * b < a + b
cdiv_tight a b hb = grind arith

-- A larger number has no smaller quotient.
pub cdiv_mono : (a c b : ℕ) → 1 ≤ b → a ≤ c → cdiv a b ≤ cdiv c b
cdiv_mono a c b hb h = grind arith

-- The quotient of 0 is 0.
pub cdiv_none : (b : ℕ) → 1 ≤ b → cdiv 0 b ≡ 0
cdiv_none b hb = grind arith

-- The quotient of a positive number is positive.
pub cdiv_pos : (a b : ℕ) → 1 ≤ b → 1 ≤ a → 1 ≤ cdiv a b
cdiv_pos a b hb ha = grind arith

-- With b less, the quotient is one less.
pub cdiv_less : (a b : ℕ) → 1 ≤ b → 1 ≤ a → cdiv (a - b) b + 1 ≡ cdiv a b
cdiv_less a b hb ha = grind arith
