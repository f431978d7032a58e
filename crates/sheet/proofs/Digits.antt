-- Numbers read digit by digit.
use Rattle.std.proofs.Common.{ℕ, ◌^◌, ◌<◌, ◌≤◌, arith}
use native.Mathlib.Nat.{pow-le-pow_right}

-- Before the ninth digit a value is below 10 ^ 8.
pub ten_few : (n : ℕ) → n < 9 → 10 ^ n ≤ 10 ^ 8
ten_few n h = let m : n ≤ 8 = omega arith in let some : 0 < 10 = omega arith in pow-le-pow_right some m
