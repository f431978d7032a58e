-- Bytes cut at a separator, and numbers in base ten.
use Rattle.std.specs.Prelude.{ℕ, ◌+◌, ◌-◌, ◌*◌, cond, not, ◌&&◌, ◌||◌, List, length, take, drop, Some, None, fold, Option, ◌==◌, nat_le, nat_lt, slice_index}
use Rattle.std.specs.List.{position_or_len}
use Rattle.std.specs.Str.{all_ascii_digits}

-- The first n bytes, and those after the byte behind them; none where no byte stands there.
abbrev pub cut_at : ℕ → List ℕ → Option (List ℕ × List ℕ)
cut_at n xs = cond (nat_lt n (length xs)) (Some (take n xs, drop (n + 1) xs)) None

-- What stands before the first byte `sep`, and what stands after it; none where there is no such byte.
abbrev pub cut : ℕ → List ℕ → Option (List ℕ × List ℕ)
cut sep xs = cut_at (position_or_len (λ b. b == sep) xs) xs

-- The number that digits stand for.
abbrev pub value : List ℕ → ℕ
value xs = fold (λ v b. v * 10 + (b - 48)) 0 xs

-- A number: 1 to 9 digits, the first of several not 0.
abbrev pub number : List ℕ → Option ℕ
number xs =
    cond (nat_le 1 (length xs) && nat_le (length xs) 9 && all_ascii_digits xs && (length xs == 1 || not (slice_index xs 0 == 48))) (Some (value xs)) None
