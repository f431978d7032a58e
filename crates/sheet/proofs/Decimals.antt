-- A number that is written in base ten is read back.
use Rattle.std.proofs.Common.{◌≡◌, ℕ, ◌+◌, ◌-◌, ◌*◌, ◌^◌, ◌<◌, true, ◌⊎◌, length, get_or, Some, decimal, fold, ap, inl, inr, ⊎_elim, arith, rules}
use Rattle.std.proofs.lemmas.Fmt.{decimal_digit, decimal_nonempty, first_decimal, length-decimal-le, digits_decimal, digits_value-decimal}
use Rattle.std.proofs.lemmas.Str.Parse.{IsNumeralModel, numerals_by_fold}
use Rattle.std.proofs.lemmas.Bool.{cases_lt}
use Rattle.std.proofs.lemmas.Bool.Decides.{nat_tests}
use Rattle.std.specs.Str.{all_ascii_digits}
use Rattle.sheet.specs.Text.{value, number}

-- The bytes of digits, and their value, are those of the library.
pub own : IsNumeralModel (λ ds. all_ascii_digits ds ≡ true) value
own = numerals_by_fold _ (search rules) (λ a ds. fold (λ v b. v * 10 + (b - 48)) a ds) (search rules)

module _ (n : ℕ) (small : n < 10 ^ 9) where
  -- It fits 64 bits, which the laws of `decimal` ask.
  fits : n < 2 ^ 64
  fits = omega arith

  -- Each byte of its text is a digit.
  pub decimal_digits : all_ascii_digits (decimal n) ≡ true
  decimal_digits = digits_decimal own n fits

  -- One digit, or a first digit that is not 0.
  plain : (length (decimal n) ≡ 1) ⊎ (get_or (decimal n) 0 0 ≡ 48 → ⊥)
  plain = ⊎_elim (λ low. inl (ap length (decimal_digit n low))) (λ high. inr (λ e. omega (arith, first_decimal n (omega arith) fits))) (cases_lt n 10)

  -- The digits of a number below 10 ^ 9 are read as that number.
  pub number_decimal : number (decimal n) ≡ Some n
  number_decimal =
      let few = length-decimal-le 9 n (omega arith) small fits in
      let some = decimal_nonempty n fits in
      let digits = decimal_digits in
      let same = digits_value-decimal own n fits in
      let first = plain in
      grind (arith, nat_tests)
