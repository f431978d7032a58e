-- A text is cut where it was joined.
use Rattle.std.proofs.Common.{◌≡◌, ◌==◌, ℕ, ◌+◌, ◌<◌, Bool, true, cond, not, nat_lt, List, [], ◌∷◌, ◌++◌, length, Some, refl, ap, ◌∙◌, arith}
use Rattle.std.proofs.lemmas.List.{length-append, take_at, drop_at, drop_more}
use Rattle.std.proofs.lemmas.List.Folds.{list_all-append}
use Rattle.std.proofs.lemmas.Bool.{and_parts, and_from, cond-true, lt-ltb}
use Rattle.std.proofs.lemmas.Bool.Decides.{nat_tests}
use Rattle.std.specs.Char.{is_ascii_digit}
use Rattle.std.specs.List.{list_all, position_or_len}
use Rattle.std.specs.Str.{all_ascii_digits}
use Rattle.sheet.specs.Text.{cut_at, cut}

-- The separator stands nowhere in the bytes.
abbrev pub free : ℕ → List ℕ → Bool
free sep xs = list_all (λ b. not (b == sep)) xs

-- Nor in two such texts, one after the other.
pub free_append : (sep : ℕ) (xs ys : List ℕ) → free sep xs ≡ true → free sep ys ≡ true → free sep (xs ++ ys) ≡ true
free_append sep xs ys hx hy = list_all-append (λ b. not (b == sep)) xs ys ∙ and_from _ _ hx hy

-- Nor in digits, where it is below them.
pub free_digits : (sep : ℕ) (xs : List ℕ) → sep < 48 → all_ascii_digits xs ≡ true → free sep xs ≡ true
free_digits sep [] low h = refl
free_digits sep (x ∷ xs) low h =
    let p = and_parts (is_ascii_digit x) (all_ascii_digits xs) h in
    let off : not (x == sep) ≡ true = grind (arith, nat_tests) in
    and_from (not (x == sep)) _ off (free_digits sep xs low p.1)

-- The first separator is the one that joins.
before : (sep : ℕ) (xs rest : List ℕ) → free sep xs ≡ true → position_or_len (λ b. b == sep) (xs ++ (sep ∷ rest)) ≡ length xs
before sep [] rest h = let on : (sep == sep) ≡ true = grind (arith, nat_tests) in ap (λ t. cond (not t) (1 + position_or_len (λ b. b == sep) rest) 0) on
before sep (x ∷ xs) rest h =
    let p = and_parts (not (x == sep)) (free sep xs) h in
    cond-true (not (x == sep)) _ _ p.0 ∙ omega (arith, before sep xs rest p.1)

-- Bytes without the separator, the separator, and the rest.
pub cut_joined : (sep : ℕ) (xs rest : List ℕ) → free sep xs ≡ true → cut sep (xs ++ (sep ∷ rest)) ≡ Some (xs, rest)
cut_joined sep xs rest h =
    let all = xs ++ (sep ∷ rest) in
    let within : length xs < length all = omega (arith, length-append xs (sep ∷ rest)) in
    let here = ap (λ n. cut_at n all) (before sep xs rest h) ∙ cond-true (nat_lt (length xs) (length all)) _ _ (lt-ltb _ _ within) in
    let front = take_at xs (sep ∷ rest) (length xs) refl in
    let back = drop_at xs (sep ∷ rest) (length xs) refl in
    let more = drop_more all (length xs) 0 within in
    cc
