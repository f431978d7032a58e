-- What is read on a line is what is written there.
use Rattle.std.proofs.Common.{◌≡◌, ℕ, ◌+◌, ◌≤◌, true, ◌==◌, not, nat_lt, List, [], ◌∷◌, ◌++◌, length, get_or, take, drop, Some, Ok, decimal, Option, ap, ◌∙◌, subst, arith}
use Rattle.std.proofs.lemmas.Fmt.{decimal-digits_value}
use Rattle.std.proofs.lemmas.Slice.Eq.{bytes_eq-Decides}
use Rattle.std.proofs.lemmas.List.{append_assoc}
use Rattle.std.proofs.lemmas.List.Sums.{prefix_len_stops, split_at_first}
use Rattle.std.proofs.lemmas.Option.{cond_some, option_and_then_some}
use Rattle.std.proofs.lemmas.Str.Parse.{digits_value_short}
use Rattle.std.proofs.lemmas.Bool.{ltb-true}
use Rattle.std.proofs.lemmas.Bool.Decides.{nat_tests}
use Rattle.std.specs.Option.{ok_or}
use Rattle.std.specs.List.{position_or_len}
use Rattle.std.specs.Str.{all_ascii_digits}
use Rattle.fault.specs.Faults.{fault_at}
use Rattle.fault.specs.declared.Refusal.TheVariants.{BadLine}
use Rattle.tasks.specs.Tables.{numbers}
use Rattle.sheet.specs.Lines.{count_line, task_line}
use Rattle.sheet.specs.Sheets.{due_line, item_at}
use Rattle.sheet.specs.Text.{cut, value, number}
use Rattle.sheet.specs.Written.{count_text, number_text, task_text}
use Rattle.sheet.proofs.Decimals.{own}
use Rattle.sheet.proofs.Parts.{ok_parts}

-- What is cut is joined again by the separator.
cut_exact : (sep : ℕ) (xs : List ℕ) {p : List ℕ × List ℕ} → cut sep xs ≡ Some p → xs ≡ p.0 ++ (sep ∷ p.1)
cut_exact sep xs {p} h =
    let n = position_or_len (λ b. b == sep) xs in
    let parts = cond_some (nat_lt n (length xs)) _ p h in
    let within = ltb-true n (length xs) parts.0 in
    let off = prefix_len_stops (λ b. not (b == sep)) xs 0 within in
    let here : get_or xs n 0 ≡ sep = grind (arith, nat_tests) in
    let P : List ℕ × List ℕ → Type 0 = λ p. xs ≡ p.0 ++ (sep ∷ p.1) in
    subst P parts.1 (split_at_first (λ b. b == sep) xs 0 within ∙ ap (λ b. take n xs ++ (b ∷ drop (n + 1) xs)) here)

-- A number that is read stands there in base ten.
number_exact : (xs : List ℕ) {n : ℕ} → number xs ≡ Some n → xs ≡ decimal n
number_exact xs {n} h =
    let parts = cond_some _ (value xs) n h in
    let on = parts.0 in
    let is = parts.1 in
    let some : 1 ≤ length xs = grind (arith, nat_tests) in
    let few : length xs ≤ 9 = grind (arith, nat_tests) in
    let digits : all_ascii_digits xs ≡ true = grind (arith, nat_tests) in
    let plain : get_or xs 0 0 ≡ 48 → length xs ≡ 1 = λ zero. grind (arith, nat_tests) in
    let low = digits_value_short own xs 9 digits few in
    let text = decimal-digits_value own xs digits (omega arith) plain (omega arith) in
    cc

-- The form reads an item only from its text, which ends with byte 10.
abbrev pub Exact : {X : Type 0} → (List ℕ → Option X) → (X → List ℕ) → Type 0
Exact {X} form text = (xs : List ℕ) (x : X) → form xs ≡ Some x → xs ++ (10 ∷ []) ≡ text x

-- A number is read only from its text.
pub exact_number : Exact number number_text
exact_number xs n h = ap (λ l. l ++ (10 ∷ [])) (number_exact xs h)

-- A word with a count is read only from their text.
pub exact_count : (word : List ℕ) → Exact (count_line word) (count_text word)
exact_count word xs n h = option_and_then_some _ (cut 32 xs) n h (λ p parts h.
    let joined = cut_exact 32 xs parts in
    let first = (bytes_eq-Decides p.0 word).0 (grind arith) in
    let count = number_exact p.1 {n = n} (grind arith) in
    let again = append_assoc word (32 ∷ decimal n) (10 ∷ []) in
    cc)

-- The numbers of a task are read only from their text.
pub exact_task : Exact task_line task_text
exact_task xs t h = option_and_then_some _ (cut 32 xs) t h (λ p first h. option_and_then_some _ (cut 32 p.1) t h (λ q second h.
    option_and_then_some _ (number p.0) t h (λ period pe h. option_and_then_some _ (number q.0) t h (λ deadline de h. option_and_then_some _ (number q.1) t h (λ work we h.
    let a = cut_exact 32 xs first in
    let b = cut_exact 32 p.1 second in
    let pd = number_exact p.0 pe in
    let dd = number_exact q.0 de in
    let wd = number_exact q.1 we in
    let again : (decimal period ++ (32 ∷ decimal deadline ++ (32 ∷ decimal work))) ++ (10 ∷ []) ≡ task_text (numbers period deadline work) = simp append_assoc in
    cc)))))

-- Where an item is read, the whole text is the item's text and the text after it.
pub item_exact : {X : Type 0} (form : List ℕ → Option X) (text : X → List ℕ) → Exact form text → (line row : ℕ) (whole : List ℕ) {p : X × List ℕ} → item_at form line row whole ≡ Ok p → whole ≡ text p.0 ++ p.1
item_exact {X} form text exact line row whole {p} h = ok_parts (due_line line row whole) _ h (λ q first h. ok_parts (ok_or (form q.0) (fault_at BadLine line row)) _ h (λ x second h.
    let joined = cut_exact 10 whole {p = q} (grind arith) in
    let item = exact q.0 x (grind arith) in
    let again = append_assoc q.0 (10 ∷ []) q.1 in
    let same : ◌≡◌ {A = X × List ℕ} (x, q.1) p = cc in
    let P : X × List ℕ → Type 0 = λ p. whole ≡ text p.0 ++ p.1 in
    subst P same (cc)))
