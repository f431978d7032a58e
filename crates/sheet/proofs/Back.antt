-- An item that is written on a line is read back.
use Rattle.std.proofs.Common.{◌≡◌, ℕ, ◌^◌, ◌<◌, true, List, [], ◌∷◌, ◌++◌, Some, Ok, decimal, Option, ap, ◌∙◌, arith}
use Rattle.std.proofs.lemmas.List.{append_assoc}
use Rattle.std.specs.Option.{ok_or}
use Rattle.fault.specs.Faults.{fault_at}
use Rattle.fault.specs.declared.Refusal.TheVariants.{EndsEarly, BadLine}
use Rattle.theory.specs.Tasks.{Task}
use Rattle.tasks.specs.Tables.{numbers}
use Rattle.std.specs.Str.{bytes_eq}
use Rattle.sheet.specs.Lines.{count_line, task_line}
use Rattle.sheet.specs.Sheets.{and_then, item_at}
use Rattle.sheet.specs.Text.{cut, number}
use Rattle.sheet.specs.Written.{count_text, number_text, task_text}
use Rattle.sheet.proofs.Cuts.{free, free_append, free_digits, cut_joined}
use Rattle.sheet.proofs.Decimals.{decimal_digits, number_decimal}

-- The text of an item, with any text after it, gives the item and that text.
abbrev pub Back : {X : Type 0} → (List ℕ → Option X) → (X → List ℕ) → X → Type 0
Back form text x = (line row : ℕ) (rest : List ℕ) → item_at form line row (text x ++ rest) ≡ Ok (x, rest)

-- So it is where the text is a line of the form, with no byte 10 in it, and byte 10.
back : {X : Type 0} (form : List ℕ → Option X) (text : X → List ℕ) (x : X) (bytes : List ℕ) → ((rest : List ℕ) → text x ++ rest ≡ bytes ++ (10 ∷ rest)) → free 10 bytes ≡ true → form bytes ≡ Some x → Back form text x
back form text x bytes e ends f = λ line row rest.
    ap (item_at form line row) (e rest) ∙ ap (λ o. and_then (ok_or o (fault_at EndsEarly line row)) (λ p. and_then (ok_or (form p.0) (fault_at BadLine line row)) (λ x. Ok (x, p.1)))) (cut_joined 10 bytes rest ends) ∙ ap (λ o. and_then (ok_or o (fault_at BadLine line row)) (λ x. Ok (x, rest))) f

-- Byte 10 stands in no decimal text.
one_line : (n : ℕ) → n < 10 ^ 9 → free 10 (decimal n) ≡ true
one_line n small = free_digits 10 (decimal n) (omega arith) (decimal_digits n small)

-- Nor does byte 32.
one_item : (n : ℕ) → n < 10 ^ 9 → free 32 (decimal n) ≡ true
one_item n small = free_digits 32 (decimal n) (omega arith) (decimal_digits n small)

-- A number.
pub number_back : (n : ℕ) → n < 10 ^ 9 → Back number number_text n
number_back n small =
    back number number_text n (decimal n) (λ rest. append_assoc (decimal n) (10 ∷ []) rest) (one_line n small) (number_decimal n small)

-- A word with a count.
pub count_back : (word : List ℕ) (n : ℕ) → n < 10 ^ 9 → free 10 word ≡ true → free 32 word ≡ true → bytes_eq word word ≡ true → Back (count_line word) (count_text word) n
count_back word n small ends word_ends known =
    let first = cut_joined 32 word (decimal n) word_ends in
    let value = number_decimal n small in
    back (count_line word) (count_text word) n (word ++ (32 ∷ decimal n)) (λ rest. simp append_assoc) (free_append 10 word (32 ∷ decimal n) ends (one_line n small)) (cc)

-- A line of three numbers.
three : (xs ys ps ds ws : List ℕ) {p d w : ℕ} → cut 32 xs ≡ Some (ps, ys) → cut 32 ys ≡ Some (ds, ws) → number ps ≡ Some p → number ds ≡ Some d → number ws ≡ Some w → task_line xs ≡ Some (numbers p d w)
three xs ys ps ds ws first second period deadline work = cc

-- The numbers of a task.
pub task_back : (t : Task) → t.period < 10 ^ 9 → t.deadline < 10 ^ 9 → t.work < 10 ^ 9 → Back task_line task_text t
task_back t p d w =
    let later = decimal t.deadline ++ (32 ∷ decimal t.work) in
    let ends = free_append 10 (decimal t.period) (32 ∷ later) (one_line t.period p) (free_append 10 (decimal t.deadline) (32 ∷ decimal t.work) (one_line t.deadline d) (one_line t.work w)) in
    let first = cut_joined 32 (decimal t.period) later (one_item t.period p) in
    let second = cut_joined 32 (decimal t.deadline) (decimal t.work) (one_item t.deadline d) in
    let form = three (decimal t.period ++ (32 ∷ later)) later _ _ _ first second (number_decimal t.period p) (number_decimal t.deadline d) (number_decimal t.work w) in
    back task_line task_text t (decimal t.period ++ (32 ∷ later)) (λ rest. simp append_assoc) ends form
