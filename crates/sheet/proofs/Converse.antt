-- What is read without a fault is proper, and the bytes are its text.
use Rattle.std.proofs.Common.{◌≡◌, ℕ, ◌+◌, Bool, true, ◌==◌, nat_lt, ◌↔◌, List, [], ◌∷◌, ◌++◌, length, Ok, Err, Result, sym, refl, ap, ◌∙◌, subst, inl, inr, ⊎_elim, arith, MatchResult}
use Rattle.std.proofs.lemmas.List.{append-nil}
use Rattle.std.proofs.lemmas.Bool.{cond_both, eqb-true, or_cases}
use Rattle.std.proofs.lemmas.Bool.Decides.{nat_tests}
use Rattle.fault.specs.declared.Fault.{Fault}
use Rattle.tasks.specs.Levels.{level_fault}
use Rattle.tasks.specs.Ranges.{one_to}
use Rattle.tasks.specs.Tables.{task_fault}
use Rattle.sheet.specs.Contents.{contents_of, ReadsAs}
use Rattle.sheet.specs.Lines.{levels_word, tasks_word, starts_word, count_line, task_line}
use Rattle.sheet.specs.Sheets.{Contents, item_at, count_at, body, start_fault, at_end, each_or_none, counts, bodies, read_lines, read_sheet}
use Rattle.sheet.specs.Text.{number}
use Rattle.sheet.specs.Written.{count_text, number_text, task_text, each_text, sheet_text, Proper}
use Rattle.sheet.specs.declared.counts.Counts.{Counts}
use Rattle.sheet.specs.declared.sheet.Sheet.{Sheet}
use Rattle.sheet.proofs.Exact.{exact_number, exact_count, exact_task, item_exact}
use Rattle.sheet.proofs.Followed.{body_exact, follow_levels, follow_tasks, follow_starts}
use Rattle.sheet.proofs.Parts.{ok_parts}
use Rattle.sheet.proofs.Whole.{sheet_back}

-- A count that is read is in its range, and the text begins with its line.
count_exact : (line : ℕ) (word : List ℕ) (in_range : ℕ → Bool) (text : List ℕ) {p : ℕ × List ℕ} → count_at line word in_range text ≡ Ok p → (in_range p.0 ≡ true) × (text ≡ count_text word p.0 ++ p.1)
count_exact line word in_range text {p} h = ok_parts (item_at (count_line word) line 0 text) _ h (λ q item h.
    let same : ◌≡◌ {A = ℕ × List ℕ} q p = grind arith in
    let P : ℕ × List ℕ → Type 0 = λ p. (in_range p.0 ≡ true) × (text ≡ count_text word p.0 ++ p.1) in
    subst P same (grind arith, item_exact (count_line word) (count_text word) (exact_count word) line 0 text item))

-- The counts of a sheet: each in its range, and the text begins with their lines.
record Counted (n : Counts) (text rest : List ℕ) : Type 0 where
  levels : one_to 64 n.levels ≡ true
  tasks : one_to 32 n.tasks ≡ true
  starts : each_or_none n.tasks n.starts ≡ true
  lines : text ≡ count_text levels_word n.levels ++ (count_text tasks_word n.tasks ++ (count_text starts_word n.starts ++ rest))

-- The counts that are read are so.
counts_exact : (text : List ℕ) {p : Counts × List ℕ} → counts text ≡ Ok p → Counted p.0 text p.1
counts_exact text {p} h = ok_parts (count_at 1 levels_word (one_to 64) text) _ h (λ l first h. ok_parts (count_at 2 tasks_word (one_to 32) l.1) _ h (λ k second h. ok_parts (count_at 3 starts_word (each_or_none k.0) k.1) _ h (λ s third h.
    let levels = count_exact 1 levels_word (one_to 64) text first in
    let tasks = count_exact 2 tasks_word (one_to 32) l.1 second in
    let starts = count_exact 3 starts_word _ k.1 third in
    let same : ◌≡◌ {A = Counts × List ℕ} (record { levels = l.0; tasks = k.0; starts = s.0 }, s.1) p = cc in
    let P : Counts × List ℕ → Type 0 = λ p. Counted p.0 text p.1 in
    subst P same (record { levels = levels.0; tasks = tasks.0; starts = starts.0; lines = levels.1 ∙ ap (λ t. count_text levels_word l.0 ++ t) (tasks.1 ∙ ap (λ t. count_text tasks_word k.0 ++ t) starts.1) }))))

-- A sheet that ends after its last line says what was read, and no text is left.
end_exact : (line : ℕ) (c : Contents) (rest : List ℕ) {d : Contents} → at_end line c rest ≡ Ok d → (rest ≡ []) × (c ≡ d)
end_exact line c [] h = (refl, cc)
end_exact line c (b ∷ bs) h = cc

-- What is read after the counts is proper, and the bytes are its text.
bodies_exact : (n : Counts) (bytes text : List ℕ) → Counted n bytes text → (c : Contents) → bodies n text ≡ Ok c → Proper c × (bytes ≡ sheet_text c)
bodies_exact n bytes text counted c h =
    ok_parts (body number level_fault 3 n.levels [] text) _ h (λ l first h. ok_parts (body task_line task_fault (3 + n.levels) n.tasks [] l.1) _ h (λ k second h. ok_parts (body number start_fault (3 + n.levels + n.tasks) n.starts [] k.1) _ h (λ s third h.
    let levels = body_exact number number_text exact_number level_fault 3 n.levels text first in
    let tasks = body_exact task_line task_text exact_task task_fault _ n.tasks l.1 second in
    let starts = body_exact number number_text exact_number start_fault _ n.starts k.1 third in
    let ends = end_exact _ _ s.1 h in
    let P : Contents → Type 0 = λ c. Proper c × (bytes ≡ sheet_text c) in
    let proper : Proper (record { levels = l.0; tasks = k.0; starts = s.0 }) =
    record {
      some_levels = grind (arith, nat_tests);
      few_levels = grind (arith, nat_tests);
      rising = follow_levels 3 l.0 [] levels.follow;
      some_tasks = grind (arith, nat_tests);
      few_tasks = grind (arith, nat_tests);
      in_range = follow_tasks _ k.0 [] tasks.follow;
      starts_for = ⊎_elim (λ none. inl (starts.many ∙ eqb-true n.starts 0 none)) (λ all. inr (starts.many ∙ eqb-true n.starts n.tasks all ∙ sym tasks.many)) (or_cases (n.starts == 0) (n.starts == n.tasks) counted.starts);
      early = follow_starts _ s.0 [] starts.follow;
    } in
    let none = append-nil (each_text number_text s.0) in
    let last = ends.0 in
    subst P ends.1 (proper, cc))))

-- What is read without a fault is proper, and the bytes are its text.
pub sheet_exact : (bytes : List ℕ) (c : Contents) → read_sheet bytes ≡ Ok c → Proper c × (bytes ≡ sheet_text c)
sheet_exact bytes c h =
    let P : Result Contents Fault → Type 0 = λ r. r ≡ Ok c → Proper c × (bytes ≡ sheet_text c) in
    cond_both (nat_lt 4096 (length bytes)) _ (read_lines bytes) P (λ long h. cc) (λ short h. ok_parts (counts bytes) _ h (λ n first h. bodies_exact n.0 bytes n.1 (counts_exact bytes first) c h)) h

-- So the code reads contents exactly where they are proper and the bytes are their text.
pub read_exact : (bytes : List ℕ) (r : Result Sheet Fault) → MatchResult r (λ s. read_sheet bytes ≡ Ok (contents_of s)) (λ f. read_sheet bytes ≡ Err f) → (c : Contents) → ReadsAs r c ↔ (Proper c × (bytes ≡ sheet_text c))
read_exact bytes (Ok s) v c =
    let P : Contents → Type 0 = λ c. Proper c × (bytes ≡ sheet_text c) in
    (λ e. subst P e (sheet_exact bytes (contents_of s) v), λ p. let back = sheet_back c p.0 in let same = ap read_sheet p.1 in cc)
read_exact bytes (Err f) v c = (λ none. absurd none, λ p. let back = sheet_back c p.0 in let same = ap read_sheet p.1 in cc)
