-- The text of a proper sheet is short enough.
use Rattle.std.proofs.Common.{ℕ, ◌+◌, ◌*◌, ◌^◌, ◌<◌, ◌≤◌, List, [], ◌∷◌, length, mul-suc, arith}
use Rattle.std.proofs.lemmas.Fmt.{length-decimal-le}
use Rattle.std.proofs.lemmas.List.{length-append}
use Rattle.theory.specs.Lists.{All}
use Rattle.theory.specs.Tasks.{Task}
use Rattle.sheet.specs.Sheets.{Contents}
use Rattle.sheet.specs.Written.{number_text, task_text, each_text, sheet_text, Proper}
use Rattle.sheet.proofs.Passing.{all_weaker, levels_low, Low, task_low}

-- Texts of at most k bytes each.
each_short : {X : Type 0} (text : X → List ℕ) (k : ℕ) (xs : List X) → All (λ x. length (text x) ≤ k) xs → length (each_text text xs) ≤ k * length xs
each_short text k [] h = omega arith
each_short text k (x ∷ xs) h = simp (length-append, mul-suc) (omega (arith, h.0, each_short text k xs h.1))

-- A number of at most k digits, and byte 10.
number_short : (k n : ℕ) → 0 < k → n < 10 ^ k → n < 2 ^ 64 → length (number_text n) ≤ k + 1
number_short k n some low fits = simp length-append (omega (arith, length-decimal-le k n some low fits))

-- Three numbers, two spaces and byte 10.
task_short : (t : Task) → Low t → length (task_text t) ≤ 21
task_short t low = simp length-append (omega (arith, length-decimal-le 5 t.period (omega arith) (omega arith) (omega arith), length-decimal-le 5 t.deadline (omega arith) (omega arith) (omega arith), length-decimal-le 8 t.work (omega arith) (omega arith) (omega arith)))

-- At most 4,096 bytes.
pub sheet_short : (c : Contents) → Proper c → length (sheet_text c) ≤ 4096
sheet_short c p =
    let levels = each_short number_text 5 c.levels (all_weaker (λ n h. number_short 4 n (omega arith) (omega arith) (omega arith)) c.levels (levels_low 0 c.levels p.rising)) in
    let tasks = each_short task_text 21 c.tasks (all_weaker (λ t h. task_short t (task_low t h)) c.tasks p.in_range) in
    let starts = each_short number_text 6 c.starts (all_weaker (λ n h. number_short 5 n (omega arith) (omega arith) (omega arith)) c.starts p.early) in
    simp length-append (omega (arith, length-decimal-le 2 (length c.levels) (omega arith) (omega arith) (omega arith), length-decimal-le 2 (length c.tasks) (omega arith) (omega arith) (omega arith), length-decimal-le 2 (length c.starts) (omega arith) (omega arith) (omega arith)))
