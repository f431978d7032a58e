-- The faults that reading meets are the refusals 1 to 10.
use Rattle.std.proofs.Common.{◌≡◌, ℕ, zero, suc, ◌≤◌, Bool, nat_lt, List, length, Err, Option, Result, arith, rules, IfSome, IfErr}
use Rattle.std.proofs.lemmas.Result.{IfErr-at_err}
use Rattle.std.proofs.lemmas.Bool.Decides.{nat_tests}
use Rattle.std.proofs.lemmas.Bool.{cond_both}
use Rattle.fault.specs.declared.Fault.{Fault}
use Rattle.fault.specs.Numbers.{number_of}
use Rattle.theory.specs.Tasks.{Task}
use Rattle.tasks.specs.Levels.{level_fault}
use Rattle.tasks.specs.Tables.{task_fault}
use Rattle.sheet.specs.Sheets.{Contents, and_then, count_at, body, start_fault, at_end, read_lines, read_sheet}

-- The fault, where there is one, is a refusal up to 10.
abbrev NoneOrLow : Option Fault → Type 0
NoneOrLow o = IfSome o (λ f. number_of f.refusal ≤ 10)

-- The answer, where it is a fault, is a refusal up to 10.
abbrev OkOrLow : {A : Type 0} → Result A Fault → Type 0
OkOrLow r = IfErr r (λ f. number_of f.refusal ≤ 10)

-- So it is of two steps, where it is so of each.
then_low : {A B : Type 0} (r : Result A Fault) (k : A → Result B Fault) → OkOrLow r → ((x : A) → OkOrLow (k x)) → OkOrLow (and_then r k)
then_low r k h next = search rules

-- A count that is missing, not of its form, or out of its range is such a fault.
count_low : (line : ℕ) (word : List ℕ) (in_range : ℕ → Bool) (text : List ℕ) → OkOrLow (count_at line word in_range text)
count_low line word in_range text = search (rules, arith, then_low, cond_both)

-- So it is of a body whose items are refused for such faults.
body_low : {X : Type 0} (form : List ℕ → Option X) (check : ℕ → List X → X → Option Fault) (base : ℕ) → ((line : ℕ) (done : List X) (x : X) → NoneOrLow (check line done x)) → (n : ℕ) (done : List X) (text : List ℕ) → OkOrLow (body form check base n done text)
body_low form check base low zero done text = tt
body_low form check base low (suc n) done text = search (rules, arith, then_low, low, body_low form check base low n)

-- A level is refused for such a fault.
level_checked : (line : ℕ) (levels : List ℕ) (level : ℕ) → NoneOrLow (level_fault line levels level)
level_checked line levels level = grind (arith, nat_tests)

-- A task is refused for such a fault.
task_checked : (line : ℕ) (tasks : List Task) (t : Task) → NoneOrLow (task_fault line tasks t)
task_checked line tasks t = grind (arith, nat_tests)

-- A first release is refused for such a fault.
start_checked : (line : ℕ) (starts : List ℕ) (s : ℕ) → NoneOrLow (start_fault line starts s)
start_checked line starts s = grind (arith, nat_tests)

-- Bytes that follow the last line are such a fault.
end_low : (line : ℕ) (c : Contents) (text : List ℕ) → OkOrLow (at_end line c text)
end_low line c text = grind arith

-- The fault of a sheet that is not read is a refusal up to 10.
pub fault_low : (bytes : List ℕ) {f : Fault} → read_sheet bytes ≡ Err f → number_of f.refusal ≤ 10
fault_low bytes h = IfErr-at_err (λ f. number_of f.refusal ≤ 10) h (cond_both (nat_lt 4096 (length bytes)) _ (read_lines bytes) OkOrLow (λ long. omega arith) (λ short. search (rules, then_low, count_low, body_low, level_checked, task_checked, start_checked, end_low) depth 10))
