-- The text that answers a sheet keeps the promise.
use Rattle.std.proofs.Common.{◌≡◌, ℕ, false, ◌⊎◌, List, Ok, Err, sym, refl, ap, subst, inl, inr, arith}
use Rattle.std.proofs.lemmas.Bool.Decides.{nat_tests}
use Rattle.fault.specs.declared.Fault.{Fault}
use Rattle.fault.specs.declared.Refusal.TheVariants.{NoLevelPasses}
use Rattle.fault.specs.Faults.{fault_at}
use Rattle.theory.specs.Test.{first_failing}
use Rattle.tasks.specs.Admission.{some_empty, admission, LowestInTime, EveryLevelLate}
use Rattle.tasks.specs.Levels.{top}
use Rattle.sheet.specs.Listing.{listing_text, refusal_text}
use Rattle.sheet.specs.Promise.{ListsLowest, SaysLate, AnswersSheet}
use Rattle.sheet.specs.Sheets.{Contents, read_sheet}
use Rattle.sheet.specs.Written.{Proper}
use Rattle.sheet.proofs.Converse.{sheet_exact}
use Rattle.sheet.proofs.Faults.{fault_low}
use Rattle.sheet.proofs.Whole.{sheet_back}

-- The line of the fault in bytes that are not read answers them.
pub answers_fault : (bytes : List ℕ) (f : Fault) → read_sheet bytes ≡ Err f → AnswersSheet bytes (refusal_text f)
answers_fault bytes f h = record {
  of_sheet = λ c p e. let back = sheet_back c p in let same = ap read_sheet e in cc;
  of_other = λ none. (f, h, fault_low bytes h, refl);
}

module _ (bytes : List ℕ) (c : Contents) (read : read_sheet bytes ≡ Ok c) where
  -- What answers the contents that are read answers the bytes.
  answers_read : (text : List ℕ) → (Proper c → ListsLowest c text ⊎ SaysLate c text) → AnswersSheet bytes text
  answers_read text on =
      let own = sheet_exact bytes c read in
      let P : Contents → Type 0 = λ d. ListsLowest d text ⊎ SaysLate d text in
      record {
        of_sheet = λ d p e. let back = sheet_back d p in let same = ap read_sheet e in let is : c ≡ d = cc in subst P is (on own.0);
        of_other = λ none. absurd (none c own.0 own.1);
      }

  -- The listing of the lowest level that keeps every deadline answers the bytes.
  pub answers_plan : (level : ℕ) (found : List (ℕ × ℕ)) → LowestInTime c.levels c.tasks level found → AnswersSheet bytes (listing_text level found)
  answers_plan level found h = answers_read (listing_text level found) (λ p. inl (level, found, h, refl))

  -- The line of the fault for which admission is refused answers the bytes, where every level is late.
  pub answers_late : (f : Fault) → admission c.levels c.tasks ≡ Err f → (f.refusal ≡ NoLevelPasses → EveryLevelLate c.levels c.tasks) → AnswersSheet bytes (refusal_text f)
  answers_late f h late = answers_read (refusal_text f) (λ p.
      let some : some_empty c.levels c.tasks ≡ false = grind (arith, nat_tests) in
      let is : fault_at NoLevelPasses 0 (first_failing (top c.levels) c.tasks) ≡ f = grind arith in
      inr (late (sym (ap (λ f. f.refusal) is)), sym (ap refusal_text is)))
