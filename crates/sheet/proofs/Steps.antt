-- A body, read item by item.
use Rattle.std.proofs.Common.{◌≡◌, ℕ, suc, ◌+◌, ◌-◌, ◌<◌, ◌≤◌, List, [], ◌∷◌, ◌++◌, length, Some, None, Ok, Err, Option, Result, sym, ap, ◌∙◌, subst, arith}
use Rattle.std.proofs.lemmas.List.{length_push, nil_from_length}
use Rattle.fault.specs.Faults.{fault_at}
use Rattle.fault.specs.declared.Fault.{Fault}
use Rattle.fault.specs.declared.Refusal.TheVariants.{BadLine}
use Rattle.sheet.specs.Sheets.{and_then, unless, due_line, item_at, body}

-- The items before a row are read, and the text that is left gives what the whole text gives.
pub record Along {X : Type 0} (form : List ℕ → Option X) (check : ℕ → List X → X → Option Fault) (base count : ℕ) (whole : List ℕ) (row : ℕ) (done : List X) (text : List ℕ) : Type 0 where
  pub many : length done + 1 ≡ row
  pub gives : body form check base (count + 1 - row) done text ≡ body form check base count [] whole

-- Before the first row.
pub along_none : {X : Type 0} (form : List ℕ → Option X) (check : ℕ → List X → X → Option Fault) (base count : ℕ) (whole : List ℕ) (done : List X) → length done ≡ 0 → Along form check base count whole 1 done whole
along_none form check base count whole done e =
    let n : count + 1 - 1 ≡ count = omega arith in
    record {
      many = omega arith;
      gives = ap (λ l. body form check base (count + 1 - 1) l whole) (nil_from_length done e) ∙ ap (λ k. body form check base k [] whole) n;
    }

module _ {X : Type 0} (form : List ℕ → Option X) (check : ℕ → List X → X → Option Fault) (base count : ℕ) (whole : List ℕ) (row : ℕ) (done : List X) (text : List ℕ) (along : Along form check base count whole row done text) where
  -- After the last row.
  pub along_all : count < row → body form check base count [] whole ≡ Ok (done, text)
  along_all h =
      let n : count + 1 - row ≡ 0 = omega arith in
      sym along.gives ∙ ap (λ k. body form check base k done text) n

  module _ (within : row ≤ count) {line : ℕ} (at : line ≡ base + row) where
    -- What comes of an item, and of the text after it.
    abbrev onward : X × List ℕ → Result (List X × List ℕ) Fault
    onward p = unless (check line done p.0) (body form check base (count + 1 - (row + 1)) (done ++ (p.0 ∷ [])) p.1)

    -- The next item decides.
    next : body form check base count [] whole ≡ and_then (item_at form line row text) onward
    next =
        let n : count + 1 - row ≡ suc (count + 1 - (row + 1)) = omega arith in
        let P : ℕ → ℕ → Type 0 = λ k l. body form check base count [] whole ≡ and_then (item_at form l k text) (λ p. unless (check l done p.0) (body form check base (count + 1 - (row + 1)) (done ++ (p.0 ∷ [])) p.1)) in
        let here : P (length done + 1) (base + (length done + 1)) = sym along.gives ∙ ap (λ k. body form check base k done text) n in
        let named : P row (base + row) = subst (λ (k : ℕ). P k (base + k)) along.many here in
        subst (P row) (sym at) named

    -- A line that is missing is the fault.
    pub along_due : {f : Fault} → due_line line row text ≡ Err f → body form check base count [] whole ≡ Err f
    along_due due = let n = next in cc

    module _ {l rest : List ℕ} (due : due_line line row text ≡ Ok (l, rest)) {here : ℕ} (same : here ≡ line) where
      -- So is a line that is not of the form.
      pub along_form : form l ≡ None → body form check base count [] whole ≡ Err (fault_at BadLine here row)
      along_form none = let n = next in cc

      module _ {x : X} (item : form l ≡ Some x) where
        -- So is an item that may not follow.
        pub along_check : {f : Fault} → check here done x ≡ Some f → body form check base count [] whole ≡ Err f
        along_check e = let n = next in cc

        -- After an item that may follow comes the next.
        pub along_more : check here done x ≡ None → Along form check base count whole (row + 1) (done ++ (x ∷ [])) rest
        along_more e = let n = next in record {
          many = omega (arith, length_push done x);
          gives = cc;
        }
