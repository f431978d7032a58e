-- The lines of a text, by a piece at its front that ends with its first byte 10, or has the whole text where there is none.
use Rattle.std.proofs.Common.{◌≡◌, ◌≢◌, ℕ, suc, ◌+◌, ◌<◌, min, false, ◌==◌, List, [], ◌∷◌, ◌++◌, length, take, get_or, sym, refl, ap, ◌∙◌, ⊎_elim, append_assoc, length-append, arith}
use Rattle.std.proofs.lemmas.Bool.{cases_lt, cond-false, eqb-true}
use Rattle.std.proofs.lemmas.List.{get_or_append_left, take_more, take-append-le, take_all}
use Rattle.std.specs.List.{AllWithin, IsFirstMatchOrLen}
use Rattle.script.specs.Words.{before, lines_of}

-- No byte is 10.
abbrev NoneEnds : List ℕ → Type 0
NoneEnds xs = AllWithin (λ b. b == 10 ≡ false) xs 0 (length xs)

-- Nor is one of those after the first.
NoneEnds-rest : (b : ℕ) (bs : List ℕ) → NoneEnds (b ∷ bs) → NoneEnds bs
NoneEnds-rest b bs h = λ k d low lt. h (suc k) d (omega arith) (omega arith)

-- Bytes of which none is 10, with a byte 10 behind them, are the first line.
one_ended : (line more : List ℕ) → NoneEnds line → lines_of (line ++ 10 ∷ more) ≡ record { ended = line ∷ (lines_of more).ended; left = (lines_of more).left }
one_ended [] more h = refl
one_ended (b ∷ bs) more h =
    cond-false (b == 10) _ _ (h 0 0 (omega arith) (omega arith)) ∙ ap (λ l. before b l.ended l.left) (one_ended bs more (NoneEnds-rest b bs h))

-- Bytes of which none is 10 are no line.
none_ended : (xs : List ℕ) → NoneEnds xs → lines_of xs ≡ record { ended = []; left = xs }
none_ended [] h = refl
none_ended (b ∷ bs) h =
    cond-false (b == 10) _ _ (h 0 0 (omega arith) (omega arith)) ∙ ap (λ l. before b l.ended l.left) (none_ended bs (NoneEnds-rest b bs h))

module _ (text piece more : List ℕ) {i : ℕ} (whole : text ≡ piece ++ more) (long : length piece ≡ min (i + 1) (length text)) (first : IsFirstMatchOrLen (λ b. b == 10) text i) where
  -- A piece that ends with byte 10 is the first line.
  pub line_ended : (line : List ℕ) → piece ≡ line ++ (10 ∷ []) → lines_of text ≡ record { ended = line ∷ (lines_of more).ended; left = (lines_of more).left }
  line_ended line e =
      let joined : text ≡ line ++ 10 ∷ more = whole ∙ ap (λ p. p ++ more) e ∙ append_assoc line (10 ∷ []) more in
      let few : length line < i + 1 = omega (arith, length-append line (10 ∷ []), ap length e) in
      let none : NoneEnds line = λ k d low lt. let same = ap (λ t. get_or t k d) joined ∙ get_or_append_left line (10 ∷ more) d k lt in rw (← same) (first.0 k d low (omega arith)) in
      ap lines_of joined ∙ one_ended line more none

  -- Any other piece is what no byte 10 ends.
  pub line_unended : ((line : List ℕ) → piece ≢ line ++ (10 ∷ [])) → lines_of text ≡ record { ended = []; left = text }
  line_unended other =
      ⊎_elim
      (λ lt.
      let here = eqb-true _ 10 (first.1 lt 0) in
      let few : length piece ≡ i + 1 = omega arith in
      let front : piece ≡ take (i + 1) text = sym (ap (take (i + 1)) whole ∙ take-append-le (i + 1) piece more (omega arith) ∙ take_all (i + 1) piece (omega arith)) in
      absurd (other (take i text) (front ∙ take_more text i 0 lt ∙ ap (λ b. take i text ++ b ∷ []) here)))
      (λ le. none_ended text (λ k d low lt. first.0 k d low (omega arith)))
      (cases_lt i (length text))
