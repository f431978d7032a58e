-- Reading goes on from line to line. `all` is what the whole text says.
use Rattle.std.proofs.Common.{◌≡◌, ℕ, ◌+◌, ◌<◌, List, [], ◌∷◌, length, Ok, Err, Result, sym, refl, ap, ◌∙◌, inl, inr, ⊎_elim, arith}
use Rattle.machine.specs.declared.word.Word.{Word}
use Rattle.script.specs.Words.{Lines, and_then, lines_of, with_line, words_from, words_in, UnreadFor}
use Rattle.script.specs.declared.unread.Unread.{Unread}
use Rattle.script.specs.declared.unread.Unread.TheVariants.{BadLine}

module _ (n : ℕ) (words : List Word) (text : List ℕ) {all : Result (List Word) Unread} (is : words_in n words text ≡ all) where
  -- What the text says, by its lines.
  by : {l : Lines} → lines_of text ≡ l → words_from n words l.ended l.left ≡ all
  by h = sym (ap (λ l. words_from n words l.ended l.left) h) ∙ is

  module _ {line : List ℕ} {more : Lines} (h : lines_of text ≡ record { ended = line ∷ more.ended; left = more.left }) {number : ℕ} (here : number ≡ n) where
    -- What the text says, by its first line and what comes after.
    first : {r : Result (List Word) Unread} → with_line number words line ≡ r → and_then r (λ so_far. words_from (n + 1) so_far more.ended more.left) ≡ all
    first e = let w = by h in cc

    -- A line that is read leaves the others.
    pub line_read : {next : ℕ} {read : List Word} → next ≡ n + 1 → with_line number words line ≡ Ok read → words_from next read more.ended more.left ≡ all
    line_read after ok = let w = first ok in cc

    -- The error of a line is that of the whole text.
    pub line_wrong : {e : Unread} → UnreadFor (with_line number words line) e → UnreadFor all e
    line_wrong err = ⊎_elim (λ none. inl none) (λ e. inr (sym (first e))) err

  -- Bytes that no byte 10 ends are wrong.
  pub left_wrong : lines_of text ≡ record { ended = []; left = text } → 0 < length text → all ≡ Err (BadLine n)
  left_wrong h some = sym (by h) ∙ wrong text some where
    wrong : (xs : List ℕ) → 0 < length xs → words_from n words [] xs ≡ Err (BadLine n)
    wrong [] some = absurd (omega arith)
    wrong (x ∷ xs) some = refl

  -- Where none are left, the words are read.
  pub none_left : length text ≡ 0 → all ≡ Ok words
  none_left none = sym is ∙ right text none where
    right : (xs : List ℕ) → length xs ≡ 0 → words_in n words xs ≡ Ok words
    right [] none = refl
    right (x ∷ xs) none = absurd (omega arith)
