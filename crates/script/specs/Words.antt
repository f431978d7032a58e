-- What lines say to a run: each line, ended by byte 10, says a word once or some times.
use Rattle.std.specs.Prelude.{◌≡◌, ℕ, ◌+◌, cond, ◌⊎◌, List, [], ◌∷◌, ◌++◌, length, replicate, Some, None, Ok, Err, codes, Option, Result, ◌==◌, nat_le}
use Rattle.std.specs.Str.{bytes_eq}
use Rattle.machine.specs.declared.word.Word.{Word}
use Rattle.machine.specs.declared.word.Word.TheVariants.{GoOn, Ended, Standing}
use Rattle.sheet.specs.Lines.{◌>>=◌}
pub use Rattle.sheet.specs.Sheets.{and_then}
use Rattle.sheet.specs.Text.{cut, number}
use Rattle.script.specs.declared.said.Said.{Said}
use Rattle.script.specs.declared.unread.Unread.{Unread}
use Rattle.script.specs.declared.unread.Unread.TheVariants.{BadLine, TooMany, NoMemory}

-- The text of each word.
abbrev pub word_text : Word → List ℕ
word_text GoOn = codes "go-on"
word_text Ended = codes "ended"
word_text Standing = codes "standing"

-- The word that has a text.
abbrev pub word_of : List ℕ → Option Word
word_of xs =
    cond (bytes_eq (word_text GoOn) xs) (Some GoOn) (
    cond (bytes_eq (word_text Ended) xs) (Some Ended) (
    cond (bytes_eq (word_text Standing) xs) (Some Standing) None))

-- WORD COUNT, with a count from 1 on
abbrev pub counted : List ℕ × List ℕ → Option Said
counted p = do
  w ← word_of p.0
  n ← number p.1
  cond (nat_le 1 n) (Some (record { word = w; times = n })) None

-- WORD
abbrev pub once : List ℕ → Option Said
once xs = do
  w ← word_of xs
  Some (record { word = w; times = 1 })

-- A line, by what stands before and after its first space.
abbrev pub said_in : List ℕ → Option (List ℕ × List ℕ) → Option Said
said_in xs None = once xs
said_in xs (Some p) = counted p

-- WORD or WORD COUNT
abbrev pub said_of : List ℕ → Option Said
said_of xs = said_in xs (cut 32 xs)

-- The lines of a text, each without the byte 10 that ends it, and the bytes after the last of them.
pub record Lines : Type 0 where
  pub ended : List (List ℕ)
  pub left : List ℕ

-- One more byte before the others.
abbrev pub before : ℕ → List (List ℕ) → List ℕ → Lines
before b [] left = record { ended = []; left = b ∷ left }
before b (l ∷ ls) left = record { ended = (b ∷ l) ∷ ls; left = left }

abbrev pub lines_of : List ℕ → Lines
lines_of [] = record { ended = []; left = [] }
lines_of (b ∷ bs) =
    cond (b == 10) (record { ended = [] ∷ (lines_of bs).ended; left = (lines_of bs).left }) (before b (lines_of bs).ended (lines_of bs).left)

-- The words before a line with those that it says. There are at most 10,000,000.
abbrev pub with_said : ℕ → List Word → Option Said → Result (List Word) Unread
with_said line words None = Err (BadLine line)
with_said line words (Some s) =
    cond (nat_le (length words + s.times) 10000000) (Ok (words ++ replicate s.times s.word)) (Err (TooMany line))

abbrev pub with_line : ℕ → List Word → List ℕ → Result (List Word) Unread
with_line line words xs = with_said line words (said_of xs)

-- The words before the given line with those of the lines from it on. Nothing may stand after the last byte 10.
abbrev pub words_from : ℕ → List Word → List (List ℕ) → List ℕ → Result (List Word) Unread
words_from line words [] [] = Ok words
words_from line words [] (b ∷ bs) = Err (BadLine line)
words_from line words (xs ∷ more) left = and_then (with_line line words xs) (λ so_far. words_from (line + 1) so_far more left)

-- The words before the given line with those that a text says from it on.
abbrev pub words_in : ℕ → List Word → List ℕ → Result (List Word) Unread
words_in line words text = words_from line words (lines_of text).ended (lines_of text).left

-- The words that a text says, or the first line at which it goes wrong.
abbrev pub words_of : List ℕ → Result (List Word) Unread
words_of bytes = words_in 1 [] bytes

-- An error that the code may answer: the one that is given, or want of memory.
abbrev pub UnreadFor : Result (List Word) Unread → Unread → Type 0
UnreadFor given e = (e ≡ NoMemory) ⊎ (given ≡ Err e)
