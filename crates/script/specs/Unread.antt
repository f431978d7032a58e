-- Why words are not read, as printed.
use Rattle.std.specs.Prelude.{ℕ, List, ◌++◌, codes, decimal}
use Rattle.script.specs.declared.unread.Unread.{Unread}
use Rattle.script.specs.declared.unread.Unread.TheVariants.{BadLine, TooMany, NoMemory}

-- What is wrong with a line of standard input.
abbrev pub wrong_at : ℕ → List ℕ → List ℕ
wrong_at line what = codes "standard input, line " ++ (decimal line ++ (codes ": " ++ what))

abbrev pub unread_text : Unread → List ℕ
unread_text (BadLine line) = wrong_at line (codes "not go-on, ended or standing, or these with a count")
unread_text (TooMany line) = wrong_at line (codes "more than 10000000 words")
unread_text NoMemory = codes "no memory for the words"
