use Rattle.std.proofs.Common.{◌≡◌, ◌≤◌, ◌+◌, vec_len}
use Rattle.std.specs.Iterator.Adapters.{enumerate_count, enumerate_source}
use Rattle.std.specs.Slice.Iter.{split_inclusive_rest}
use Rattle.script.specs.Words.{words_in, words_of}
use Rattle.script.proofs.words.read_words.Given as goal

-- With the lines that are left, the words so far are those of the whole text; and there are few words.
abbrev pub invariant-loop-i : goal.invariant-loop-i
invariant-loop-i l = record {
  all : words_in (enumerate_count l.i-iterator + 1) l.words.items (split_inclusive_rest (enumerate_source l.i-iterator)) ≡ words_of l.bytes;
  few : vec_len l.words ≤ 10000000;
}
