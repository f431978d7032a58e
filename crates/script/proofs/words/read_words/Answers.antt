use Rattle.std.proofs.Common.{◌≡◌, ◌+◌, None, ◌==◌, ap, rules, arith}
use Rattle.std.proofs.lemmas.Bool.Decides.{Decides-eqb}
use Rattle.std.proofs.lemmas.List.Sorted.{answers_always}
use Rattle.std.proofs.lemmas.Option.{MatchOption-at_some, MatchOption-at_none}
use Rattle.std.proofs.lemmas.Slice.Eq.{strip_suffix_is}
use Rattle.std.specs.Iterator.Adapters.{enumerate_source}
use Rattle.std.specs.Slice.Iter.{split_inclusive_rest}
use Rattle.script.proofs.Pieces.{line_ended, line_unended}
use Rattle.script.proofs.Steps.{line_read, line_wrong, left_wrong, none_left}
use Rattle.script.proofs.words.read_words.Goals as goal

pub returns-in_err-line : goal.returns-in_err-line
returns-in_err-line c =
    let s = c.in-Some.ensures.steps in
    let first = (s.0.1.2 (λ b. b == 10) (answers_always _ _ _ (λ f a r g h. search rules))).1 in
    let value = c.in_err-line.ensures.value in
    let none : c.strip_suffix.result ≡ None = grind (arith, value) in
    let other = MatchOption-at_none _ _ none (strip_suffix_is Decides-eqb _ _ _ c.strip_suffix.ensures.cases) in
    let e = left_wrong _ _ _ c.loop-i.invariant.all (line_unended _ _ _ s.0.0 s.0.1.1 first other) s.0.2 in
    search (rules, value)

pub loop-i-preserved : goal.loop-i-preserved
loop-i-preserved c =
    let s = c.in-Some.ensures.steps in
    let first = (s.0.1.2 (λ b. b == 10) (answers_always _ _ _ (λ f a r g h. search rules))).1 in
    let ended = MatchOption-at_some _ _ _ c.in_ok-line.ensures.ok_part (strip_suffix_is Decides-eqb _ _ _ c.strip_suffix.ensures.cases) in
    let text = split_inclusive_rest (enumerate_source c.loop-i.i-iterator) in
    let line = line_ended _ _ _ s.0.0 s.0.1.1 first _ ended in
    record {
      all = line_read _ _ text c.loop-i.invariant.all line (ap (λ k. k + 1) s.1) (ap (λ k. k + 1) s.2) c.in_ok-add_line.ensures.words;
      few = c.in_ok-add_line.ensures.few;
    }

pub returns-in_err-add_line : goal.returns-in_err-add_line
returns-in_err-add_line c =
    let s = c.in-Some.ensures.steps in
    let first = (s.0.1.2 (λ b. b == 10) (answers_always _ _ _ (λ f a r g h. search rules))).1 in
    let ended = MatchOption-at_some _ _ _ c.in_ok-line.ensures.ok_part (strip_suffix_is Decides-eqb _ _ _ c.strip_suffix.ensures.cases) in
    let text = split_inclusive_rest (enumerate_source c.loop-i.i-iterator) in
    let line = line_ended _ _ _ s.0.0 s.0.1.1 first _ ended in
    let e = line_wrong _ _ text c.loop-i.invariant.all line (ap (λ k. k + 1) s.1) c.in_err-add_line.ensures.words in
    search rules

pub returns : goal.returns
returns c =
    none_left _ _ _ c.loop-i.invariant.all c.in-None.ensures.steps.0.0
