use Rattle.std.proofs.Common.{◌≡◌, ◌+◌, true, false, arith, rules}
use Rattle.sheet.specs.Sheets.{each_or_none}
use Rattle.sheet.proofs.Counting.{tasks_fault, starts_fault, starts_off, counts_are}
use Rattle.sheet.proofs.counts.read_counts.Goals as goal

pub returns-in_err-tasks-clause-value : goal.returns-in_err-tasks-clause-value
returns-in_err-tasks-clause-value c =
    let e = tasks_fault c.args.lines.now.text.now (c.args.lines.now.line + 1) (c.count_to.new.lines.line + 1) (omega arith) (omega arith) c.in_ok-levels.ensures.value c.in_err-tasks.ensures.value in
    search rules

pub returns-in_err-starts-clause-value : goal.returns-in_err-starts-clause-value
returns-in_err-starts-clause-value c =
    let e = starts_fault c.args.lines.now.text.now (c.args.lines.now.line + 1) (c.count_to.new.lines.line + 1) (omega arith) (omega arith) c.in_ok-levels.ensures.value (c.count_to-2.new.lines.line + 1) (omega arith) c.in_ok-tasks.ensures.value c.in_err-starts.ensures.value in
    search rules

pub returns-then-not-each_or_none-clause-value : goal.returns-then-not-each_or_none-clause-value
returns-then-not-each_or_none-clause-value c =
    let off : each_or_none c.in_ok-tasks.tasks c.in_ok-starts.starts ≡ false = search rules in
    let e = starts_off c.args.lines.now.text.now (c.args.lines.now.line + 1) (c.count_to.new.lines.line + 1) (omega arith) (omega arith) c.in_ok-levels.ensures.value (c.count_to-2.new.lines.line + 1) (omega arith) c.in_ok-tasks.ensures.value c.in_ok-starts.ensures.value off c.read_count.new.lines.line (omega arith) in
    search rules

pub returns-clause-value : goal.returns-clause-value
returns-clause-value c =
    let on : each_or_none c.in_ok-tasks.tasks c.in_ok-starts.starts ≡ true = search rules in
    counts_are c.args.lines.now.text.now (c.args.lines.now.line + 1) (c.count_to.new.lines.line + 1) (omega arith) (omega arith) c.in_ok-levels.ensures.value (c.count_to-2.new.lines.line + 1) (omega arith) c.in_ok-tasks.ensures.value c.in_ok-starts.ensures.value on
