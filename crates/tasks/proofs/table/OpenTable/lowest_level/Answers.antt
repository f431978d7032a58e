use Rattle.std.proofs.Common.{◌≡◌, ◌+◌, ◌-◌, ◌<◌, ◌≤◌, length, get_or, take, drop, sym, ap, ◌∙◌, arith}
use Rattle.std.proofs.lemmas.List.{get_or_default, length-map}
use Rattle.theory.specs.Tasks.{no_task}
use Rattle.theory.specs.Test.{at_level, lowest}
use Rattle.theory.proofs.Levels.{lowest_more}
use Rattle.tasks.specs.Levels.{ascending}
use Rattle.tasks.specs.Tables.{task_of, tasks_of}
use Rattle.tasks.proofs.Levels.{level_at}
use Rattle.tasks.proofs.OneRow.{Stepped, no_rows, one_row_more, row_step, row_fails, all_pass, valid_tasks}
use Rattle.tasks.proofs.Rows.{row_read}
use Rattle.tasks.proofs.table.OpenTable.lowest_level.Goals as goal
use Rattle.tasks.proofs.table.OpenTable.lowest_level.Goals.{After-deref-task-items, After-load_at-load, After-next_point-at}

pub rows-init : goal.rows-init
rows-init c = rw (c.clear.ensures, c.new-loads.ensures) (no_rows _ _)

-- a listed level is at least 1
some : (c : After-deref-task-items) → 1 ≤ get_or c.levels-level-items.result.now c.levels.level-index 0
some c =
    (level_at c.levels-level-items.result.now c.levels.level-index (ap (ascending 0) c.levels-level-items.ensures ∙ c.args.self.now.levels.rising) c.levels-test.true).0

-- the row of the turn
row : (c : After-load_at-load) → (c.rows.task-index < length (tasks_of c.args.self.now)) × (get_or (tasks_of c.args.self.now) c.rows.task-index no_task ≡ task_of c.task-item.result)
row c =
    row_read c.args.self.now.tasks.items c.deref-task-items.result.now c.rows.task-index c.task-item.result c.deref-task-items.ensures.value c.rows-test.true c.task-item.is

-- a step of the points loop
step : (c : After-next_point-at) → (c.rows.task-index < length (tasks_of c.args.self.now)) × (get_or (tasks_of c.args.self.now) c.rows.task-index no_task ≡ task_of c.task-item.result) → 1 ≤ get_or c.levels-level-items.result.now c.levels.level-index 0 →
    Stepped (get_or c.levels-level-items.result.now c.levels.level-index 0) (take c.rows.task-index (tasks_of c.args.self.now)) (task_of c.task-item.result) c.points.from c.next_point-at.result.point c.next_point-at.result.demand
step c here some =
    row_step _ (tasks_of c.args.self.now) c.rows.task-index c.rows.ahead c.rows.answers.items c.rows.loads.items c.deref.result.now (task_of c.task-item.result) c.load_at-load.result
    c.rows.invariant some (valid_tasks _) here.0 here.1 c.load_at-load.ensures (c.deref.ensures.0 ∙ c.push.ensures.items)
    c.points.from _ _ c.points.invariant.0 (omega arith) c.next_point-at.ensures.point c.next_point-at.ensures.demand c.points.invariant.1

pub load_at-load-requires : goal.load_at-load-requires
load_at-load-requires c = some (goal.at.load_at-load-requires c).After-deref-task-items

pub points-smaller : goal.points-smaller
points-smaller c =
    let at = goal.at.points-smaller c in
    let s = step at.After-next_point-at (row at.After-load_at-load) (some at.After-deref-task-items) in
    omega (arith, s.on, s.in_time)

pub points-preserved : goal.points-preserved
points-preserved c =
    let at = goal.at.points-preserved c in
    let s = step at.After-next_point-at (row at.After-load_at-load) (some at.After-deref-task-items) in
    (omega (arith, s.on), s.goes_on (omega arith))

pub rows-preserved : goal.rows-preserved
rows-preserved c =
    let at = goal.at.rows-preserved c in
    let here = row at.After-load_at-load in
    let f = some at.After-deref-task-items in
    let s = step at.After-next_point-at here f in
    rw (c.push-in-rows.ensures.items, c.push.ensures.items)
    (one_row_more _ (tasks_of c.args.self.now) c.rows.task-index c.rows.ahead c.rows.answers.items c.rows.loads.items c.next_point-at.result (task_of c.task-item.result) c.load_at-load.result
    c.rows.invariant f (valid_tasks _) here.0 here.1 c.load_at-load.ensures c.next_point-at.ensures.bound (s.ends (omega arith)))

pub levels-preserved : goal.levels-preserved
levels-preserved c =
    let here = row (goal.at.levels-preserved c).After-load_at-load in
    let ts = tasks_of c.args.self.now in
    let levels = c.levels-level-items.result.now in
    let n = c.levels.level-index in
    let level = get_or levels n 0 in
    let long = c.rows.invariant.answers_long in
    let fails = row_fails level ts c.rows.task-index c.rows.ahead c.rows.answers.items c.rows.loads.items (task_of c.task-item.result) c.points.from
    c.rows.invariant (valid_tasks _) here.0 here.1 c.points.invariant.1 (omega arith) in
    let more = lowest_more levels n level ts c.levels-test.true (get_or_default levels n 0 level c.levels-test.true) in
    let back : n + 1 - 1 ≡ n = omega arith in
    record {
      few = omega arith;
      on = sym (more ∙ ap (λ o. at_level level o (lowest (drop (n + 1) levels) ts)) fails.0) ∙ c.levels.invariant.on;
      failed = λ _. rw back (sym fails.1);
    }

pub invariant_of-result : goal.invariant_of-result
invariant_of-result c = record { some = some (goal.at.invariant_of-result c).After-deref-task-items }

pub returns-in-levels : goal.returns-in-levels
returns-in-levels c =
    let ts = tasks_of c.args.self.now in
    let levels = c.levels-level-items.result.now in
    let n = c.levels.level-index in
    let level = get_or levels n 0 in
    let end : c.rows.task-index ≡ length ts = omega (arith, length-map c.args.self.now.tasks.items task_of, ap length c.deref-task-items.ensures.value) in
    let more = lowest_more levels n level ts c.levels-test.true (get_or_default levels n 0 level c.levels-test.true) in
    sym c.levels.invariant.on ∙ more ∙ ap (λ o. at_level level o (lowest (drop (n + 1) levels) ts))
    (all_pass level ts c.rows.task-index c.rows.ahead c.rows.answers.items c.rows.loads.items c.rows.invariant end)
