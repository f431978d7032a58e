-- The order of the entries of the two queues, and an entry put into each.
use Rattle.std.proofs.Common.{◌≡◌, ℕ, ◌<◌, ◌≤◌, true, false, ◌≢◌, List, arith}
use Rattle.queue.specs.declared.Entry.{Entry}
use Rattle.queue.specs.Entries.{sooner}
use Rattle.queue.specs.Order.{ordered}
use Rattle.theory.specs.Lists.{All}
use Rattle.machine.specs.Inner.{in_line}
use Rattle.machine.proofs.Lists.{Pairs, pairs_ordered}

-- Two entries of the delay queue, the first before the second.
abbrev pub Apart : Entry → Entry → Type 0
Apart x y = (x.key ≤ y.key) × (y.row ≢ x.row)

-- Two entries of the run queue, the first before the second.
abbrev pub Rising : Entry → Entry → Type 0
Rising x y = x.row < y.row

-- At equal keys, what goes before has the smaller row, or the same.
pub rows_true : (a b : Entry) → a.key ≡ b.key → sooner a b ≡ true → a.row ≤ b.row
rows_true a b e t = grind arith

-- At equal keys, what does not go before has the greater row.
pub rows_false : (a b : Entry) → a.key ≡ b.key → sooner a b ≡ false → b.row < a.row
rows_false a b e t = grind arith

-- A row put into the delay queue keeps its order.
pub sorted_with : (e : Entry) (d : List Entry) → All (λ y. y.row ≢ e.row) d → Pairs Apart d → Pairs Apart (ordered sooner e d)
sorted_with e d apart r = grind (arith, pairs_ordered)

-- A row put into the run queue keeps its order.
pub rising_with : (i : ℕ) (q : List Entry) → All (λ y. (y.key ≡ 0) × (y.row ≢ i)) q → Pairs Rising q → Pairs Rising (ordered sooner (in_line i) q)
rising_with i q apart r = grind (arith, pairs_ordered)
