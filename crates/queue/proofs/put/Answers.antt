use Rattle.std.proofs.Common.{rules}
use Rattle.queue.proofs.Sorting.{sorted_ordered, shuffled_ordered}
use Rattle.queue.proofs.put.Goals as goal

pub returns-clause-sorted : goal.returns-clause-sorted
returns-clause-sorted g c = search (rules, sorted_ordered g.E.Ranked.before g.met.E.Ranked.order)

pub returns-clause-shuffled : goal.returns-clause-shuffled
returns-clause-shuffled g c = search (rules, shuffled_ordered)
