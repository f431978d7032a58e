use Rattle.std.proofs.Common.{◌≡◌, ◌+◌, ◌*◌, ◌≤◌, drop}
use Rattle.tasks.specs.Loads.{asked, next}
use Rattle.tasks.proofs.search.next_point.Given as goal

abbrev pub invariant-loop-load : goal.invariant-loop-load
invariant-loop-load l =
    (l.demand + asked (drop l.load-index l.loads) l.from ≡ asked l.loads l.from)
    × (l.demand ≤ l.load-index * 1048560000000)
    × (next (drop l.load-index l.loads) l.point l.from ≡ next l.loads l.last l.from)
