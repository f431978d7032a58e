-- The order of the entries of a run.
use Rattle.std.specs.Prelude.{Bool, cond, ◌==◌, nat_le, nat_lt}
use Rattle.queue.specs.declared.Entry.{Entry}

-- By key, and then by row.
abbrev pub sooner : Entry → Entry → Bool
sooner x y = cond (x.key == y.key) (nat_le x.row y.row) (nat_lt x.key y.key)
