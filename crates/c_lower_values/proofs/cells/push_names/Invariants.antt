-- The names so far, and those that are left to add.
use Rattle.std.proofs.Common.{◌≡◌, ◌++◌, ◌-◌, replicate}
use Rattle.c_lower_values.proofs.cells.push_names.Given as goal

abbrev pub invariant-loop-cell : goal.invariant-loop-cell
invariant-loop-cell l =
    l.names.items ++ replicate (l.count - l._cell) l.place
    ≡ l.fn.names.items ++ replicate l.count l.place
