use Rattle.std.proofs.Common.{◌≡◌, length, take}
use Rattle.c_types_names.specs.Tables.{IsTied}
use Rattle.c_types_names.proofs.table.keep.Given as goal

abbrev pub invariant-loop-table : goal.invariant-loop-table
invariant-loop-table l = record {
  tied : IsTied l.table;
  same : take l.count l.table.entries.items ≡ take l.count l.fn.table.entries.items;
}

abbrev pub decreases-loop-table : goal.decreases-loop-table
decreases-loop-table l = length l.table.entries.items
