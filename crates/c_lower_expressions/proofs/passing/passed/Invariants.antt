-- The writes so far, and those that are left.
use Rattle.std.proofs.Common.{◌≡◌, ◌++◌}
use Rattle.std.specs.Vec.Iter.{into_iter_items}
use Rattle.c_core_rules.specs.Expressions.{passed, cells_from}
use Rattle.c_lower_expressions.proofs.passing.passed.Given as goal

abbrev pub invariant-loop-v : goal.invariant-loop-v
invariant-loop-v l =
    l.trees ++ passed l.origin (cells_from l.first l.objects) (into_iter_items l.v-iterator)
    ≡ passed l.origin (cells_from l.fn.first l.fn.objects) l.fn.values.items
