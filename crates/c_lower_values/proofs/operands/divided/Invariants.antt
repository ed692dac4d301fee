-- The statements and values so far, and those of the operands behind them.
use Rattle.std.proofs.Common.{◌≡◌, ◌++◌}
use Rattle.std.specs.Vec.Iter.{into_iter_items}
use Rattle.c_core_rules.specs.Acts.{statements_of, values_of}
use Rattle.c_lower_values.proofs.operands.divided.Given as goal

abbrev pub invariant-loop-v : goal.invariant-loop-v
invariant-loop-v l = record {
  statements : l.statements ++ statements_of (into_iter_items l.v-iterator)
      ≡ statements_of l.fn.operands.items;
  values : l.values.items ++ values_of (into_iter_items l.v-iterator)
      ≡ values_of l.fn.operands.items;
}
