-- What is left of the operands makes what the whole makes.
use Rattle.std.proofs.Common.{◌≡◌, ◌++◌}
use Rattle.std.specs.Vec.Iter.{into_iter_items}
use Rattle.c_core_rules.specs.Acts.{hold_all}
use Rattle.c_lower_values.specs.Found.{so_far}
use Rattle.c_lower_values.specs.Held.{full_count}
use Rattle.c_lower_values.proofs.operands.hold_all.Given as goal

abbrev pub invariant-loop-v : goal.invariant-loop-v
invariant-loop-v l = record {
  left : l.left ≡ full_count (into_iter_items l.v-iterator);
  taken : (hold_all l.origin (into_iter_items l.v-iterator) (so_far l.cells)).taken
      ≡ (hold_all l.origin l.fn.operands.items (so_far l.fn.cells)).taken;
  made : l.kept.items ++ (hold_all l.origin (into_iter_items l.v-iterator) (so_far l.cells)).made
      ≡ (hold_all l.origin l.fn.operands.items (so_far l.fn.cells)).made;
}
