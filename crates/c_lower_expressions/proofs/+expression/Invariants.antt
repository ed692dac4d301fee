-- What is left of a list makes what the whole makes.
use Rattle.std.proofs.Common.{◌≡◌, ◌+◌, ◌++◌, drop, map, length}
use Rattle.c_core_rules.specs.Cells.{each}
use Rattle.c_lower_values.specs.Found.{so_far}
use Rattle.c_lower_expressions.specs.Rows.{linked_to, used_by, comma_of, comma_behind}
use Rattle.c_lower_expressions.proofs.+expression.Given as goal

abbrev pub invariant-expressions::chained-loop-link : goal.invariant-expressions::chained-loop-link
invariant-expressions::chained-loop-link l =
    linked_to l.origin l.frames l.usage l.left (drop l.link-index l.rest) (so_far l.cells)
    ≡ linked_to l.origin l.frames l.usage l.fn.left l.rest (so_far l.fn.cells)

abbrev pub invariant-expressions::comma_of-loop-item :
    goal.invariant-expressions::comma_of-loop-item
invariant-expressions::comma_of-loop-item l = record {
  left : l.left + l.item-index ≡ length l.items;
  rest : comma_behind l.frames l.usage l.before (drop l.item-index l.items) (so_far l.cells)
      ≡ comma_of l.frames l.usage l.items (so_far l.fn.cells);
}

abbrev pub invariant-calls::each-loop-argument : goal.invariant-calls::each-loop-argument
invariant-calls::each-loop-argument l = record {
  taken : (each (map (used_by l.frames) (drop l.argument-index l.arguments))
      (so_far l.cells)).taken
      ≡ (each (map (used_by l.frames) l.arguments) (so_far l.fn.cells)).taken;
  made : l.operands.items
      ++ (each (map (used_by l.frames) (drop l.argument-index l.arguments)) (so_far l.cells)).made
      ≡ (each (map (used_by l.frames) l.arguments) (so_far l.fn.cells)).made;
}
