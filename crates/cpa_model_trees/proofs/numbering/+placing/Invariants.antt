-- The statements of the tree, and of the trees that are left, three for each. The statements and
-- numbers so far, and those of the trees that are left.
use Rattle.std.proofs.Common.{◌≡◌, ◌+◌, ◌*◌, ◌≤◌, ◌++◌, length}
use Rattle.std.specs.Vec.Iter.{into_iter_items}
use Rattle.cpa_model_trees.specs.Numbering.{statements, numbers_from, numbered}
use Rattle.cpa_model_trees.specs.Rows.{row_of, sizes_of, places_of}
use Rattle.cpa_model_trees.proofs.numbering.+placing.Given as goal

abbrev pub decreases-place : goal.decreases-place
decreases-place l = 3 * length (statements l.tree)

abbrev pub decreases-place_node : goal.decreases-place_node
decreases-place_node l = 3 * length (row_of l.parts.items) + 2

abbrev pub decreases-place_row : goal.decreases-place_row
decreases-place_row l = 3 * length (row_of l.trees.items) + 1

abbrev pub invariant-place_row-loop-tree : goal.invariant-place_row-loop-tree
invariant-place_row-loop-tree l = record {
  few : length (row_of (into_iter_items l.tree-iterator)) ≤ length (row_of l.fn.trees.items);
  numbers : l.numbers.items
      ++ numbers_from (length l.stmts.items) (sizes_of (into_iter_items l.tree-iterator))
      ≡ numbers_from (length l.fn.stmts.items) (sizes_of l.fn.trees.items);
  stmts : l.stmts.items
      ++ numbered l.labels (length l.stmts.items) (row_of (into_iter_items l.tree-iterator))
      ≡ l.fn.stmts.items
      ++ numbered l.labels (length l.fn.stmts.items) (row_of l.fn.trees.items);
  places : l.places.items ++ places_of (into_iter_items l.tree-iterator)
      ≡ l.fn.places.items ++ places_of l.fn.trees.items;
}
