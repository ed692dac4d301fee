-- The labels so far and those of the trees that are left.
use Rattle.std.proofs.Common.{◌≡◌, ◌+◌, ◌++◌, drop, length}
use Rattle.cpa_model_trees.specs.Numbering.{labels_from}
use Rattle.cpa_model_trees.specs.Rows.{row_of}
use Rattle.cpa_model_trees.proofs.numbering.+noting.Given as goal

abbrev pub invariant-note_row-loop-tree : goal.invariant-note_row-loop-tree
invariant-note_row-loop-tree l = record {
  labels : l.labels.items ++ labels_from l.next (row_of (drop l.tree-index l.trees))
      ≡ l.fn.labels.items ++ labels_from l.number (row_of l.trees);
  behind : l.next + length (row_of (drop l.tree-index l.trees))
      ≡ l.number + length (row_of l.trees);
}
