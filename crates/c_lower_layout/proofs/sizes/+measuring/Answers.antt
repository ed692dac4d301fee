-- A tree, and trees one behind the other.
use Rattle.std.proofs.Common.{◌∙◌, arith}
use Rattle.c_lower_layout.proofs.Measured.{node_measured, trees_kept, trees_done}
use Rattle.c_lower_layout.proofs.sizes.+measuring.Goals as goal

pub behind_node-returns : goal.behind_node-returns
behind_node-returns t c =
    c.in_ok-whole.ensures
    ∙ node_measured _ _ _ _ _ c.args._place c.in_ok-height.ensures c.in_ok-root.ensures

pub behind_trees-loop-tree-preserved : goal.behind_trees-loop-tree-preserved
behind_trees-loop-tree-preserved t c =
    trees_kept _ _ c.args.trees.now c.loop-tree.tree-index _ _ (omega arith) c.tree-item.is
    c.in_ok-size.ensures c.loop-tree.invariant

pub behind_trees-returns : goal.behind_trees-returns
behind_trees-returns t c =
    trees_done _ c.args.trees.now c.loop-tree.tree-index _ (omega arith) c.loop-tree.invariant
