-- The labels of trees, one behind the other.
use Rattle.std.proofs.Common.{◌≡◌, ◌++◌, arith}
use Rattle.std.proofs.lemmas.Result.{on_ok_weaker}
use Rattle.cpa_model_trees.specs.Numbering.{labels_from}
use Rattle.cpa_model_trees.specs.Rows.{row_of}
use Rattle.cpa_model_trees.proofs.NumberedRows.{note_kept, node_noted}
use Rattle.cpa_model_trees.proofs.numbering.+noting.Goals as goal

pub note_row-loop-tree-preserved : goal.note_row-loop-tree-preserved
note_row-loop-tree-preserved t c =
    let at = c.loop-tree in
    let kept = note_kept _ _ _ _ c.args.trees.now at.tree-index _ _ _ (omega arith) c.tree-item.is
    c.in_ok-next.ensures.labels c.in_ok-next.ensures.behind at.invariant.labels
    at.invariant.behind in
    record { labels = kept.0; behind = kept.1 }

pub note_node-returns-clause-labels : goal.note_node-returns-clause-labels
note_node-returns-clause-labels t c =
    on_ok_weaker c.note_row.result
    (λ (is : c.note_row.new.labels.items ≡ c.note.new.labels.items
    ++ labels_from c.in_ok-behind.field-0 (row_of c.args.parts.now)).
    node_noted c.args.labels.now.items c.note.new.labels.items c.note_row.new.labels.items
    c.args.head.now c.args.parts.now c.args._place c.args.number c.in_ok-behind.field-0
    c.in_ok-note.ensures c.in_ok-behind.ensures is) c.note_row.ensures.labels
