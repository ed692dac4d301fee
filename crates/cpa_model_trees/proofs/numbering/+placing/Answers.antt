-- The statements of trees, one behind the other.
use Rattle.std.proofs.Common.{◌∙◌}
use Rattle.std.specs.Vec.Iter.{into_iter_items}
use Rattle.cpa_model_trees.proofs.NumberedRows.{placed_kept, less_left, root_placed, row_traced}
use Rattle.cpa_model_trees.proofs.NumberedRows.{node_traced}
use Rattle.cpa_model_trees.proofs.numbering.+placing.Goals as goal

pub place_row-loop-tree-preserved : goal.place_row-loop-tree-preserved
place_row-loop-tree-preserved t c =
    let at = c.loop-tree in
    let kept = placed_kept c.args.labels.now _ _ _ _ (into_iter_items at.tree-iterator)
    (into_iter_items c.next.new.self) c.in-Some.tree _ _ _ c.in-Some.ensures.steps.0
    c.in_ok-place.ensures.stmts c.in_ok-place.ensures.number c.in_ok-push.ensures.items
    at.invariant.numbers at.invariant.stmts in
    record {
      few = less_left (into_iter_items at.tree-iterator) (into_iter_items c.next.new.self)
          c.in-Some.tree _ c.in-Some.ensures.steps.0 at.invariant.few;
      numbers = kept.0;
      stmts = kept.1;
      places = row_traced _ _ (into_iter_items at.tree-iterator) (into_iter_items c.next.new.self)
          c.in-Some.tree _ c.in-Some.ensures.steps.0 c.in_ok-place.ensures.places
          at.invariant.places;
    }

pub place_node-returns-clause-stmts : goal.place_node-returns-clause-stmts
place_node-returns-clause-stmts t c =
    (rw (c.into_inner.ensures, c.in_ok-head.ensures) at c.write_root.ensures)
    ∙ root_placed c.args.stmts.now.items c.hold_root.new.stmts.items c.place_row.new.stmts.items
    c.args.labels.now c.args.head c.args.parts.items c.args.origin _ _ _
    c.in_ok-number.ensures.number
    c.in_ok-number.ensures.stmts c.in_ok-numbers.ensures.stmts c.in_ok-numbers.ensures.numbers

pub place_node-returns-clause-places : goal.place_node-returns-clause-places
place_node-returns-clause-places t c =
    node_traced _ _ _ c.args.head c.args.parts.items c.args.origin
    c.in_ok-number.ensures.places c.in_ok-numbers.ensures.places
