-- The statements of functions, one behind the other.
use Rattle.std.specs.Vec.Iter.{into_iter_items}
use Rattle.cpa_model_trees.proofs.NumberedRows.{bodies_kept, row_traced}
use Rattle.cpa_model_trees.proofs.numbering.numbered_bodies.Goals as goal

pub loop-tree-preserved : goal.loop-tree-preserved
loop-tree-preserved c =
    let at = c.loop-tree in
    let kept = bodies_kept _ _ _ _ (into_iter_items at.tree-iterator)
    (into_iter_items c.next.new.self) c.in-Some.tree _ _ _ c.in-Some.ensures.steps.0
    c.in_ok-place_body.ensures.stmts c.in_ok-place_body.ensures.number
    c.in_ok-push.ensures.items at.invariant.bodies at.invariant.stmts in
    record {
      bodies = kept.0;
      stmts = kept.1;
      places = row_traced _ _ (into_iter_items at.tree-iterator) (into_iter_items c.next.new.self)
          c.in-Some.tree _ c.in-Some.ensures.steps.0 c.in_ok-place_body.ensures.places
          at.invariant.places;
    }
