-- The statements and bodies so far, and those of the functions that are left.
use Rattle.std.proofs.Common.{◌≡◌, ◌++◌, length}
use Rattle.std.specs.Vec.Iter.{into_iter_items}
use Rattle.cpa_model_trees.specs.Numbering.{numbers_from, numbered_bodies}
use Rattle.cpa_model_trees.specs.Rows.{sizes_of, places_of}
use Rattle.cpa_model_trees.proofs.numbering.numbered_bodies.Given as goal

abbrev pub invariant-loop-tree : goal.invariant-loop-tree
invariant-loop-tree l = record {
  bodies : l.bodies.items
      ++ numbers_from (length l.stmts.items) (sizes_of (into_iter_items l.tree-iterator))
      ≡ numbers_from 0 (sizes_of l.fn.trees.items);
  stmts : l.stmts.items
      ++ numbered_bodies (length l.stmts.items) (into_iter_items l.tree-iterator)
      ≡ numbered_bodies 0 l.fn.trees.items;
  places : l.places.items ++ places_of (into_iter_items l.tree-iterator)
      ≡ places_of l.fn.trees.items;
}
