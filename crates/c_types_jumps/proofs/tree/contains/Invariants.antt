use Rattle.std.proofs.Common.{◌≡◌, ℕ, List, ◌<◌, length}
use Rattle.c_types_jumps.specs.Trees.{way_at, enters_way}
use Rattle.c_types_jumps.proofs.tree.contains.Given as goal

abbrev pub invariant-loop-inner : goal.invariant-loop-inner
invariant-loop-inner l = record {
  inner : l.inner < length l.tree.nodes.items;
  same : (base : List ℕ) → enters_way base (way_at l.tree.nodes.items l.inner)
      (way_at l.tree.nodes.items l.outer)
      ≡ enters_way base (way_at l.tree.nodes.items l.fn.inner)
      (way_at l.tree.nodes.items l.outer);
}

abbrev pub decreases-loop-inner : goal.decreases-loop-inner
decreases-loop-inner l = l.inner
