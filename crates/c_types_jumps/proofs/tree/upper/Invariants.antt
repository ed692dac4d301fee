use Rattle.std.proofs.Common.{◌≡◌, ◌<◌, length, take}
use Rattle.c_types_jumps.specs.Trees.{way_at}
use Rattle.c_types_jumps.proofs.tree.upper.Given as goal

abbrev pub invariant-loop-here : goal.invariant-loop-here
invariant-loop-here l = record {
  here : l.here < length l.nodes;
  same : take l.count (way_at l.nodes l.here) ≡ take l.count (way_at l.nodes l.fn.here);
}

abbrev pub decreases-loop-here : goal.decreases-loop-here
decreases-loop-here l = l.here
