-- What is left has the first point, if all have one.
use Rattle.std.proofs.Common.{◌≡◌, drop}
use Rattle.cpa_engine_turn.specs.Points.{first_point}
use Rattle.cpa_engine_turn.proofs.edges.first_point.Given as goal

abbrev pub invariant-loop-elem : goal.invariant-loop-elem
invariant-loop-elem l = record {
  left : first_point l.elems ≡ first_point (drop l.elem-index l.elems);
}
