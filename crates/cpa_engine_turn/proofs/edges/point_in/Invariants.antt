-- What is left has the first point, if all have one.
use Rattle.std.proofs.Common.{◌≡◌}
use Rattle.cpa_engine_turn.specs.Points.{point_in}
use Rattle.cpa_engine_turn.proofs.edges.point_in.Given as goal

abbrev pub invariant-loop-fact : goal.invariant-loop-fact
invariant-loop-fact l = record {
  left : point_in l.facts ≡ point_in l.fact-iterator;
}
