use Rattle.std.proofs.Common.{arith}
use Rattle.cpa_engine.proofs.Ancestors.{back_more, up_more}
use Rattle.cpa_engine.proofs.refining.ancestor.Goals as goal

pub loop-edge-preserved : goal.loop-edge-preserved
loop-edge-preserved c = record {
  live = c.parent-at.ensures.live;
  back = λ edges back more.
      back_more c.args.reached.now.live c.loop-edge.at c.parent-at.result edges c.loop-edge._edge
      (omega (arith, more)) c.parent-at.ensures.back
      (c.loop-edge.invariant.back edges back (omega (arith, more)));
  up = λ edges back more.
      up_more c.args.reached.now.live c.args.number c.loop-edge.at c.parent-at.result edges
      c.loop-edge._edge (omega (arith, more)) c.parent-at.ensures.up
      (c.loop-edge.invariant.back edges back (omega (arith, more)))
      (c.loop-edge.invariant.up edges back (omega (arith, more)));
}
