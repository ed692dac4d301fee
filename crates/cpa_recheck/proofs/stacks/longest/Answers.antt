use Rattle.std.proofs.Common.{arith}
use Rattle.cpa_recheck.proofs.Stacked.{all_deep, one_deeper}
use Rattle.cpa_recheck.proofs.stacks.longest.Goals as goal

pub loop-found-preserved : goal.loop-found-preserved
loop-found-preserved c =
    one_deeper c.args.spots.now c.loop-found.found-index c.found-item.result c.loop-found.most
    c.depth_of-depth.result c.larger-most.result c.loop-found-test.true c.found-item.is
    c.larger-most.ensures.first c.larger-most.ensures.second c.depth_of-depth.ensures
    c.loop-found.invariant

pub returns : goal.returns
returns c =
    all_deep c.args.spots.now c.loop-found.found-index c.loop-found.most
    (omega (arith, c.loop-found-test.false)) c.loop-found.invariant
