use Rattle.std.proofs.Common.{◌∙◌}
use Rattle.c_types_jumps.proofs.Trees.{parent_within, upper_step}
use Rattle.c_types_jumps.proofs.tree.upper.Goals as goal

pub loop-here-preserved : goal.loop-here-preserved
loop-here-preserved c =
    let kept = c.requires.nodes in
    let nodes = c.args.nodes.now in
    let here = c.loop-here.here in
    record {
      here = parent_within kept.first kept.next nodes here kept.are c.loop-here.invariant.here;
      same = upper_step kept.first kept.next nodes here c.args.count kept.are
          c.loop-here.invariant.here c.loop-here-test.true ∙ c.loop-here.invariant.same;
    }
