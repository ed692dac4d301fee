use Rattle.std.proofs.Common.{arith}
use Rattle.std.proofs.lemmas.List.{reverse-reverse}
use Rattle.cpa_reached.proofs.Climbing.{traces_more, traced}
use Rattle.cpa_reached.proofs.tracing.path_to.Goals as goal

pub up-preserved : goal.up-preserved
up-preserved c =
    let xs = c.args.entries.now in
    let ls = c.args.links.now in
    rw c.in_ok-push.ensures.items
    (traces_more xs ls c.args.entry c.up.at c.up.edges.items c.up._above c.depth_at-depth.result
    c.parent-number.result c.requires.tree c.up.invariant c.parent-number.ensures)

pub returns : goal.returns
returns c =
    let xs = c.args.entries.now in
    let ls = c.args.links.now in
    let back = traced xs ls c.args.entry c.up.at c.up.edges.items c.up._above
    c.depth_at-depth.result c.requires.tree c.up.invariant (omega (arith, c.up-test.false)) in
    rw c.reverse.ensures.items (rw reverse-reverse back)
