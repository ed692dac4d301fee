-- One edge more.
use Rattle.std.proofs.Common.{length}
use Rattle.cpa_interpolant.specs.Keeping.{edge_in}
use Rattle.cpa_craig.proofs.WalkLemmas.{walk_more, walk_spent}
use Rattle.cpa_craig.proofs.walking.walk_from.Goals as goal

pub loop-edge-preserved : goal.loop-edge-preserved
loop-edge-preserved c =
    let l = c.loop-edge in
    let edges = c.args.edges.now in
    walk_more c.args.craig.now l.craig c.step.new.craig c.args.cfa.now c.args.precision.now.preds
    edges l.edge-index c.loop-edge-test.true c.in_ok-elems.ensures.spends c.args.first.items
    l.elems.items c.deref.result.now c.in_ok-elems.elems.items c.deref.ensures.value
    (edge_in (length c.args.cfa.now.edges) edges l.edge-index c.requires.edges
    c.loop-edge-test.true)
    l.invariant c.in_ok-elems.ensures.shaped c.in_ok-elems.ensures.behind

pub returns-in_err-elems-clause-spends : goal.returns-in_err-elems-clause-spends
returns-in_err-elems-clause-spends c =
    let l = c.loop-edge in
    walk_spent c.args.craig.now l.craig c.step.new.craig c.args.cfa.now
    c.args.precision.now.preds c.args.edges.now l.edge-index c.loop-edge-test.true
    c.step.ensures.spends l.invariant.spends
