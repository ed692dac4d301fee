use Rattle.std.proofs.Common.{List, refl, ◌∙◌, subst, arith}
use Rattle.cpa_composite.specs.Components.{Component}
use Rattle.cpa_composite.specs.Composites.{components}
use Rattle.cpa_engine_turn.specs.Stages.{Stage, Follows}
use Rattle.cpa_engine_turn.specs.Steps.{stage}
use Rattle.cpa_engine_turn.proofs.Progress.{ordered_along, current_along, fits_on}
use Rattle.cpa_engine_turn.proofs.Shapes.{entries_on}
use Rattle.cpa_engine_turn.proofs.Working.{so_far_lead, follows_none, follows_push}
use Rattle.cpa_engine_turn.proofs.expanding.expand.Goals as goal

pub loop-edge-init : goal.loop-edge-init
loop-edge-init g c = record {
  low = omega arith;
  follows = λ count same. follows_none c.args.cfa.now (components c.args.composite.now)
      c.args.elems.now c.args.precisions.now c.edges_from-first.result.0 count
      (stage c.args.reached.now c.args.work.now) same;
  kept = refl;
}

pub follow-requires-clause-entries : goal.follow-requires-clause-entries
follow-requires-clause-entries g c =
    let at = c.loop-edge in
    let cfa = c.args.cfa.now in
    let cs = components c.args.composite.now in
    let a : Stage = stage c.args.reached.now c.args.work.now in
    let b : Stage = stage at.reached at.work in
    let within = c.edges_from-first.ensures.within in
    let less = c.loop-edge-test.true in
    entries_on cfa cs (components at.composite) a b at.invariant.kept
    (so_far_lead cfa cs c.args.elems.now c.args.precisions.now c.edges_from-first.result.0 at.edge
    a b at.invariant.low (omega (arith, within, less)) c.requires.entries c.requires.ordered
    c.requires.places at.invariant.follows) c.requires.entries

pub follow-requires-clause-places : goal.follow-requires-clause-places
follow-requires-clause-places g c =
    let at = c.loop-edge in
    let cfa = c.args.cfa.now in
    let cs = components c.args.composite.now in
    let a : Stage = stage c.args.reached.now c.args.work.now in
    let b : Stage = stage at.reached at.work in
    let within = c.edges_from-first.ensures.within in
    let less = c.loop-edge-test.true in
    fits_on cfa cs (components at.composite) a b at.invariant.kept
    (so_far_lead cfa cs c.args.elems.now c.args.precisions.now c.edges_from-first.result.0 at.edge
    a b at.invariant.low (omega (arith, within, less)) c.requires.entries c.requires.ordered
    c.requires.places at.invariant.follows) c.requires.places

pub follow-requires-clause-ordered : goal.follow-requires-clause-ordered
follow-requires-clause-ordered g c =
    let at = c.loop-edge in
    let cfa = c.args.cfa.now in
    let cs = components c.args.composite.now in
    let a : Stage = stage c.args.reached.now c.args.work.now in
    let b : Stage = stage at.reached at.work in
    let within = c.edges_from-first.ensures.within in
    let less = c.loop-edge-test.true in
    ordered_along cfa cs a b
    (so_far_lead cfa cs c.args.elems.now c.args.precisions.now c.edges_from-first.result.0 at.edge
    a b at.invariant.low (omega (arith, within, less)) c.requires.entries c.requires.ordered
    c.requires.places at.invariant.follows) c.requires.ordered

pub follow-requires-clause-current : goal.follow-requires-clause-current
follow-requires-clause-current g c =
    let at = c.loop-edge in
    let cfa = c.args.cfa.now in
    let cs = components c.args.composite.now in
    let a : Stage = stage c.args.reached.now c.args.work.now in
    let b : Stage = stage at.reached at.work in
    let within = c.edges_from-first.ensures.within in
    let less = c.loop-edge-test.true in
    current_along cfa cs a b
    (so_far_lead cfa cs c.args.elems.now c.args.precisions.now c.edges_from-first.result.0 at.edge
    a b at.invariant.low (omega (arith, within, less)) c.requires.entries c.requires.ordered
    c.requires.places at.invariant.follows) c.requires.ordered c.requires.current

pub loop-edge-preserved : goal.loop-edge-preserved
loop-edge-preserved g c =
    let cfa = c.args.cfa.now in
    let at = c.loop-edge in
    let cs = components c.args.composite.now in
    let es = c.args.elems.now in
    let ps = c.args.precisions.now in
    let a : Stage = stage c.args.reached.now c.args.work.now in
    let b : Stage = stage at.reached at.work in
    let m : Stage = stage c.follow.new.reached c.follow.new.work in
    let low = at.invariant.low in
    let one : Follows cfa cs es ps at.edge b m =
    subst (λ (ds : List Component). Follows cfa ds es ps at.edge b m) at.invariant.kept
    c.in_ok-follow.ensures.follows in
    record {
      low = omega (arith, low);
      follows = λ count same. follows_push cfa cs es ps c.edges_from-first.result.0 at.edge count
          a b m low same at.invariant.follows one;
      kept = c.follow.ensures.kept ∙ at.invariant.kept;
    }

pub returns-clause-expands : goal.returns-clause-expands
returns-clause-expands g c =
    let at = c.loop-edge in
    let low = at.invariant.low in
    let end = c.loop-edge-test.false in
    let bound = at.auto.edge-end in
    record {
      first = c.edges_from-first.result.0;
      count = c.edges_from-first.result.1;
      within = c.edges_from-first.ensures.within;
      edges = c.edges_from-first.ensures.edges;
      follows = at.invariant.follows c.edges_from-first.result.1 (omega (arith, low, end, bound));
    }
