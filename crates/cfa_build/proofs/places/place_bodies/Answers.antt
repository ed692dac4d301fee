use Rattle.std.proofs.Common.{arith}
use Rattle.cpa_model.specs.lemmas.Counted.{counted, counted_all}
use Rattle.cfa_build.proofs.Known.{body_in_table, one_more_body, bodies_known}
use Rattle.cfa_build.proofs.places.place_bodies.Goals as goal

pub bounds-places-body : goal.bounds-places-body
bounds-places-body c =
    let at = counted c.args.program.now.bodies _ _ c.loop-f.f _ c.in-Some.ensures.steps
    c.loop-f.invariant.0 in
    body_in_table c.args.program.now c.requires.trees c.loop-f.f c.in-Some.body.now
    c.loop-f.places at.is (omega arith)

pub loop-f-preserved : goal.loop-f-preserved
loop-f-preserved c =
    let at = counted c.args.program.now.bodies _ _ c.loop-f.f _ c.in-Some.ensures.steps
    c.loop-f.invariant.0 in (
      at.behind,
      one_more_body c.args.program.now c.requires.trees c.loop-f.f c.exit.result
          c.in-Some.body.now c.loop-f.places at.is c.exit.ensures (omega arith)
          c.loop-f.invariant.1,
    )

pub returns : goal.returns
returns c =
    bodies_known c.args.program.now c.loop-f.f c.loop-f.places
    (counted_all c.args.program.now.bodies _ _ c.in-None.ensures.steps.0 c.loop-f.invariant.0)
    (omega arith) c.loop-f.invariant.1
