use Rattle.std.proofs.Common.{◌≡◌, ◌<◌, ◌-◌, suc, refl, ◌∙◌, arith, length}
use Rattle.cpa_folds.proofs.CarriedLemmas.{place_more}
use Rattle.cpa_folds.proofs.carrying.carried_along.Goals as goal

pub loop-place-preserved : goal.loop-place-preserved
loop-place-preserved c =
    let place = c.loop-place.place in
    let next : place ≡ suc (place - 1) = omega arith in
    let inside : place - 1 < length c.args.edges.now = omega arith in
    record {
      within = omega arith;
      are = c.in_ok-carry.ensures
          ∙ place_more c.args.cfa.now c.edge-edge.result.now c.args.edges.now place (place - 1) _
          c.loop-place.lists next inside refl c.edge-edge.ensures c.loop-place.invariant.are;
    }
