-- One edge more.
use Rattle.std.proofs.Common.{◌≡◌, ◌<◌, ◌-◌, suc, refl, ap, ◌∙◌, arith, length, ◌&&◌, ◌||◌}
use Rattle.std.specs.Prelude.{nat_lt}
use Rattle.cpa_folds.specs.Needed.{adds}
use Rattle.cpa_query.specs.Queries.{is_marked}
use Rattle.cpa_folds.proofs.NeededLemmas.{one_more_place}
use Rattle.cpa_folds.proofs.needed_cells.mark_needed.Goals as goal

pub loop-place-preserved : goal.loop-place-preserved
loop-place-preserved c =
    let cfa = c.args.cfa.now in
    let marks = c.loop-place.marks in
    let place = c.loop-place.place in
    let long = c.loop-place.invariant.long ∙ c.requires.length in
    let next : place ≡ suc (place - 1) = omega arith in
    let inside : place - 1 < length c.args.edges.now = omega arith in
    record {
      long = c.add.ensures.length ∙ c.loop-place.invariant.long;
      within = omega arith;
      needed = λ cell.
          one_more_place cfa c.edge-edge.result.now c.args.edges.now place (place - 1) _
          (is_marked marks) cell _ next inside refl
          c.edge-edge.ensures c.loop-place.invariant.needed
          (c.add.ensures.marks cell
          ∙ ap (λ n. is_marked marks cell
          || (nat_lt cell n && adds c.edge-edge.result.now.act (is_marked marks) cell)) long);
    }
