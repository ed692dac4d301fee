use Rattle.std.proofs.Common.{sym, ◌∙◌, subst}
use Rattle.cpa_model.specs.Facts.{FactHolds}
use Rattle.cpa_reached.proofs.Marking.{fact_at}
use Rattle.cpa_reached.proofs.marks.followed_by_each.Goals as goal

pub loop-fact-preserved : goal.loop-fact-preserved
loop-fact-preserved c =
    let fs = c.args.facts.now in
    let i = c.loop-fact.fact-index in
    record {
      place = c.followed-told.ensures.place ∙ c.loop-fact.invariant.place;
      counts = λ s all first. c.followed-told.ensures.counts s
          (subst (FactHolds s) (sym c.fact-item.is)
          (fact_at (FactHolds s) fs i c.fact-item.result c.loop-fact-test.true all))
          (c.loop-fact.invariant.counts s all first);
    }
