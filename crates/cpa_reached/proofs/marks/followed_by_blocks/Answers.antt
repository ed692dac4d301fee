use Rattle.std.proofs.Common.{List, sym, ◌∙◌, subst}
use Rattle.std.specs.List.{AllByRecursion}
use Rattle.cpa_model.specs.Facts.{FactHolds}
use Rattle.cpa_facts.specs.declared.fact.Fact.{Fact}
use Rattle.cpa_reached.proofs.Runs.{block_holds}
use Rattle.cpa_reached.proofs.marks.followed_by_blocks.Goals as goal

pub loop-block-preserved : goal.loop-block-preserved
loop-block-preserved c =
    let blocks = c.args.blocks.now in
    let i = c.loop-block.block-index in
    record {
      place = c.followed_by_block-told.ensures.place ∙ c.loop-block.invariant.place;
      counts = λ s all first. c.followed_by_block-told.ensures.counts s
          (subst (λ (fs : List Fact). AllByRecursion (FactHolds s) fs) (sym c.block-item.is)
          (block_holds (FactHolds s) blocks i c.block-item.result c.loop-block-test.true all))
          (c.loop-block.invariant.counts s all first);
    }
