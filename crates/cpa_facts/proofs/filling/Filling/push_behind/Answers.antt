-- One block more is gone through.
use Rattle.cpa_facts.proofs.FillingLemmas.{behind_more, fewer_left}
use Rattle.cpa_facts.proofs.filling.Filling.push_behind.Goals as goal

pub loop-block-preserved : goal.loop-block-preserved
loop-block-preserved c =
    let l = c.loop-block in (
      behind_more c.args.blocks.now l.block-index c.block-item.result l.self c.push_end.new.self _
          l.left c.in_ok-left.left c.loop-block-test.true c.block-item.is c.in_ok-left.ensures.facts
          c.in_ok-left.ensures.left l.invariant.0,
      fewer_left c.args.blocks.now l.block-index c.block-item.result l.left c.in_ok-left.left _
          c.loop-block-test.true c.block-item.is c.in_ok-left.ensures.left l.invariant.1,
    )
