-- Where a block ends the next one goes on.
use Rattle.cpa_value_changes.proofs.OrderLemmas.{block_in_order, block_out_of_order}
use Rattle.cpa_value_changes.proofs.table.are_blocks_ordered.Goals as goal

pub returns-in-None : goal.returns-in-None
returns-in-None c =
    let l = c.loop-block in
    block_out_of_order c.args.count l.low c.args.blocks.now l.block-index
    c.block-item.result c.end_of.result _ c.loop-block-test.true c.block-item.is c.end_of.ensures
    c.in-None.is l.invariant

pub loop-block-preserved : goal.loop-block-preserved
loop-block-preserved c =
    let l = c.loop-block in
    block_in_order c.args.count l.low c.args.blocks.now l.block-index
    c.block-item.result c.end_of.result c.in-Some.end _ c.loop-block-test.true c.block-item.is
    c.end_of.ensures c.in-Some.is l.invariant
