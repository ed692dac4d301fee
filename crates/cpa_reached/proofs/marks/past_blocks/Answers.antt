use Rattle.std.proofs.Common.{rules, sym, ◌∙◌}
use Rattle.cpa_reached.proofs.Runs.{past_more, past_none}
use Rattle.cpa_reached.proofs.marks.past_blocks.Goals as goal

pub returns-in_err-next : goal.returns-in_err-next
returns-in_err-next c =
    (search rules)
    ∙ (sym (past_none c.args.blocks.now c.loop-block.block-index c.block-item.result
    c.loop-block.next c.loop-block-test.true c.block-item.is (search rules))
    ∙ c.loop-block.invariant)

pub loop-block-preserved : goal.loop-block-preserved
loop-block-preserved c =
    sym (past_more c.args.blocks.now c.loop-block.block-index c.block-item.result
    c.loop-block.next c.in_ok-next.next c.loop-block-test.true c.block-item.is (search rules))
    ∙ c.loop-block.invariant
