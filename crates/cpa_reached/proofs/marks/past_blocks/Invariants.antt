-- What may follow all is what may follow what is left.
use Rattle.std.proofs.Common.{◌≡◌, drop}
use Rattle.cpa_facts.specs.Blocks.{joined}
use Rattle.cpa_reached.specs.Marks.{past_all}
use Rattle.cpa_reached.proofs.marks.past_blocks.Given as goal

abbrev pub invariant-loop-block : goal.invariant-loop-block
invariant-loop-block l =
    past_all l.next (joined (drop l.block-index l.blocks)) ≡ past_all l.least (joined l.blocks)
