-- What is left is in order exactly where all is.
use Rattle.std.proofs.Common.{◌≡◌, drop}
use Rattle.cpa_facts.specs.Blocks.{joined}
use Rattle.cpa_value_changes.specs.Tables.{are_ordered}
use Rattle.cpa_value_changes.proofs.table.are_blocks_ordered.Given as goal

abbrev pub invariant-loop-block : goal.invariant-loop-block
invariant-loop-block l =
    are_ordered l.count l.low (joined (drop l.block-index l.blocks))
    ≡ are_ordered l.count 0 (joined l.blocks)
