-- What holds of all facts holds of those of each block.
use Rattle.std.proofs.Common.{rules, ◌∙◌}
use Rattle.cpa_folds.specs.Tracking.{is_tracked}
use Rattle.cpa_value.specs.Tables.{is_within}
use Rattle.cpa_value.proofs.PlaceLemmas.{all_blocks}
use Rattle.cpa_value.proofs.transfer.are_within.Goals as goal

pub returns-in-Blocks : goal.returns-in-Blocks
returns-in-Blocks c =
    c.are_all_within.ensures
    ∙ all_blocks (is_within (is_tracked c.args.tracked.now) 0 c.args.count) c.in-Blocks.blocks.now
    c.args.facts.now (search rules)
