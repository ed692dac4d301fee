-- The fact stands in its block.
use Rattle.std.proofs.Common.{◌%◌, ◌∙◌, ap}
use Rattle.cpa_facts.specs.Blocks.{fact_in}
use Rattle.cpa_facts.proofs.BlockLemmas.{found}
use Rattle.cpa_facts.proofs.facts.fact_among.Goals as goal

pub returns : goal.returns
returns c =
    let place = c.args.place in
    c.fact_in.ensures ∙ (ap (λ b. fact_in b (place % 16)) c.block_at.ensures
    ∙ found c.args.blocks.now place c.requires)
