use Rattle.std.proofs.Common.{◌∙◌, sym}
use Rattle.cpa_recheck_weights.proofs.Weighed.{type_there}
use Rattle.cpa_recheck_weights.proofs.weighing.type_at.Goals as goal

pub returns : goal.returns
returns c = c.cell_type.ensures ∙ sym (type_there 0 c.args.cells.now c.args.cell)
