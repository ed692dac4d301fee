use Rattle.cpa_blast_quotients.specs.Laws.{quotients_divide}
use Rattle.cpa_blast_quotients.proofs.laws.quotients_divide_at_types.Goals as goal

pub returns : goal.returns
returns c = quotients_divide
