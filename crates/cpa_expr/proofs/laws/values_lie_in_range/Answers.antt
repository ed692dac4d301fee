-- The lemma of this name.
use Rattle.cpa_expr.specs.Laws.{values_lie_in_range as the_law}
use Rattle.cpa_expr.proofs.laws.values_lie_in_range.Goals as goal

pub returns : goal.returns
returns c = the_law
