-- The lemma of this name.
use Rattle.cpa_expr.specs.Laws.{reads_have_values_within_the_array as the_law}
use Rattle.cpa_expr.proofs.laws.reads_have_values_within_the_array.Goals as goal

pub returns : goal.returns
returns c = the_law
