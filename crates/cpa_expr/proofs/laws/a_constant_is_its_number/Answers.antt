-- The lemma of this name.
use Rattle.cpa_expr.specs.Laws.{a_constant_is_its_number as the_law}
use Rattle.cpa_expr.proofs.laws.a_constant_is_its_number.Goals as goal

pub returns : goal.returns
returns c = the_law
