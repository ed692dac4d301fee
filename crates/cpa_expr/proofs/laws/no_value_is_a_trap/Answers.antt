-- The lemma itself, since the search does not look into `Traps`.
use Rattle.cpa_expr.specs.Laws.{no_value_is_a_trap}
use Rattle.cpa_expr.proofs.laws.no_value_is_a_trap.Goals as goal

pub returns : goal.returns
returns c = no_value_is_a_trap
