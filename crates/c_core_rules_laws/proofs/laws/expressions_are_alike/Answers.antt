use Rattle.c_core_rules_laws.specs.Laws.{expressions_are_alike}
use Rattle.c_core_rules_laws.proofs.laws.expressions_are_alike.Goals as goal

pub returns : goal.returns
returns c = expressions_are_alike
