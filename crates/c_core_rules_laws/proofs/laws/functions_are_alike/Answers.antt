use Rattle.c_core_rules_laws.specs.Laws.{functions_are_alike}
use Rattle.c_core_rules_laws.proofs.laws.functions_are_alike.Goals as goal

pub returns : goal.returns
returns c = functions_are_alike
