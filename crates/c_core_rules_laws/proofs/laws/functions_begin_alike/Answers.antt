use Rattle.c_core_rules_laws.specs.Laws.{functions_begin_alike}
use Rattle.c_core_rules_laws.proofs.laws.functions_begin_alike.Goals as goal

pub returns : goal.returns
returns c = functions_begin_alike
