use Rattle.c_core_rules_laws.specs.Laws.{items_are_alike}
use Rattle.c_core_rules_laws.proofs.laws.items_are_alike.Goals as goal

pub returns : goal.returns
returns c = items_are_alike
