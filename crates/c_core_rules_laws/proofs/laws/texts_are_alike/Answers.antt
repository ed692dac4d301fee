use Rattle.c_core_rules_laws.specs.Laws.{texts_are_alike}
use Rattle.c_core_rules_laws.proofs.laws.texts_are_alike.Goals as goal

pub returns : goal.returns
returns c = texts_are_alike
