use Rattle.c_core_rules_laws.specs.Laws.{texts_are_as_large}
use Rattle.c_core_rules_laws.proofs.laws.texts_are_as_large.Goals as goal

pub returns : goal.returns
returns c = texts_are_as_large
