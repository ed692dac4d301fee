use Rattle.c_core_rules_laws.specs.Laws.{there_is_one_layout}
use Rattle.c_core_rules_laws.proofs.laws.there_is_one_layout.Goals as goal

pub returns : goal.returns
returns c = there_is_one_layout
