use Rattle.c_core_rules_laws.specs.Laws.{texts_take_the_same_cells}
use Rattle.c_core_rules_laws.proofs.laws.texts_take_the_same_cells.Goals as goal

pub returns : goal.returns
returns c = texts_take_the_same_cells
