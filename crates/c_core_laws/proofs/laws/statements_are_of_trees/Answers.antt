-- The statements of a program by the trees of its functions.
use Rattle.c_core_laws.proofs.JumpsSound.{of_tree}
use Rattle.c_core_laws.proofs.laws.statements_are_of_trees.Goals as goal

pub returns : goal.returns
returns c = of_tree
