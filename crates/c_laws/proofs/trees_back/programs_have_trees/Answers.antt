-- The trees of a numbered program, function by function.
use Rattle.c_laws.proofs.Regrown.{have_trees}
use Rattle.c_laws.proofs.trees_back.programs_have_trees.Goals as goal

pub returns : goal.returns
returns c = have_trees
