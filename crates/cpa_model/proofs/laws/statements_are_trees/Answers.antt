use Rattle.cpa_model.specs.lemmas.Parts.{firsts_items}
use Rattle.cpa_model.specs.lemmas.Trees.{tree_laws}
use Rattle.cpa_model.proofs.laws.statements_are_trees.Goals as goal

pub returns-clause-trees : goal.returns-clause-trees
returns-clause-trees c = tree_laws

pub returns-clause-items : goal.returns-clause-items
returns-clause-items c = firsts_items
