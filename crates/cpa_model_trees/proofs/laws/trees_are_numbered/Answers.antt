-- The numbering of trees whose nodes have the parts of their heads.
use Rattle.cpa_model_trees.specs.lemmas.Numbered.{are_numbered}
use Rattle.cpa_model_trees.proofs.laws.trees_are_numbered.Goals as goal

pub returns : goal.returns
returns c = are_numbered
