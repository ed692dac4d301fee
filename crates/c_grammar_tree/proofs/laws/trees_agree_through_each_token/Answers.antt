use Rattle.c_grammar_tree.proofs.Agreement.{agrees}
use Rattle.c_grammar_tree.proofs.laws.trees_agree_through_each_token.Goals as goal

pub returns : goal.returns
returns c = agrees
