use Rattle.c_grammar_tree.proofs.Agreement.{agrees}
use Rattle.c_grammar_tree.proofs.laws.no_tree_has_a_fault.Goals as goal

pub returns : goal.returns
returns c = λ text tokens u fault t f. f.denied (agrees text tokens u t f.at)
