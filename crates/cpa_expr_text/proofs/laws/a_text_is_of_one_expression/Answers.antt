-- The lemma.
use Rattle.cpa_expr_text.proofs.Nodes.{one_expression}
use Rattle.cpa_expr_text.proofs.laws.a_text_is_of_one_expression.Goals as goal

pub returns : goal.returns
returns c = one_expression
