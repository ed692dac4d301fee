use Rattle.c_lexer.proofs.LexemeFacts.{within_text, in_order}
use Rattle.c_lexer.proofs.laws.tokens_lie_in_order.Goals as goal

pub returns-clause-within : goal.returns-clause-within
returns-clause-within c = within_text

pub returns-clause-order : goal.returns-clause-order
returns-clause-order c = in_order
