use Rattle.c_lexer.proofs.LexemeFacts.{spelled}
use Rattle.c_lexer.proofs.laws.tokens_are_spelled.Goals as goal

pub returns : goal.returns
returns c = spelled
