use Rattle.c_lexer.proofs.LexemeFacts.{ends_once, last_lexeme}
use Rattle.c_lexer.proofs.laws.tokens_end_once.Goals as goal

pub returns-clause-once : goal.returns-clause-once
returns-clause-once c = ends_once

pub returns-clause-lexeme : goal.returns-clause-lexeme
returns-clause-lexeme c = last_lexeme
