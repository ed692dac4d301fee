use Rattle.c_lexer.proofs.LexemeFacts.{number_value, character_value}
use Rattle.c_lexer.proofs.laws.constants_lie_in_range.Goals as goal

pub returns-clause-number : goal.returns-clause-number
returns-clause-number c = number_value

pub returns-clause-character : goal.returns-clause-character
returns-clause-character c = λ model. character_value model c.wrap_keeps_the_range.ensures.within
