use Rattle.c_grammar_symbols.proofs.Tables.{spelled_terminal}
use Rattle.c_grammar_symbols.proofs.laws.terminals_stand_for_themselves.Goals as goal

pub returns : goal.returns
returns c = spelled_terminal
