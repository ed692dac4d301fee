use Rattle.c_grammar_symbols.proofs.Tables.{no_text}
use Rattle.c_grammar_symbols.proofs.laws.marks_are_no_text.Goals as goal

pub returns : goal.returns
returns c = no_text
