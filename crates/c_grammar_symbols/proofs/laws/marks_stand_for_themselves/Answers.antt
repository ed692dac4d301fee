use Rattle.c_grammar_symbols.proofs.Tables.{spelled_binary_operator, spelled_assignment_operator}
use Rattle.c_grammar_symbols.proofs.Tables.{spelled_step_operator, spelled_stray_mark}
use Rattle.c_grammar_symbols.proofs.laws.marks_stand_for_themselves.Goals as goal

pub returns-clause-binary : goal.returns-clause-binary
returns-clause-binary c = spelled_binary_operator

pub returns-clause-assignment : goal.returns-clause-assignment
returns-clause-assignment c = spelled_assignment_operator

pub returns-clause-step : goal.returns-clause-step
returns-clause-step c = spelled_step_operator

pub returns-clause-stray : goal.returns-clause-stray
returns-clause-stray c = spelled_stray_mark
