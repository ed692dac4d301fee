use Rattle.c_lexer.proofs.Cuts.{one_fault, fault_no_tokens, tokens_or_fault}
use Rattle.c_lexer.proofs.laws.tokens_or_one_fault.Goals as goal

pub returns-clause-some : goal.returns-clause-some
returns-clause-some c = tokens_or_fault

pub returns-clause-either : goal.returns-clause-either
returns-clause-either c = fault_no_tokens

pub returns-clause-one : goal.returns-clause-one
returns-clause-one c = one_fault
