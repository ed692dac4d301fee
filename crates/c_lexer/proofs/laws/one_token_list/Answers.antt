use Rattle.c_lexer.proofs.Cuts.{one_list}
use Rattle.c_lexer.proofs.laws.one_token_list.Goals as goal

pub returns : goal.returns
returns c = one_list
