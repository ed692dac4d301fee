-- What the laws of tokens say of each, and of the last.
use Rattle.c_grammar_symbols.proofs.laws.tokens_are_a_source.Goals as goal

pub returns : goal.returns
returns c = λ model text tokens is. record {
  within = λ i token e. c.tokens_lie_in_order.ensures.within model text tokens i token is e;
  ends = c.tokens_end_once.ensures.once model text tokens is;
}
