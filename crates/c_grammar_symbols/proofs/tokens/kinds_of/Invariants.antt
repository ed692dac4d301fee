-- The kinds of the tokens so far.
use Rattle.std.specs.Prelude.{◌≡◌, take}
use Rattle.c_grammar_symbols.specs.Kinds.{kinds_of}
use Rattle.c_grammar_symbols.proofs.tokens.kinds_of.Given as goal

abbrev pub invariant-loop-token : goal.invariant-loop-token
invariant-loop-token l = l.kinds.items ≡ kinds_of l.text (take l.token-index l.tokens)
