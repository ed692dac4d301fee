-- What is left has the same first typedef name.
use Rattle.std.proofs.Common.{◌≡◌, drop}
use Rattle.c_grammar_tree.specs.Parts.{named_among}
use Rattle.c_grammar_tree.proofs.specifiers.named_among.Given as goal

abbrev pub invariant-loop-word : goal.invariant-loop-word
invariant-loop-word l = named_among (drop l.word-index l.words) ≡ named_among l.words
