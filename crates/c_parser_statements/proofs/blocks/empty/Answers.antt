-- One token.
use Rattle.std.proofs.Common.{refl}
use Rattle.c_grammar_forms.specs.lemmas.Found.{reads_node, reads_one}
use Rattle.c_grammar_tree.specs.Statements.{statement_at}
use Rattle.c_parser_statements.proofs.blocks.empty.Goals as goal

pub returns : goal.returns
unfolding statement_at
returns c = rw c.place-place.ensures (reads_node _ refl (reads_one c.requires.more.within))
