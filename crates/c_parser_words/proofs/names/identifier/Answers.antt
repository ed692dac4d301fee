-- An identifier is a token that is a name.
use Rattle.std.proofs.Common.{sym, refl}
use Rattle.c_grammar_forms.specs.lemmas.Found.{reads_node, reads_such}
use Rattle.c_grammar_forms.specs.lemmas.NotFound.{none_node, none_such}
use Rattle.c_grammar_tree.specs.Parts.{is_name, name_of}
use Rattle.c_grammar_tree.specs.Declarations.{identifier}
use Rattle.c_parser_words.proofs.names.identifier.Goals as goal

pub returns-in_ok-name : goal.returns-in_ok-name
unfolding identifier
returns-in_ok-name c = λ left.
    reads_node name_of c.in_ok-name.ensures.name
    (reads_such is_name (sym c.if-is_name.ensures.value) (c.if-is_name.ensures.more refl).within)

pub returns-else-is_name : goal.returns-else-is_name
unfolding identifier
returns-else-is_name c =
    λ left. none_node name_of (none_such is_name (sym c.if-is_name.ensures.value) c.requires)
