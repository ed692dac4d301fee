-- A name of a typedef is a token that is a name, or a typedef name.
use Rattle.std.proofs.Common.{sym, refl}
use Rattle.c_grammar_forms.specs.lemmas.Found.{reads_node, reads_such}
use Rattle.c_grammar_forms.specs.lemmas.NotFound.{none_node, none_such}
use Rattle.c_grammar_tree.specs.Parts.{is_any_name, name_of}
use Rattle.c_grammar_tree.specs.Items.{typedef_name}
use Rattle.c_parser_words.proofs.names.typedef_name.Goals as goal

pub returns-in_ok-name : goal.returns-in_ok-name
unfolding typedef_name
returns-in_ok-name c = λ left.
    reads_node name_of c.in_ok-name.ensures.name
    (reads_such is_any_name (sym c.if-is_any_name.ensures.value)
    (c.if-is_any_name.ensures.more refl).within)

pub returns-else-is_any_name : goal.returns-else-is_any_name
unfolding typedef_name
returns-else-is_any_name c =
    λ left. none_node name_of
    (none_such is_any_name (sym c.if-is_any_name.ensures.value) c.requires)
