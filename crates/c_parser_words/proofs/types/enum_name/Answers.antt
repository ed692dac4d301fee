-- A tag behind the word.
use Rattle.std.proofs.Common.{ap}
use Rattle.c_grammar_forms.specs.lemmas.Found.{reads_node, reads_skip}
use Rattle.c_grammar_forms.specs.lemmas.NotFound.{none_node, none_skip}
use Rattle.c_grammar_forms.specs.lemmas.Exits.{at_exit}
use Rattle.c_grammar_tree.specs.declared.TheConstants.{MAX_LEVEL}
use Rattle.c_grammar_tree.specs.declared.expression.TypeName.TheVariants as type_name'
use Rattle.c_grammar_tree.specs.Expressions.{type_name_at}
use Rattle.c_parser_words.proofs.types.enum_name.Goals as goal

pub returns-in_err-tag : goal.returns-in_err-tag
unfolding type_name_at
returns-in_err-tag c = λ left.
    at_exit MAX_LEVEL _ _ c.from_residual.ensures.1 (c.in_err-tag.ensures left)
    (λ i g. none_node _ (none_skip g))

pub returns : goal.returns
unfolding type_name_at
returns c = λ left.
    reads_node _ (ap (type_name'.Enum c.in_ok-tag.tag) c.place-place.ensures)
    (reads_skip (c.in_ok-tag.ensures left))
