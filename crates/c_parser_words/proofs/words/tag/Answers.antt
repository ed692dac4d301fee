-- A tag is an identifier.
use Rattle.c_grammar_forms.specs.lemmas.Found.{reads_node}
use Rattle.c_grammar_forms.specs.lemmas.NotFound.{none_node}
use Rattle.c_grammar_forms.specs.lemmas.Exits.{at_exit}
use Rattle.c_grammar_tree.specs.declared.TheConstants.{MAX_LEVEL}
use Rattle.c_grammar_tree.specs.Declarations.{tag}
use Rattle.c_parser_words.proofs.words.tag.Goals as goal

pub returns-in_err-name : goal.returns-in_err-name
unfolding tag
returns-in_err-name c = λ left.
    at_exit MAX_LEVEL _ _ c.from_residual.ensures.1 (c.in_err-name.ensures left)
    (λ i g. none_node _ g)

pub returns : goal.returns
unfolding tag
returns c = λ left. reads_node _ c.in_ok-tag.ensures (c.in_ok-name.ensures left)
