-- Enumerators alone.
use Rattle.c_grammar_forms.specs.lemmas.Found.{reads_node}
use Rattle.c_grammar_forms.specs.lemmas.NotFound.{none_node}
use Rattle.c_grammar_forms.specs.lemmas.Exits.{at_exit}
use Rattle.c_grammar_tree.specs.declared.TheConstants.{MAX_LEVEL}
use Rattle.c_grammar_tree.specs.Declarations.{enumeration_by}
use Rattle.c_parser_declarations.proofs.enumerations.without_tag.Goals as goal

pub returns-in_err-enumerators : goal.returns-in_err-enumerators
unfolding enumeration_by
returns-in_err-enumerators c =
    at_exit MAX_LEVEL _ _ c.from_residual.ensures.1 c.in_err-enumerators.ensures
    (λ i g. none_node _ g)

pub returns : goal.returns
unfolding enumeration_by
returns c = reads_node _ c.in_ok-found.ensures c.in_ok-enumerators.ensures
