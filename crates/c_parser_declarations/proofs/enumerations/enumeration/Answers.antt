-- A tag says which of the two it is.
use Rattle.std.proofs.Common.{sym}
use Rattle.c_grammar_forms.specs.lemmas.Found.{reads_choice}
use Rattle.c_grammar_forms.specs.lemmas.NotFound.{none_choice}
use Rattle.c_grammar_forms.specs.lemmas.Exits.{answers_with}
use Rattle.c_grammar_tree.specs.declared.TheConstants.{MAX_LEVEL}
use Rattle.c_grammar_tree.specs.Grammar.{grammar}
use Rattle.c_grammar_tree.specs.Parts.{is_name}
use Rattle.c_grammar_tree.specs.Declarations.{enumeration_by, enumeration}
use Rattle.c_parser_declarations.proofs.enumerations.enumeration.Goals as goal

pub returns-then-is_name : goal.returns-then-is_name
unfolding enumeration
returns-then-is_name c =
    answers_with MAX_LEVEL c.with_tag.result
    (λ u q r. reads_choice is_name (λ n. enumeration_by (grammar n))
    (sym c.if-is_name.ensures.value) r)
    (λ i g. none_choice is_name (λ n. enumeration_by (grammar n))
    (sym c.if-is_name.ensures.value) g) c.with_tag.ensures

pub returns-else-is_name : goal.returns-else-is_name
unfolding enumeration
returns-else-is_name c =
    answers_with MAX_LEVEL c.without_tag.result
    (λ u q r. reads_choice is_name (λ n. enumeration_by (grammar n))
    (sym c.if-is_name.ensures.value) r)
    (λ i g. none_choice is_name (λ n. enumeration_by (grammar n))
    (sym c.if-is_name.ensures.value) g) c.without_tag.ensures
