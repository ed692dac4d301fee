-- Specifiers, then a pointer where one may stand, then a name where one stands.
use Rattle.std.proofs.Common.{◌∙◌, ap}
use Rattle.c_grammar_forms.specs.lemmas.Found.{reads_node, reads_then, reads_pair}
use Rattle.c_grammar_forms.specs.lemmas.NotFound.{none_node, none_then, none_then_first}
use Rattle.c_grammar_forms.specs.lemmas.NotFound.{none_second}
use Rattle.c_grammar_forms.specs.lemmas.Exits.{at_exit}
use Rattle.c_grammar_tree.specs.declared.TheConstants.{MAX_LEVEL}
use Rattle.c_grammar_tree.specs.Parts.{have_char}
use Rattle.c_grammar_tree.specs.Items.{parameter}
use Rattle.c_parser_words.proofs.ParameterForms.{behind_specifiers, steady_specifiers}
use Rattle.c_parser_words.proofs.ParameterForms.{steady_pointer}
use Rattle.c_parser_words.proofs.ParameterForms.{pointer_by, pointer_is}
use Rattle.c_parser_words.proofs.parameters.parameter.Goals as goal

pub returns-in_err-specifiers : goal.returns-in_err-specifiers
unfolding parameter
returns-in_err-specifiers c = λ left.
    at_exit MAX_LEVEL _ _ c.from_residual.ensures.1 (c.in_err-specifiers.ensures left)
    (λ i g. none_node _ (none_then_first (λ n. behind_specifiers) g))

pub pointer-is_pointer-requires : goal.pointer-is_pointer-requires
pointer-is_pointer-requires c = (c.in_ok-specifiers.ensures 0).within

pub optional_identifier-requires : goal.optional_identifier-requires
optional_identifier-requires c = (c.pointer-is_pointer.ensures 0).within

pub returns-in_err-name : goal.returns-in_err-name
unfolding parameter
returns-in_err-name c = λ left.
    let may = c.have_char-allowed.ensures ∙ ap have_char c.as_slice.ensures in
    let pointer = pointer_by c.args.source.now left c.in_ok-specifiers.next _ _ _ _ may
    (c.pointer-is_pointer.ensures left) in
    at_exit MAX_LEVEL _ _ c.from_residual-in_err-name.ensures.1 (c.in_err-name.ensures left)
    (λ i g. none_node _ (none_then (λ n. behind_specifiers) steady_specifiers
    (c.in_ok-specifiers.ensures left)
    (none_second (steady_pointer (have_char c.in_ok-specifiers.specifiers.words)) pointer g)))

pub returns : goal.returns
unfolding parameter
returns c = λ left.
    let may = c.have_char-allowed.ensures ∙ ap have_char c.as_slice.ensures in
    let pointer = pointer_by c.args.source.now left c.in_ok-specifiers.next _ _ _ _ may
    (c.pointer-is_pointer.ensures left) in
    reads_node _
    (λ i. record {
      specifiers = c.in_ok-specifiers.specifiers;
      is_pointer =
          pointer_is c.pointer-is_pointer.result.0 i;
      name = c.in_ok-name.name;
    })
    (reads_then (λ n. behind_specifiers) (c.in_ok-specifiers.ensures left)
    (reads_pair pointer (c.in_ok-name.ensures left)))
