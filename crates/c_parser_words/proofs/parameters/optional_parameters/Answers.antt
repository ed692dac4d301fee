-- A list where no bracket closes at once.
use Rattle.std.proofs.Common.{sym, ap, not}
use Rattle.c_grammar_forms.specs.lemmas.Found.{reads_no, reads_one_more}
use Rattle.c_grammar_forms.specs.lemmas.NotFound.{none_perhaps}
use Rattle.c_grammar_forms.specs.lemmas.Exits.{at_exit}
use Rattle.c_grammar_symbols.specs.declared.words.Terminal.TheVariants.{RightParen}
use Rattle.c_grammar_tree.specs.declared.TheConstants.{MAX_LEVEL}
use Rattle.c_grammar_tree.specs.Parts.{is_not}
use Rattle.c_grammar_tree.specs.Items.{parameter_list}
use Rattle.c_parser_words.proofs.parameters.optional_parameters.Goals as goal

pub returns-in_err-listed : goal.returns-in_err-listed
returns-in_err-listed c =
    at_exit MAX_LEVEL _ _ c.from_residual.ensures.1 c.in_err-listed.ensures
    (λ i g. none_perhaps (is_not RightParen) (ap not (sym c.if-is.ensures.value)) g)

pub returns-then-is : goal.returns-then-is
returns-then-is c =
    reads_no (λ n. parameter_list) (is_not RightParen)
    (ap not (sym c.if-is.ensures.value)) c.requires.within

pub returns-in_ok-listed : goal.returns-in_ok-listed
returns-in_ok-listed c =
    reads_one_more (is_not RightParen) (ap not (sym c.if-is.ensures.value)) c.in_ok-listed.ensures
