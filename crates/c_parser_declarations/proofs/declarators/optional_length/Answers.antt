-- A conditional where the bracket does not close at once.
use Rattle.std.proofs.Common.{sym, ap, not}
use Rattle.c_grammar_forms.specs.Forms.{Deeper}
use Rattle.c_grammar_forms.specs.lemmas.Found.{reads_no, reads_one_more}
use Rattle.c_grammar_forms.specs.lemmas.NotFound.{none_perhaps}
use Rattle.c_grammar_forms.specs.lemmas.Exits.{at_exit}
use Rattle.c_grammar_symbols.specs.declared.words.Terminal.TheVariants.{RightBracket}
use Rattle.c_grammar_tree.specs.declared.TheConstants.{MAX_LEVEL}
use Rattle.c_grammar_tree.specs.Grammar.{grammar}
use Rattle.c_grammar_tree.specs.Parts.{is_not}
use Rattle.c_parser_declarations.proofs.declarators.optional_length.Goals as goal

pub returns-then-is : goal.returns-then-is
returns-then-is c =
    reads_no (λ n. Deeper ((grammar n).conditional)) (is_not RightBracket)
    (ap not (sym c.if-is.ensures.value)) c.requires.within

pub returns-in_err-length : goal.returns-in_err-length
returns-in_err-length c =
    at_exit MAX_LEVEL _ _ c.from_residual.ensures.1 c.in_err-length.ensures
    (λ i g. none_perhaps (is_not RightBracket) (ap not (sym c.if-is.ensures.value)) g)

pub returns : goal.returns
returns c =
    reads_one_more (is_not RightBracket) (ap not (sym c.if-is.ensures.value)) c.in_ok-length.ensures
