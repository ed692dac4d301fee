-- An expression where the semicolon does not stand at once.
use Rattle.std.proofs.Common.{sym, ap, not}
use Rattle.c_grammar_forms.specs.lemmas.Found.{reads_no, reads_one_more}
use Rattle.c_grammar_forms.specs.lemmas.NotFound.{none_perhaps}
use Rattle.c_grammar_forms.specs.lemmas.Exits.{at_exit}
use Rattle.c_grammar_symbols.specs.declared.words.Terminal.TheVariants.{Semicolon}
use Rattle.c_grammar_tree.specs.declared.TheConstants.{MAX_LEVEL}
use Rattle.c_grammar_tree.specs.Grammar.{grammar}
use Rattle.c_grammar_tree.specs.Parts.{is_not}
use Rattle.c_grammar_tree.specs.Expressions.{comma}
use Rattle.c_parser_statements.proofs.jumps.optional_value.Goals as goal

pub returns-then-is : goal.returns-then-is
returns-then-is c = reads_no (λ n. comma (grammar n)) (is_not Semicolon)
    (ap not (sym c.if-is.ensures.value)) c.requires.within

pub returns-in_err-made : goal.returns-in_err-made
returns-in_err-made c =
    at_exit MAX_LEVEL _ _ c.from_residual.ensures.1 c.in_err-made.ensures
    (λ i g. none_perhaps (is_not Semicolon) (ap not (sym c.if-is.ensures.value)) g)

pub returns : goal.returns
returns c = rw c.in_ok-value.ensures
    (reads_one_more (is_not Semicolon) (ap not (sym c.if-is.ensures.value)) c.in_ok-made.ensures)
