-- Enumerators where their brace stands there.
use Rattle.std.proofs.Common.{sym}
use Rattle.c_grammar_forms.specs.lemmas.Found.{reads_no, reads_one_more}
use Rattle.c_grammar_forms.specs.lemmas.NotFound.{none_perhaps}
use Rattle.c_grammar_forms.specs.lemmas.Exits.{at_exit}
use Rattle.c_grammar_symbols.specs.declared.words.Terminal.TheVariants.{LeftBrace}
use Rattle.c_grammar_symbols.specs.Sources.{is}
use Rattle.c_grammar_tree.specs.declared.TheConstants.{MAX_LEVEL}
use Rattle.c_grammar_tree.specs.Grammar.{grammar}
use Rattle.c_grammar_tree.specs.Declarations.{enumerator_list}
use Rattle.c_parser_declarations.proofs.enumerations.optional_list.Goals as goal

pub returns-then-not-is : goal.returns-then-not-is
returns-then-not-is c =
    reads_no (λ n. enumerator_list (grammar n)) (is LeftBrace)
    (sym c.if-not-is.ensures.value) c.requires.within

pub returns-in_err-items : goal.returns-in_err-items
returns-in_err-items c =
    at_exit MAX_LEVEL _ _ c.from_residual.ensures.1 c.in_err-items.ensures
    (λ i g. none_perhaps (is LeftBrace) (sym c.if-not-is.ensures.value) g)

pub returns : goal.returns
returns c =
    reads_one_more (is LeftBrace) (sym c.if-not-is.ensures.value) c.in_ok-items.ensures
