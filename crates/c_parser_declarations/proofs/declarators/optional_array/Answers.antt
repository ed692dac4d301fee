-- Brackets with a length or without one, where one opens.
use Rattle.std.proofs.Common.{sym, refl}
use Rattle.c_grammar_forms.specs.lemmas.Found.{reads_no, reads_one_more, reads_node, reads_skip}
use Rattle.c_grammar_forms.specs.lemmas.NotFound.{none_perhaps, none_node, none_skip, none_before}
use Rattle.c_grammar_forms.specs.lemmas.NotFound.{none_before_here}
use Rattle.c_grammar_forms.specs.lemmas.Exits.{at_exit}
use Rattle.c_grammar_symbols.specs.declared.words.Terminal.TheVariants.{LeftBracket, RightBracket}
use Rattle.c_grammar_symbols.specs.Sources.{is}
use Rattle.c_grammar_tree.specs.declared.TheConstants.{MAX_LEVEL}
use Rattle.c_grammar_tree.specs.Grammar.{grammar}
use Rattle.c_grammar_tree.specs.Declarations.{array}
use Rattle.c_grammar_tree.specs.lemmas.Terminals.{reads_closed, at_lack}
use Rattle.c_parser_declarations.proofs.Steadies.{steady_length}
use Rattle.c_parser_declarations.proofs.declarators.optional_array.Goals as goal

pub returns-then-not-is : goal.returns-then-not-is
returns-then-not-is c = reads_no (λ n. array (grammar n)) (is LeftBracket)
    (sym c.if-not-is.ensures.value) c.requires.within

pub returns-in_err-length : goal.returns-in_err-length
unfolding array
returns-in_err-length c =
    at_exit MAX_LEVEL _ _ c.from_residual.ensures.1 c.in_err-length.ensures
    (λ i g. none_perhaps (is LeftBracket) (sym c.if-not-is.ensures.value)
    (none_node _ (none_skip (none_before (is RightBracket) g))))

pub returns-in_err-behind : goal.returns-in_err-behind
unfolding array
returns-in_err-behind c =
    at_lack MAX_LEVEL _ _ c.from_residual-in_err-behind.ensures.1 c.in_err-behind.ensures
    (λ fails. none_perhaps (is LeftBracket) (sym c.if-not-is.ensures.value)
    (none_node _ (none_skip (none_before_here (is RightBracket) steady_length
    c.in_ok-length.ensures fails))))

pub returns : goal.returns
unfolding array
returns c = rw (c.in_ok-array.ensures, c.place-place.ensures)
    (reads_one_more (is LeftBracket) (sym c.if-not-is.ensures.value)
    (reads_node _ refl (reads_skip (reads_closed c.in_ok-length.ensures c.in_ok-behind.ensures))))
