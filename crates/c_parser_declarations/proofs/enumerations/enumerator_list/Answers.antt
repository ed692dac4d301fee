-- A brace, enumerators, a brace.
use Rattle.c_grammar_forms.specs.Forms.{Before}
use Rattle.c_grammar_forms.specs.lemmas.NotFound.{none_behind_here, none_before, none_before_here}
use Rattle.c_grammar_forms.specs.lemmas.Exits.{at_exit}
use Rattle.c_grammar_symbols.specs.declared.words.Terminal.TheVariants as terminal
use Rattle.c_grammar_symbols.specs.Sources.{is}
use Rattle.c_grammar_tree.specs.declared.TheConstants.{MAX_LEVEL}
use Rattle.c_grammar_tree.specs.Grammar.{grammar}
use Rattle.c_grammar_tree.specs.Declarations.{enumerators, enumerator_list}
use Rattle.c_grammar_tree.specs.lemmas.Terminals.{reads_opened, reads_closed, none_opened, at_lack}
use Rattle.c_parser_declarations.proofs.Steadies.{steady_enumerators}
use Rattle.c_parser_declarations.proofs.enumerations.enumerator_list.Goals as goal

pub returns-in_err-start : goal.returns-in_err-start
unfolding enumerator_list
returns-in_err-start c =
    at_lack MAX_LEVEL _ _ c.from_residual.ensures.1 c.in_err-start.ensures
    (λ fails. none_behind_here (λ n. Before (enumerators (grammar n))
    (is terminal.RightBrace)) (is terminal.LeftBrace) fails c.requires.within)

pub returns-in_err-items : goal.returns-in_err-items
unfolding enumerator_list
returns-in_err-items c =
    at_exit MAX_LEVEL _ _ c.from_residual-in_err-items.ensures.1 c.in_err-items.ensures
    (λ i g. none_opened c.in_ok-start.ensures (none_before (is terminal.RightBrace) g))

pub returns-in_err-behind : goal.returns-in_err-behind
unfolding enumerator_list
returns-in_err-behind c =
    at_lack MAX_LEVEL _ _ c.from_residual-in_err-behind.ensures.1 c.in_err-behind.ensures
    (λ fails. none_opened c.in_ok-start.ensures
    (none_before_here (is terminal.RightBrace) steady_enumerators c.in_ok-items.ensures fails))

pub returns : goal.returns
unfolding enumerator_list
returns c = reads_opened c.in_ok-start.ensures
    (reads_closed c.in_ok-items.ensures c.in_ok-behind.ensures)
