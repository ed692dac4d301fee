-- A brace, expressions, a brace.
use Rattle.std.proofs.Common.{refl}
use Rattle.c_grammar_forms.specs.Forms.{Before}
use Rattle.c_grammar_forms.specs.lemmas.Found.{reads_node}
use Rattle.c_grammar_forms.specs.lemmas.NotFound.{none_node, none_behind_here, none_before}
use Rattle.c_grammar_forms.specs.lemmas.NotFound.{none_before_here}
use Rattle.c_grammar_forms.specs.lemmas.Exits.{at_exit}
use Rattle.c_grammar_symbols.specs.declared.words.Terminal.TheVariants as terminal
use Rattle.c_grammar_symbols.specs.Sources.{is}
use Rattle.c_grammar_tree.specs.declared.TheConstants.{MAX_LEVEL}
use Rattle.c_grammar_tree.specs.Grammar.{grammar}
use Rattle.c_grammar_tree.specs.Declarations.{list}
use Rattle.c_grammar_tree.specs.lemmas.Terminals.{reads_opened, reads_closed, none_opened, at_lack}
use Rattle.c_parser_declarations.specs.Forms.{elements}
use Rattle.c_parser_declarations.proofs.Steadies.{steady_elements}
use Rattle.c_parser_declarations.proofs.initializers.list.Goals as goal

pub returns-in_err-start : goal.returns-in_err-start
unfolding list
returns-in_err-start c =
    at_lack MAX_LEVEL _ _ c.from_residual.ensures.1 c.in_err-start.ensures
    (λ fails. none_node _ (none_behind_here (λ n. Before (elements (grammar n))
    (is terminal.RightBrace)) (is terminal.LeftBrace) fails c.requires.within))

pub returns-in_err-items : goal.returns-in_err-items
unfolding list
returns-in_err-items c =
    at_exit MAX_LEVEL _ _ c.from_residual-in_err-items.ensures.1 c.in_err-items.ensures
    (λ i g. none_node _ (none_opened c.in_ok-start.ensures
    (none_before (is terminal.RightBrace) g)))

pub returns-in_err-behind : goal.returns-in_err-behind
unfolding list
returns-in_err-behind c =
    at_lack MAX_LEVEL _ _ c.from_residual-in_err-behind.ensures.1 c.in_err-behind.ensures
    (λ fails. none_node _ (none_opened c.in_ok-start.ensures
    (none_before_here (is terminal.RightBrace) steady_elements c.in_ok-items.ensures fails)))

pub returns : goal.returns
unfolding list
returns c = rw c.place-place.ensures
    (reads_node _ refl (reads_opened c.in_ok-start.ensures
    (reads_closed c.in_ok-items.ensures c.in_ok-behind.ensures)))
