-- The items, then the brace and its place.
use Rattle.std.proofs.Common.{refl}
use Rattle.c_grammar_forms.specs.lemmas.Found.{reads_node, reads_pair}
use Rattle.c_grammar_forms.specs.lemmas.NotFound.{none_node, none_first, none_second, none_such}
use Rattle.c_grammar_forms.specs.lemmas.Exits.{at_exit}
use Rattle.c_grammar_symbols.specs.declared.words.Terminal.TheVariants.{RightBrace}
use Rattle.c_grammar_symbols.specs.Sources.{is}
use Rattle.c_grammar_tree.specs.declared.TheConstants.{MAX_LEVEL}
use Rattle.c_grammar_tree.specs.Items.{closing_brace, closed_items}
use Rattle.c_grammar_tree.specs.lemmas.Terminals.{at_lack}
use Rattle.c_parser_statements.proofs.Dispatch.{reads_taken}
use Rattle.c_parser_statements.proofs.Steadies.{steady_items}
use Rattle.c_parser_statements.proofs.blocks.closed_items.Goals as goal

pub returns-in_err-items : goal.returns-in_err-items
unfolding closed_items
returns-in_err-items c =
    at_exit MAX_LEVEL _ _ c.from_residual.ensures.1 c.in_err-items.ensures
    (λ i g. none_first (λ n. closing_brace) g)

pub returns-in_err-behind : goal.returns-in_err-behind
unfolding closed_items closing_brace
returns-in_err-behind c =
    at_lack MAX_LEVEL _ _ c.from_residual-in_err-behind.ensures.1 c.in_err-behind.ensures
    (λ fails. none_second steady_items c.in_ok-items.ensures
    (none_node _ (none_such (is RightBrace) fails c.in_ok-items.ensures.within)))

pub returns : goal.returns
unfolding closed_items closing_brace
returns c = rw c.place-end.ensures (reads_pair c.in_ok-items.ensures
    (reads_node _ refl (reads_taken _ _ _ c.in_ok-behind.ensures)))
