-- An expression, and a comma or none.
use Rattle.std.proofs.Common.{refl}
use Rattle.c_grammar_forms.specs.Forms.{Choice}
use Rattle.c_grammar_forms.specs.lemmas.Found.{reads_node, reads_pair}
use Rattle.c_grammar_forms.specs.lemmas.NotFound.{none_node, none_first, none_second}
use Rattle.c_grammar_forms.specs.lemmas.Exits.{at_exit}
use Rattle.c_grammar_symbols.specs.Symbols.{symbol_of}
use Rattle.c_grammar_tree.specs.declared.TheConstants.{MAX_LEVEL}
use Rattle.c_grammar_tree.specs.Declarations.{comma_or_end_at, element}
use Rattle.c_parser_declarations.proofs.Steadies.{steady_value}
use Rattle.c_parser_declarations.proofs.initializers.element.Goals as goal

pub returns-in_err-value : goal.returns-in_err-value
unfolding element
returns-in_err-value c =
    at_exit MAX_LEVEL _ _ c.from_residual.ensures.1 c.in_err-value.ensures
    (λ i g. none_node _ (none_first (λ n. Choice symbol_of comma_or_end_at) g))

pub returns-in_err-behind : goal.returns-in_err-behind
unfolding element
returns-in_err-behind c =
    at_exit MAX_LEVEL _ _ c.from_residual-in_err-behind.ensures.1
    (c.in_err-behind.ensures c.args.left)
    (λ i g. none_node _ (none_second steady_value c.in_ok-value.ensures g))

pub returns : goal.returns
unfolding element
returns c =
    reads_node _ refl (reads_pair c.in_ok-value.ensures (c.in_ok-behind.ensures c.args.left))
