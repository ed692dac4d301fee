-- A bracket, parameters or none, the bracket that closes, attributes.
use Rattle.c_grammar_forms.specs.lemmas.Found.{reads_node, reads_skip, reads_pair, reads_before_by}
use Rattle.c_grammar_forms.specs.lemmas.NotFound.{none_node, none_skip, none_first, none_second}
use Rattle.c_grammar_forms.specs.lemmas.NotFound.{none_before}
use Rattle.c_grammar_forms.specs.lemmas.NotFound.{none_before_here}
use Rattle.c_grammar_forms.specs.lemmas.Exits.{at_exit, at_fault}
use Rattle.c_grammar_symbols.specs.declared.words.Terminal.TheVariants.{RightParen}
use Rattle.c_grammar_symbols.specs.Sources.{is}
use Rattle.c_grammar_tree.specs.declared.TheConstants.{MAX_LEVEL}
use Rattle.c_grammar_tree.specs.Declarations.{attributes}
use Rattle.c_grammar_tree.specs.Items.{function_rest}
use Rattle.c_parser_words.proofs.ParameterForms.{steady_optional, steady_closed}
use Rattle.c_parser_words.proofs.parameters.function_rest.Goals as goal

pub returns-in_err-listed : goal.returns-in_err-listed
unfolding function_rest
returns-in_err-listed c =
    at_exit MAX_LEVEL _ _ c.from_residual.ensures.1 c.in_err-listed.ensures
    (λ i g. none_node _ (none_skip (none_first (λ n. attributes) (none_before (is RightParen) g))))

pub returns-in_err-next : goal.returns-in_err-next
unfolding function_rest
returns-in_err-next c =
    at_fault MAX_LEVEL _ _ c.from_residual-in_err-next.ensures.1 c.in_err-next.ensures.named
    (none_node _ (none_skip (none_first (λ n. attributes)
    (none_before_here (is RightParen) steady_optional c.in_ok-listed.ensures
    c.in_err-next.ensures.fails))))

pub returns-in_err-behind : goal.returns-in_err-behind
unfolding function_rest
returns-in_err-behind c =
    let next = c.in_ok-next.ensures in
    let closed = reads_before_by (is RightParen) c.in_ok-listed.ensures next.passes next.behind_it
    next.within in
    at_exit MAX_LEVEL _ _ c.from_residual-in_err-behind.ensures.1
    (c.in_err-behind.ensures c.args.left)
    (λ i g. none_node _ (none_skip (none_second steady_closed closed g)))

pub returns : goal.returns
unfolding function_rest
returns c =
    let next = c.in_ok-next.ensures in
    let closed = reads_before_by (is RightParen) c.in_ok-listed.ensures next.passes next.behind_it
    next.within in
    reads_node _ c.parameters_of.ensures (reads_skip
    (reads_pair closed (c.in_ok-behind.ensures c.args.left)))
