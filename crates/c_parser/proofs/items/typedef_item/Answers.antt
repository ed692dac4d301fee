-- Specifiers, names, a semicolon.
use Rattle.std.proofs.Common.{ap}
use Rattle.c_grammar_forms.specs.lemmas.Found.{reads_node, reads_skip, reads_pair}
use Rattle.c_grammar_forms.specs.lemmas.NotFound.{none_node, none_skip, none_first, none_second}
use Rattle.c_grammar_forms.specs.lemmas.NotFound.{none_before, none_before_here}
use Rattle.c_grammar_forms.specs.lemmas.Exits.{at_exit}
use Rattle.c_grammar_symbols.specs.declared.words.Terminal.TheVariants as terminal
use Rattle.c_grammar_symbols.specs.Sources.{is}
use Rattle.c_grammar_tree.specs.declared.TheConstants.{MAX_LEVEL}
use Rattle.c_grammar_tree.specs.declared.item.Item.TheVariants as node
use Rattle.c_grammar_tree.specs.Parts.{is_typedef_specifier}
use Rattle.c_grammar_tree.specs.lemmas.Terminals.{reads_closed, at_lack}
use Rattle.c_parser.proofs.Steadies.{steady_specifiers, steady_typedef_names}
use Rattle.c_parser.proofs.items.typedef_item.Goals as goal

pub returns-in_err-specifiers : goal.returns-in_err-specifiers
returns-in_err-specifiers c =
    at_exit MAX_LEVEL _ _ c.from_residual.ensures.1 c.in_err-specifiers.ensures
    (λ i g. none_node _ (none_skip (none_first _ g)))

pub returns-in_err-names : goal.returns-in_err-names
returns-in_err-names c =
    at_exit MAX_LEVEL _ _ c.from_residual-in_err-names.ensures.1
    (c.in_err-names.ensures c.args.left)
    (λ i g. none_node _ (none_skip (none_second (steady_specifiers is_typedef_specifier)
    c.in_ok-specifiers.ensures (none_before _ g))))

pub returns-in_err-behind : goal.returns-in_err-behind
returns-in_err-behind c =
    at_lack MAX_LEVEL _ _ c.from_residual-in_err-behind.ensures.1 c.in_err-behind.ensures
    (λ fails. none_node _ (none_skip (none_second (steady_specifiers is_typedef_specifier)
    c.in_ok-specifiers.ensures
    (none_before_here (is terminal.Semicolon) steady_typedef_names
    (c.in_ok-names.ensures c.args.left) fails))))

pub returns : goal.returns
returns c =
    reads_node _ (ap (node.Typedef c.in_ok-specifiers.specifiers c.in_ok-names.names)
    c.place-place.ensures)
    (reads_skip (reads_pair c.in_ok-specifiers.ensures
    (reads_closed (c.in_ok-names.ensures c.args.left) c.in_ok-behind.ensures)))

pub typedef_names-requires : goal.typedef_names-requires
typedef_names-requires c = c.in_ok-specifiers.ensures.within

pub expect-requires : goal.expect-requires
expect-requires c = (c.in_ok-names.ensures 0).within
