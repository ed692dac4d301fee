-- Each call goes on at a level less, or at the same level to a part of a tighter form.
use Rattle.std.specs.Prelude.{suc, ◌-◌, ◌≤◌, length}
use Rattle.std.proofs.Common.{◌+◌, ◌*◌}
use Rattle.c_grammar_forms.specs.Forms.{Skip, Deeper}
use Rattle.c_grammar_forms.specs.lemmas.Loops.{SoFar}
use Rattle.c_grammar_forms.specs.Reading.{Reads}
use Rattle.c_grammar_symbols.specs.declared.words.Terminal.TheVariants as terminal
use Rattle.c_grammar_symbols.specs.Sources.{leaf_at, is}
use Rattle.c_grammar_tree.specs.Parts.{begins_suffix, is_operator}
use Rattle.c_grammar_tree.specs.Grammar.{grammar}
use Rattle.c_grammar_tree.specs.Expressions.{assignment, chain, operand, any_suffix, suffixes}
use Rattle.c_parser_expressions.specs.Steps.{more_items, more_arguments, operands}
use Rattle.c_parser_expressions.proofs.+expression.Given as goal

abbrev pub decreases-postfix::primary : goal.decreases-postfix::primary
decreases-postfix::primary l = 100 * l.left + 1

abbrev pub decreases-arguments::more_arguments : goal.decreases-arguments::more_arguments
decreases-arguments::more_arguments l = 100 * l.left + 1

abbrev pub decreases-arguments::arguments : goal.decreases-arguments::arguments
decreases-arguments::arguments l = 100 * l.left + 2

abbrev pub decreases-arguments::suffix : goal.decreases-arguments::suffix
decreases-arguments::suffix l = 100 * l.left + 3

abbrev pub decreases-arguments::suffixes : goal.decreases-arguments::suffixes
decreases-arguments::suffixes l = 100 * l.left + 4

abbrev pub decreases-postfix::postfix : goal.decreases-postfix::postfix
decreases-postfix::postfix l = 100 * l.left + 5

abbrev pub decreases-unary::unary : goal.decreases-unary::unary
decreases-unary::unary l = 100 * l.left + 6

abbrev pub decreases-unary::group : goal.decreases-unary::group
decreases-unary::group l = 100 * l.left + 5

abbrev pub decreases-unary::cast : goal.decreases-unary::cast
decreases-unary::cast l = 100 * l.left + 7

abbrev pub decreases-assignments::conditional : goal.decreases-assignments::conditional
decreases-assignments::conditional l = 100 * l.left + 31

abbrev pub decreases-assignments::assignment : goal.decreases-assignments::assignment
decreases-assignments::assignment l = 100 * l.left + 32

abbrev pub decreases-assignments::more_items : goal.decreases-assignments::more_items
decreases-assignments::more_items l = 100 * l.left + 33

abbrev pub decreases-assignments::comma : goal.decreases-assignments::comma
decreases-assignments::comma l = 100 * l.left + 34

abbrev pub decreases-nested::inner_comma : goal.decreases-nested::inner_comma
decreases-nested::inner_comma l = 100 * l.left + 0

abbrev pub decreases-nested::inner_assignment : goal.decreases-nested::inner_assignment
decreases-nested::inner_assignment l = 100 * l.left + 0

abbrev pub decreases-nested::inner_conditional : goal.decreases-nested::inner_conditional
decreases-nested::inner_conditional l = 100 * l.left + 0

abbrev pub decreases-nested::inner_cast : goal.decreases-nested::inner_cast
decreases-nested::inner_cast l = 100 * l.left + 0

abbrev pub decreases-nested::inner_unary : goal.decreases-nested::inner_unary
decreases-nested::inner_unary l = 100 * l.left + 0

abbrev pub decreases-chains::chain : goal.decreases-chains::chain
decreases-chains::chain l = 100 * l.left + (10 + 2 * l.rank)

abbrev pub decreases-chains::operands : goal.decreases-chains::operands
decreases-chains::operands l = 100 * l.left + (11 + 2 * l.tighter)

abbrev pub invariant-assignments::more_items-list : goal.invariant-assignments::more_items-list
invariant-assignments::more_items-list l = SoFar (λ n. more_items l.fn.first (grammar n))
    (is terminal.Comma) (λ n. Skip (assignment (grammar n))) (leaf_at l.source)
    (length l.source) l.left l.at l.items l.here

abbrev pub decreases-assignments::more_items-list : goal.decreases-assignments::more_items-list
decreases-assignments::more_items-list l = length l.source - l.here

abbrev pub invariant-arguments::more_arguments-list : goal.invariant-arguments::more_arguments-list
invariant-arguments::more_arguments-list l = SoFar (λ n. more_arguments l.fn.first (grammar n))
    (is terminal.Comma) (λ n. Skip (Deeper ((grammar n).assignment))) (leaf_at l.source)
    (length l.source) l.left l.at l.arguments l.here

abbrev pub decreases-arguments::more_arguments-list : goal.decreases-arguments::more_arguments-list
decreases-arguments::more_arguments-list l = length l.source - l.here

abbrev pub invariant-chains::chain-climb : goal.invariant-chains::chain-climb
invariant-chains::chain-climb l = Reads (λ n. chain l.tighter (grammar n)) (leaf_at l.source)
    (length l.source) l.left l.at l.whole l.behind × (l.tighter ≤ l.rank)

abbrev pub decreases-chains::chain-climb : goal.decreases-chains::chain-climb
decreases-chains::chain-climb l = l.rank - l.tighter

abbrev pub invariant-chains::operands-list : goal.invariant-chains::operands-list
invariant-chains::operands-list l = SoFar (λ n. operands l.tighter (grammar n))
    (is_operator (suc l.tighter)) (λ n. operand (chain l.tighter (grammar n))) (leaf_at l.source)
    (length l.source) l.left l.at l.operands l.here

abbrev pub decreases-chains::operands-list : goal.decreases-chains::operands-list
decreases-chains::operands-list l = length l.source - l.here

abbrev pub invariant-arguments::suffixes-list : goal.invariant-arguments::suffixes-list
invariant-arguments::suffixes-list l = SoFar (λ n. suffixes (grammar n) l.asserts) begins_suffix
    (λ n. any_suffix (grammar n)) (leaf_at l.source) (length l.source) l.left l.at l.suffixes l.here

abbrev pub decreases-arguments::suffixes-list : goal.decreases-arguments::suffixes-list
decreases-arguments::suffixes-list l = length l.source - l.here
