use Rattle.std.specs.Prelude.{suc, ◌-◌, refl}
use Rattle.std.proofs.Common.{sym, ◌∙◌, arith}
use Rattle.c_grammar_forms.specs.Forms.{Skip, Deeper}
use Rattle.c_grammar_forms.specs.lemmas.Found.{reads_skip}
use Rattle.c_grammar_forms.specs.lemmas.NotFound.{none_skip}
use Rattle.c_grammar_forms.specs.lemmas.Exits.{at_exit, answers_with, answers_deeper}
use Rattle.c_grammar_forms.specs.lemmas.Loops.{no_parts, one_more, no_more, no_part, at_items}
use Rattle.c_grammar_forms.specs.lemmas.Loops.{behind_first}
use Rattle.c_grammar_symbols.specs.declared.words.Terminal.TheVariants as terminal
use Rattle.c_grammar_symbols.specs.Symbols.{symbol_of}
use Rattle.c_grammar_symbols.specs.Sources.{leaf_at, is}
use Rattle.c_grammar_tree.specs.declared.TheConstants.{MAX_LEVEL}
use Rattle.c_grammar_tree.specs.Parts.{begins_expression, is_operator}
use Rattle.c_grammar_tree.specs.Grammar.{grammar}
use Rattle.c_grammar_tree.specs.Expressions.{assignment, chain, operand}
use Rattle.c_grammar_tree.specs.lemmas.Levels.{comma_above, assignment_above, conditional_above}
use Rattle.c_grammar_tree.specs.lemmas.Levels.{cast_above}
use Rattle.c_grammar_tree.specs.lemmas.Levels.{unary_above, answers_no_level}
use Rattle.c_grammar_tree.specs.lemmas.Terminals.{at_lack, reads_closed}
use Rattle.c_parser_expressions.proofs.Steadies.{steady_skip_item, steady_skip_assignment}
use Rattle.c_parser_expressions.proofs.Steadies.{steady_operand}
use Rattle.c_parser_expressions.proofs.Steadies.{steady_suffix}
use Rattle.c_parser_expressions.proofs.Arms.{no_step, operator_here, no_operator_here, finds_none}
use Rattle.c_parser_expressions.proofs.Arms.{is_left_paren, is_left_bracket, between_here}
use Rattle.c_parser_expressions.proofs.Arms.{none_between_here}
use Rattle.c_parser_expressions.proofs.Productions.{comma_none, comma_alone, comma_rest_none}
use Rattle.c_parser_expressions.proofs.Productions.{comma_many}
use Rattle.c_parser_expressions.proofs.Productions.{operand_none, operand_read}
use Rattle.c_parser_expressions.proofs.Productions.{conditional_none}
use Rattle.c_parser_expressions.proofs.Productions.{conditional_alone, conditional_none_yes}
use Rattle.c_parser_expressions.proofs.Productions.{conditional_no_colon, conditional_none_no}
use Rattle.c_parser_expressions.proofs.Productions.{conditional_whole, assignment_none}
use Rattle.c_parser_expressions.proofs.Productions.{assignment_alone}
use Rattle.c_parser_expressions.proofs.Productions.{assignment_none_right, assignment_whole}
use Rattle.c_parser_expressions.proofs.Climbing.{looser, tightest, climb_none, link_none}
use Rattle.c_parser_expressions.proofs.Climbing.{link_read}
use Rattle.c_parser_expressions.proofs.Tight.{postfix_none, postfix_none_suffixes, postfix_whole}
use Rattle.c_parser_expressions.proofs.Tight.{postfix_alone, group_alone}
use Rattle.c_parser_expressions.proofs.Tight.{unary_none_step, unary_step, unary_none_sign}
use Rattle.c_parser_expressions.proofs.Tight.{unary_sign}
use Rattle.c_parser_expressions.proofs.Tight.{unary_none_postfix, unary_postfix, cast_group_none}
use Rattle.c_parser_expressions.proofs.Tight.{cast_group_read, cast_unary_none, cast_unary_read}
use Rattle.c_parser_expressions.proofs.Tight.{group_none_type, group_type_open, group_none_operand}
use Rattle.c_parser_expressions.proofs.Tight.{group_cast, group_none_inner, group_open}
use Rattle.c_parser_expressions.proofs.Tight.{group_none_suffixes, group_bracket, primary_none}
use Rattle.c_parser_expressions.proofs.Tight.{primary_open, primary_bracketed, index_none}
use Rattle.c_parser_expressions.proofs.Tight.{index_open}
use Rattle.c_parser_expressions.proofs.Tight.{index_read, call_none, call_read, arguments_empty}
use Rattle.c_parser_expressions.proofs.Tight.{arguments_none, arguments_none_more, assignments_read}
use Rattle.c_parser_expressions.proofs.Tight.{arguments_open, arguments_whole, suffixes_none}
use Rattle.c_parser_expressions.proofs.Tight.{suffixes_begin, suffix_ahead}
use Rattle.c_parser_expressions.proofs.+expression.Goals as goal

pub nested::inner_comma-returns-then-left-eq0 : goal.nested::inner_comma-returns-then-left-eq0
nested::inner_comma-returns-then-left-eq0 t c = rw c.no_level.ensures
    (answers_no_level MAX_LEVEL (λ n. (grammar n).comma) _ c.if-left-eq0.true c.requires.within
    (omega (arith, c.requires.room, c.if-left-eq0.true))
    (begins_expression (leaf_at c.args.source.now c.args.at)))

pub nested::inner_comma-returns : goal.nested::inner_comma-returns
nested::inner_comma-returns t c = answers_deeper MAX_LEVEL _ _ _ comma_above
    (omega (arith, c.if-left-eq0.false)) c.comma.result c.comma.ensures

pub nested::inner_assignment-returns-then-left-eq0 :
    goal.nested::inner_assignment-returns-then-left-eq0
nested::inner_assignment-returns-then-left-eq0 t c =
    rw c.no_level.ensures (answers_no_level MAX_LEVEL
    (λ n. (grammar n).assignment) _ c.if-left-eq0.true c.requires.within
    (omega (arith, c.requires.room, c.if-left-eq0.true))
    (begins_expression (leaf_at c.args.source.now c.args.at)))

pub nested::inner_assignment-returns : goal.nested::inner_assignment-returns
nested::inner_assignment-returns t c = answers_deeper MAX_LEVEL _ _ _ assignment_above
    (omega (arith, c.if-left-eq0.false)) c.assignment.result c.assignment.ensures

pub nested::inner_conditional-returns-then-left-eq0 :
    goal.nested::inner_conditional-returns-then-left-eq0
nested::inner_conditional-returns-then-left-eq0 t c =
    rw c.no_level.ensures (answers_no_level MAX_LEVEL
    (λ n. (grammar n).conditional) _ c.if-left-eq0.true c.requires.within
    (omega (arith, c.requires.room, c.if-left-eq0.true))
    (begins_expression (leaf_at c.args.source.now c.args.at)))

pub nested::inner_conditional-returns : goal.nested::inner_conditional-returns
nested::inner_conditional-returns t c = answers_deeper MAX_LEVEL _ _ _ conditional_above
    (omega (arith, c.if-left-eq0.false)) c.conditional.result c.conditional.ensures

pub nested::inner_cast-returns-then-left-eq0 : goal.nested::inner_cast-returns-then-left-eq0
nested::inner_cast-returns-then-left-eq0 t c = rw c.no_level.ensures
    (answers_no_level MAX_LEVEL (λ n. (grammar n).cast) _ c.if-left-eq0.true c.requires.within
    (omega (arith, c.requires.room, c.if-left-eq0.true))
    (begins_expression (leaf_at c.args.source.now c.args.at)))

pub nested::inner_cast-returns : goal.nested::inner_cast-returns
nested::inner_cast-returns t c = answers_deeper MAX_LEVEL _ _ _ cast_above
    (omega (arith, c.if-left-eq0.false)) c.cast.result c.cast.ensures

pub nested::inner_unary-returns-then-left-eq0 : goal.nested::inner_unary-returns-then-left-eq0
nested::inner_unary-returns-then-left-eq0 t c = rw c.no_level.ensures
    (answers_no_level MAX_LEVEL (λ n. (grammar n).unary) _ c.if-left-eq0.true c.requires.within
    (omega (arith, c.requires.room, c.if-left-eq0.true))
    (begins_expression (leaf_at c.args.source.now c.args.at)))

pub nested::inner_unary-returns : goal.nested::inner_unary-returns
nested::inner_unary-returns t c = answers_deeper MAX_LEVEL _ _ _ unary_above
    (omega (arith, c.if-left-eq0.false)) c.unary.result c.unary.ensures

pub assignments::comma-returns-in_err-first : goal.assignments::comma-returns-in_err-first
assignments::comma-returns-in_err-first t c =
    at_exit MAX_LEVEL _ _ c.from_residual.ensures.1 c.in_err-first.ensures
    (λ i g. comma_none g)

pub assignments::comma-returns-then-not-is : goal.assignments::comma-returns-then-not-is
assignments::comma-returns-then-not-is t c =
    comma_alone c.in_ok-first.ensures (sym c.if-not-is.ensures.value)

pub assignments::comma-returns-in_err-items : goal.assignments::comma-returns-in_err-items
assignments::comma-returns-in_err-items t c =
    at_exit MAX_LEVEL _ _ c.from_residual-in_err-items.ensures.1 c.in_err-items.ensures
    (λ i g. comma_rest_none c.in_ok-first.ensures g)

pub assignments::comma-returns : goal.assignments::comma-returns
assignments::comma-returns t c = rw c.place-place.ensures
    (comma_many c.in_ok-first.ensures (sym c.if-not-is.ensures.value) c.in_ok-items.ensures)

pub assignments::more_items-list-init : goal.assignments::more_items-list-init
assignments::more_items-list-init t c = at_items (behind_first (is terminal.Comma) c.args.first
    (λ n. Skip (assignment (grammar n))) c.requires.within) c.in_ok-items.ensures.listed

pub assignments::more_items-returns-in_err-item : goal.assignments::more_items-returns-in_err-item
assignments::more_items-returns-in_err-item t c =
    at_exit MAX_LEVEL _ _ c.from_residual-in_err-item.ensures.1 c.in_err-item.ensures
    (λ i g. no_part c.list.invariant (sym c.list-test.ensures.value) (none_skip g))

pub assignments::more_items-list-preserved : goal.assignments::more_items-list-preserved
assignments::more_items-list-preserved t c = at_items (one_more c.list.invariant steady_skip_item
    (sym c.list-test.ensures.value) (reads_skip c.in_ok-item.ensures)) c.in_ok-push.ensures.ok

pub assignments::more_items-list-smaller : goal.assignments::more_items-list-smaller
assignments::more_items-list-smaller t c =
    let r = c.in_ok-item.ensures in omega (arith, r.onward, r.within)

pub assignments::more_items-returns : goal.assignments::more_items-returns
assignments::more_items-returns t c = no_more c.list.invariant (sym c.list-test.ensures.value)

pub arguments::more_arguments-list-init : goal.arguments::more_arguments-list-init
arguments::more_arguments-list-init t c = at_items (behind_first (is terminal.Comma) c.args.first
    (λ n. Skip (Deeper ((grammar n).assignment))) c.requires.within)
    c.in_ok-arguments.ensures.listed

pub arguments::more_arguments-returns-in_err-argument :
    goal.arguments::more_arguments-returns-in_err-argument
arguments::more_arguments-returns-in_err-argument t c =
    at_exit MAX_LEVEL _ _ c.from_residual-in_err-argument.ensures.1 c.in_err-argument.ensures
    (λ i g. no_part c.list.invariant (sym c.list-test.ensures.value) (none_skip g))

pub arguments::more_arguments-list-preserved : goal.arguments::more_arguments-list-preserved
arguments::more_arguments-list-preserved t c = at_items
    (one_more c.list.invariant steady_skip_assignment (sym c.list-test.ensures.value)
    (reads_skip c.in_ok-argument.ensures)) c.in_ok-push.ensures.ok

pub arguments::more_arguments-list-smaller : goal.arguments::more_arguments-list-smaller
arguments::more_arguments-list-smaller t c =
    let r = c.in_ok-argument.ensures in omega (arith, r.onward, r.within)

pub arguments::more_arguments-returns : goal.arguments::more_arguments-returns
arguments::more_arguments-returns t c = no_more c.list.invariant (sym c.list-test.ensures.value)

pub arguments::arguments-returns-then-is : goal.arguments::arguments-returns-then-is
arguments::arguments-returns-then-is t c = rw c.new.ensures
    (arguments_empty (sym c.if-is.ensures.value) (c.if-is.ensures.more refl).within
    c.requires.within)

pub arguments::arguments-returns-in_err-first : goal.arguments::arguments-returns-in_err-first
arguments::arguments-returns-in_err-first t c =
    at_exit MAX_LEVEL _ _ c.from_residual.ensures.1 c.in_err-first.ensures
    (λ i g. arguments_none (sym c.if-is.ensures.value) g)

pub arguments::arguments-returns-in_err-arguments :
    goal.arguments::arguments-returns-in_err-arguments
arguments::arguments-returns-in_err-arguments t c =
    at_exit MAX_LEVEL _ _ c.from_residual-in_err-arguments.ensures.1 c.in_err-arguments.ensures
    (λ i g. arguments_none_more (sym c.if-is.ensures.value) c.in_ok-first.ensures g)

pub arguments::arguments-returns-in_err-behind : goal.arguments::arguments-returns-in_err-behind
arguments::arguments-returns-in_err-behind t c =
    at_lack MAX_LEVEL _ _ c.from_residual-in_err-behind.ensures.1 c.in_err-behind.ensures
    (λ fails. arguments_open (sym c.if-is.ensures.value)
    (assignments_read (sym c.if-is.ensures.value) c.in_ok-first.ensures
    c.in_ok-arguments.ensures) fails)

pub arguments::arguments-returns : goal.arguments::arguments-returns
arguments::arguments-returns t c = rw c.trimmed.ensures
    (arguments_whole (sym c.if-is.ensures.value)
    (assignments_read (sym c.if-is.ensures.value) c.in_ok-first.ensures c.in_ok-arguments.ensures)
    c.in_ok-behind.ensures.passes c.in_ok-behind.ensures.behind_it c.in_ok-behind.ensures.within)

pub arguments::suffix-returns-in_err-inside : goal.arguments::suffix-returns-in_err-inside
arguments::suffix-returns-in_err-inside t c =
    at_exit MAX_LEVEL _ _ c.from_residual.ensures.1 c.in_err-inside.ensures
    (λ i g. index_none (is_left_bracket _ (sym c.if-is.ensures.value)) g)

pub arguments::suffix-returns-in_err-behind : goal.arguments::suffix-returns-in_err-behind
arguments::suffix-returns-in_err-behind t c =
    at_lack MAX_LEVEL _ _ c.from_residual-in_err-behind.ensures.1 c.in_err-behind.ensures
    (λ fails. index_open (is_left_bracket _ (sym c.if-is.ensures.value))
    c.in_ok-inside.ensures fails)

pub arguments::suffix-returns-then-is : goal.arguments::suffix-returns-then-is
arguments::suffix-returns-then-is t c = rw (c.in_ok-index.ensures, c.place-place.ensures)
    (index_read (is_left_bracket _ (sym c.if-is.ensures.value))
    (reads_closed c.in_ok-inside.ensures c.in_ok-behind.ensures))

pub arguments::suffix-returns-in_err-arguments : goal.arguments::suffix-returns-in_err-arguments
arguments::suffix-returns-in_err-arguments t c =
    at_exit MAX_LEVEL _ _ c.from_residual-in_err-arguments.ensures.1 c.in_err-arguments.ensures
    (λ i g. call_none (is_left_paren _ (sym c.if-is-2.ensures.value)) g)

pub arguments::suffix-returns-then-is-2 : goal.arguments::suffix-returns-then-is-2
arguments::suffix-returns-then-is-2 t c = rw c.place-place.ensures
    (call_read (is_left_paren _ (sym c.if-is-2.ensures.value)) c.in_ok-arguments.ensures)

pub arguments::suffix-returns : goal.arguments::suffix-returns
arguments::suffix-returns t c = c.step.ensures c.args.left

pub arguments::suffixes-returns-in_err-skipped : goal.arguments::suffixes-returns-in_err-skipped
arguments::suffixes-returns-in_err-skipped t c =
    at_exit MAX_LEVEL _ _ c.from_residual.ensures.1 (c.in_err-skipped.ensures c.args.left)
    (λ i g. suffixes_none c.args.asserts g)

pub arguments::suffixes-list-init : goal.arguments::suffixes-list-init
arguments::suffixes-list-init t c = suffixes_begin c.args.asserts
    (c.in_ok-skipped.ensures c.args.left) c.in_ok-suffixes.ensures.listed

pub arguments::suffixes-returns-in_err-next : goal.arguments::suffixes-returns-in_err-next
arguments::suffixes-returns-in_err-next t c =
    at_exit MAX_LEVEL _ _ c.from_residual-in_err-next.ensures.1 c.in_err-next.ensures
    (λ i g. no_part c.list.invariant (sym c.list-test.ensures) g)

pub arguments::suffixes-list-preserved : goal.arguments::suffixes-list-preserved
arguments::suffixes-list-preserved t c = at_items (one_more c.list.invariant steady_suffix
    (sym c.list-test.ensures) c.in_ok-next.ensures) c.in_ok-push.ensures.ok

pub arguments::suffixes-list-smaller : goal.arguments::suffixes-list-smaller
arguments::suffixes-list-smaller t c =
    let r = c.in_ok-next.ensures in omega (arith, suffix_ahead r, r.within)

pub arguments::suffixes-returns : goal.arguments::suffixes-returns
arguments::suffixes-returns t c = no_more c.list.invariant (sym c.list-test.ensures)

pub postfix::primary-returns-then-not-is : goal.postfix::primary-returns-then-not-is
postfix::primary-returns-then-not-is t c = c.leaf.ensures c.args.left

pub postfix::primary-returns-in_err-inside : goal.postfix::primary-returns-in_err-inside
postfix::primary-returns-in_err-inside t c =
    at_exit MAX_LEVEL _ _ c.from_residual.ensures.1 c.in_err-inside.ensures
    (λ i g. primary_none (is_left_paren _ (sym c.if-not-is.ensures.value)) g)

pub postfix::primary-returns-in_err-behind : goal.postfix::primary-returns-in_err-behind
postfix::primary-returns-in_err-behind t c =
    at_lack MAX_LEVEL _ _ c.from_residual-in_err-behind.ensures.1 c.in_err-behind.ensures
    (λ fails. primary_open (is_left_paren _ (sym c.if-not-is.ensures.value))
    c.in_ok-inside.ensures fails)

pub postfix::primary-returns : goal.postfix::primary-returns
postfix::primary-returns t c = rw (c.in_ok-inner.ensures, c.place-place.ensures)
    (primary_bracketed (is_left_paren _ (sym c.if-not-is.ensures.value))
    (reads_closed c.in_ok-inside.ensures c.in_ok-behind.ensures))

pub postfix::postfix-returns-in_err-made : goal.postfix::postfix-returns-in_err-made
postfix::postfix-returns-in_err-made t c =
    at_exit MAX_LEVEL _ _ c.from_residual.ensures.1 c.in_err-made.ensures
    (λ i g. postfix_none g)

pub postfix::postfix-returns-then-not-begins_suffix :
    goal.postfix::postfix-returns-then-not-begins_suffix
postfix::postfix-returns-then-not-begins_suffix t c =
    postfix_alone c.in_ok-made.ensures (sym c.if-not-begins_suffix.ensures)

pub postfix::postfix-returns-in_err-suffixes : goal.postfix::postfix-returns-in_err-suffixes
postfix::postfix-returns-in_err-suffixes t c = at_exit MAX_LEVEL _ _
    c.from_residual-in_err-suffixes.ensures.1 (rw c.names_assert-asserts.ensures at
    c.in_err-suffixes.ensures)
    (λ i g. postfix_none_suffixes c.in_ok-made.ensures g)

pub postfix::postfix-returns : goal.postfix::postfix-returns
postfix::postfix-returns t c = postfix_whole c.in_ok-made.ensures
    (rw c.names_assert-asserts.ensures at c.in_ok-suffixes.ensures)
    (rw (c.in_ok-base.ensures, c.place-place.ensures) at c.suffixed.ensures)

pub unary::unary-returns-in_err-inner : goal.unary::unary-returns-in_err-inner
unary::unary-returns-in_err-inner t c =
    at_exit MAX_LEVEL _ _ c.from_residual.ensures.1 c.in_err-inner.ensures
    (λ i g. unary_none_step (sym c.symbol-symbol.ensures.value ∙ c.in-Step.is) g)

pub unary::unary-returns-in-Step : goal.unary::unary-returns-in-Step
unary::unary-returns-in-Step t c = rw (c.in_ok-operand.ensures, c.place-place.ensures)
    (unary_step (sym c.symbol-symbol.ensures.value ∙ c.in-Step.is) c.in_ok-inner.ensures)

pub unary::unary-returns-in_err-inner-in-Some : goal.unary::unary-returns-in_err-inner-in-Some
unary::unary-returns-in_err-inner-in-Some t c = at_exit MAX_LEVEL _ _
    c.from_residual-in_err-inner-in-Some.ensures.1 c.in_err-inner-in-Some.ensures
    (λ i g. unary_none_sign (rw c.symbol-symbol.ensures.value at (sym c.sign_of.ensures ∙
    c.in-Some.is)) g)

pub unary::unary-returns-in_ok-operand-in-Some : goal.unary::unary-returns-in_ok-operand-in-Some
unary::unary-returns-in_ok-operand-in-Some t c =
    rw (c.in_ok-operand-in-Some.ensures, c.place-place.ensures)
    (unary_sign (rw c.symbol-symbol.ensures.value at (sym c.sign_of.ensures ∙
    c.in-Some.is)) c.in_ok-inner-in-Some.ensures)

pub unary::unary-returns-in-None : goal.unary::unary-returns-in-None
unary::unary-returns-in-None t c =
    let no_sign = rw c.symbol-symbol.ensures.value at (sym c.sign_of.ensures ∙ c.in-None.is) in
    let no_steps = no_step (symbol_of (leaf_at c.args.source.now c.args.at))
    (λ op e. c.in_default.not-Step op (c.symbol-symbol.ensures.value ∙ e)) in
    answers_with MAX_LEVEL c.postfix.result (λ u q r. unary_postfix no_sign no_steps r)
    (λ i g. unary_none_postfix no_sign no_steps g) c.postfix.ensures

pub unary::group-returns-in_err-named : goal.unary::group-returns-in_err-named
unary::group-returns-in_err-named t c =
    at_exit MAX_LEVEL _ _ c.from_residual.ensures.1 c.in_err-named.ensures
    (λ i g. group_none_type (sym c.if-begins_type.ensures) g)

pub unary::group-returns-in_err-start : goal.unary::group-returns-in_err-start
unary::group-returns-in_err-start t c =
    at_lack MAX_LEVEL _ _ c.from_residual-in_err-start.ensures.1 c.in_err-start.ensures
    (λ fails. group_type_open (sym c.if-begins_type.ensures) c.in_ok-named.ensures fails)

pub unary::group-returns-in_err-inner : goal.unary::group-returns-in_err-inner
unary::group-returns-in_err-inner t c =
    at_exit MAX_LEVEL _ _ c.from_residual-in_err-inner.ensures.1 c.in_err-inner.ensures
    (λ i g. group_none_operand (sym c.if-begins_type.ensures)
    (reads_closed c.in_ok-named.ensures c.in_ok-start.ensures) g)

pub unary::group-returns-then-begins_type : goal.unary::group-returns-then-begins_type
unary::group-returns-then-begins_type t c =
    rw (c.in_ok-to.ensures, c.in_ok-operand.ensures, c.place-place.ensures)
    (group_cast (sym c.if-begins_type.ensures) (reads_closed c.in_ok-named.ensures
    c.in_ok-start.ensures) c.in_ok-inner.ensures)

pub unary::group-returns-in_err-inside : goal.unary::group-returns-in_err-inside
unary::group-returns-in_err-inside t c =
    at_exit MAX_LEVEL _ _ c.from_residual-in_err-inside.ensures.1 c.in_err-inside.ensures
    (λ i g. group_none_inner (sym c.if-begins_type.ensures) g)

pub unary::group-returns-in_err-behind : goal.unary::group-returns-in_err-behind
unary::group-returns-in_err-behind t c =
    at_lack MAX_LEVEL _ _ c.from_residual-in_err-behind.ensures.1 c.in_err-behind.ensures
    (λ fails. group_open (sym c.if-begins_type.ensures) c.in_ok-inside.ensures fails)

pub unary::group-returns-in_err-suffixes : goal.unary::group-returns-in_err-suffixes
unary::group-returns-in_err-suffixes t c = at_exit MAX_LEVEL _ _
    c.from_residual-in_err-suffixes.ensures.1 (rw c.names_assert-asserts.ensures at
    c.in_err-suffixes.ensures)
    (λ i g. group_none_suffixes (sym c.if-begins_type.ensures)
    (reads_closed c.in_ok-inside.ensures c.in_ok-behind.ensures) g)

pub unary::group-returns-then-not-begins_suffix : goal.unary::group-returns-then-not-begins_suffix
unary::group-returns-then-not-begins_suffix t c =
    rw (c.in_ok-inner-2.ensures, c.place-place.ensures)
    (group_alone (sym c.if-begins_type.ensures)
    (reads_closed c.in_ok-inside.ensures c.in_ok-behind.ensures)
    (sym c.if-not-begins_suffix.ensures))

pub unary::group-returns : goal.unary::group-returns
unary::group-returns t c = group_bracket (sym c.if-begins_type.ensures)
    (reads_closed c.in_ok-inside.ensures c.in_ok-behind.ensures)
    (rw c.names_assert-asserts.ensures at c.in_ok-suffixes.ensures)
    (rw (c.in_ok-base.ensures, c.in_ok-inner-2.ensures, c.place-place.ensures) at
    c.suffixed.ensures)

pub unary::cast-returns-then-is : goal.unary::cast-returns-then-is
unary::cast-returns-then-is t c =
    answers_with MAX_LEVEL c.group.result (λ u q r. cast_group_read (sym c.if-is.ensures.value) r)
    (λ i g. cast_group_none (sym c.if-is.ensures.value) g) c.group.ensures

pub unary::cast-returns-else-is : goal.unary::cast-returns-else-is
unary::cast-returns-else-is t c =
    answers_with MAX_LEVEL c.unary.result (λ u q r. cast_unary_read (sym c.if-is.ensures.value) r)
    (λ i g. cast_unary_none (sym c.if-is.ensures.value) g) c.unary.ensures

pub chains::chain-returns-in_err-whole : goal.chains::chain-returns-in_err-whole
chains::chain-returns-in_err-whole t c =
    at_exit MAX_LEVEL _ _ c.from_residual.ensures.1 c.in_err-whole.ensures
    (λ i g. climb_none c.args.rank g)

pub chains::chain-climb-init : goal.chains::chain-climb-init
chains::chain-climb-init t c = (tightest c.in_ok-whole.ensures, omega arith)

pub chains::chain-returns-in_err-rest : goal.chains::chain-returns-in_err-rest
chains::chain-returns-in_err-rest t c =
    at_exit MAX_LEVEL _ _ c.from_residual-in_err-rest.ensures.1 c.in_err-rest.ensures
    (λ i g. let found = between_here (leaf_at c.args.source.now c.climb.behind) c.climb.tighter
    c.args.rank _ c.in-Some.next c.symbol.ensures.value c.in-Some.ensures in
    link_none (c.in-Some.next - 1) (omega (arith, found.0)) found.0 found.2 c.climb.invariant.0
    found.1 g)

pub chains::chain-climb-preserved : goal.chains::chain-climb-preserved
chains::chain-climb-preserved t c =
    let found = between_here (leaf_at c.args.source.now c.climb.behind) c.climb.tighter
    c.args.rank _ c.in-Some.next c.symbol.ensures.value c.in-Some.ensures in (
      rw (c.in_ok-first.ensures, c.place-place.ensures) (link_read (c.in-Some.next - 1)
          (omega (arith, found.0)) found.0 found.2 c.climb.invariant.0 c.in_ok-rest.ensures),
      found.1,
    )

pub chains::chain-climb-smaller : goal.chains::chain-climb-smaller
chains::chain-climb-smaller t c =
    let found = between_here (leaf_at c.args.source.now c.climb.behind) c.climb.tighter
    c.args.rank _ c.in-Some.next c.symbol.ensures.value c.in-Some.ensures in
    omega (arith, found.0, found.1)

pub chains::chain-returns : goal.chains::chain-returns
chains::chain-returns t c = looser c.climb.invariant.1 c.climb.invariant.0
    (none_between_here (leaf_at c.args.source.now c.climb.behind) c.climb.tighter c.args.rank _
    c.looseness_between.result c.symbol.ensures.value c.looseness_between.ensures
    c.in_default.not-Some)

pub chains::operands-list-init : goal.chains::operands-list-init
chains::operands-list-init t c = at_items (no_parts (is_operator (suc c.args.tighter))
    (λ n. operand (chain c.args.tighter (grammar n))) c.requires.within)
    (c.from_vec-operands.ensures ∙ c.in_ok-room.ensures.items)

pub chains::operands-returns-in_err-operand : goal.chains::operands-returns-in_err-operand
chains::operands-returns-in_err-operand t c =
    at_exit MAX_LEVEL _ _ c.from_residual-in_err-operand.ensures.1 c.in_err-operand.ensures
    (λ i g. let found = operator_here (leaf_at c.args.source.now c.list.here) c.args.tighter _
    c.in-Some.operator c.symbol.ensures.value c.in-Some.ensures in
    no_part c.list.invariant found.1 (operand_none c.args.tighter found.0 g))

pub chains::operands-list-preserved : goal.chains::operands-list-preserved
chains::operands-list-preserved t c =
    let found = operator_here (leaf_at c.args.source.now c.list.here) c.args.tighter _
    c.in-Some.operator c.symbol.ensures.value c.in-Some.ensures in
    at_items (one_more c.list.invariant (steady_operand c.args.tighter) found.1
    (operand_read c.args.tighter found.0 c.in_ok-operand.ensures)) c.in_ok-push.ensures.ok

pub chains::operands-list-smaller : goal.chains::operands-list-smaller
chains::operands-list-smaller t c =
    let r = c.in_ok-operand.ensures in omega (arith, r.onward, r.within)

pub chains::operands-returns : goal.chains::operands-returns
chains::operands-returns t c = no_more c.list.invariant
    (no_operator_here (leaf_at c.args.source.now c.list.here) c.args.tighter _ c.operator_of.result
    c.symbol.ensures.value c.operator_of.ensures c.in_default.not-Some)

pub assignments::conditional-returns-in_err-condition :
    goal.assignments::conditional-returns-in_err-condition
assignments::conditional-returns-in_err-condition t c =
    at_exit MAX_LEVEL _ _ c.from_residual.ensures.1 c.in_err-condition.ensures
    (λ i g. conditional_none g)

pub assignments::conditional-returns-then-not-is : goal.assignments::conditional-returns-then-not-is
assignments::conditional-returns-then-not-is t c =
    conditional_alone c.in_ok-condition.ensures (sym c.if-not-is.ensures.value)

pub assignments::conditional-returns-in_err-chosen :
    goal.assignments::conditional-returns-in_err-chosen
assignments::conditional-returns-in_err-chosen t c =
    at_exit MAX_LEVEL _ _ c.from_residual-in_err-chosen.ensures.1 c.in_err-chosen.ensures
    (λ i g. conditional_none_yes c.in_ok-condition.ensures (sym c.if-not-is.ensures.value) g)

pub assignments::conditional-returns-in_err-start :
    goal.assignments::conditional-returns-in_err-start
assignments::conditional-returns-in_err-start t c =
    at_lack MAX_LEVEL _ _ c.from_residual-in_err-start.ensures.1 c.in_err-start.ensures
    (λ fails. conditional_no_colon c.in_ok-condition.ensures
    (sym c.if-not-is.ensures.value) c.in_ok-chosen.ensures fails)

pub assignments::conditional-returns-in_err-other :
    goal.assignments::conditional-returns-in_err-other
assignments::conditional-returns-in_err-other t c =
    at_exit MAX_LEVEL _ _ c.from_residual-in_err-other.ensures.1 c.in_err-other.ensures
    (λ i g. conditional_none_no c.in_ok-condition.ensures (sym c.if-not-is.ensures.value)
    (reads_closed c.in_ok-chosen.ensures c.in_ok-start.ensures) g)

pub assignments::conditional-returns : goal.assignments::conditional-returns
assignments::conditional-returns t c =
    rw (c.in_ok-test.ensures, c.in_ok-yes.ensures, c.in_ok-no.ensures, c.place-place.ensures)
    (conditional_whole c.in_ok-condition.ensures (sym c.if-not-is.ensures.value)
    (reads_closed c.in_ok-chosen.ensures c.in_ok-start.ensures) c.in_ok-other.ensures)

pub assignments::assignment-returns-in_err-target :
    goal.assignments::assignment-returns-in_err-target
assignments::assignment-returns-in_err-target t c =
    at_exit MAX_LEVEL _ _ c.from_residual.ensures.1 c.in_err-target.ensures
    (λ i g. assignment_none g)

pub assignments::assignment-returns-in_default : goal.assignments::assignment-returns-in_default
assignments::assignment-returns-in_default t c = assignment_alone c.in_ok-target.ensures
    (finds_none c.in_ok-target.target (leaf_at c.args.source.now c.in_ok-target.mark)
    c.operator_behind.result c.operator_behind.ensures.found c.in_default.not-Some)

pub assignments::assignment-returns-in_err-value : goal.assignments::assignment-returns-in_err-value
assignments::assignment-returns-in_err-value t c =
    at_exit MAX_LEVEL _ _ c.from_residual-in_err-value.ensures.1 c.in_err-value.ensures
    (λ i g. assignment_none_right c.in_ok-target.ensures c.in-Some.ensures.found.0
    c.in-Some.ensures.found.1 g)

pub assignments::assignment-returns : goal.assignments::assignment-returns
assignments::assignment-returns t c =
    rw (c.in_ok-left_side.ensures, c.in_ok-right_side.ensures, c.place-place.ensures)
    (assignment_whole c.in_ok-target.ensures c.in-Some.ensures.found.0 c.in-Some.ensures.found.1
    c.in_ok-value.ensures)
