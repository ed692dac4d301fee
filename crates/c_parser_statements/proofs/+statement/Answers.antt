-- Each statement from its parts.
use Rattle.std.proofs.Common.{length, sym, ◌∙◌, ap, arith, refl, not}
use Rattle.c_grammar_forms.specs.Forms.{Skip, Before, Deeper, Choice}
use Rattle.c_grammar_forms.specs.lemmas.Found.{reads_node, reads_skip, reads_pair, reads_choice}
use Rattle.c_grammar_forms.specs.lemmas.Found.{reads_nearest, reads_nearest_no}
use Rattle.c_grammar_forms.specs.lemmas.NotFound.{none_node, none_skip, none_first, none_second}
use Rattle.c_grammar_forms.specs.lemmas.NotFound.{none_before}
use Rattle.c_grammar_forms.specs.lemmas.NotFound.{none_before_here, none_choice, none_nearest}
use Rattle.c_grammar_forms.specs.lemmas.NotFound.{none_then_first, none_behind_here}
use Rattle.c_grammar_forms.specs.lemmas.Loops.{no_parts, one_more, no_more, no_part, at_items}
use Rattle.c_grammar_forms.specs.lemmas.Exits.{at_exit, answers_with, answers_deeper}
use Rattle.c_grammar_symbols.specs.declared.words.Terminal.TheVariants as terminal
use Rattle.c_grammar_symbols.specs.Symbols.{symbol_of}
use Rattle.c_grammar_symbols.specs.Sources.{leaf_at, is}
use Rattle.c_grammar_tree.specs.declared.TheConstants.{MAX_LEVEL}
use Rattle.c_grammar_tree.specs.Grammar.{grammar}
use Rattle.c_grammar_tree.specs.lemmas.Levels.{statement_above, item_above, answers_no_level}
use Rattle.c_grammar_tree.specs.Parts.{is_not, is_local_specifier, bare_name}
use Rattle.c_grammar_tree.specs.Statements.{items, condition, behind_comma_at, labeled_or_not}
use Rattle.c_grammar_tree.specs.Statements.{statement_at}
use Rattle.c_grammar_tree.specs.Statements.{item_by, item}
use Rattle.c_grammar_tree.specs.lemmas.Terminals.{reads_opened, reads_closed, none_opened, at_lack}
use Rattle.c_parser_declarations.specs.lemmas.Readers.{reads_then_onto, none_then_onto}
use Rattle.c_parser_statements.specs.declared.kinds.StatementKind.TheVariants as kind
use Rattle.c_parser_statements.specs.Forms.{optional_else, branches, begun}
use Rattle.c_parser_statements.proofs.Steadies.{steady_comma, steady_condition, steady_head}
use Rattle.c_parser_statements.proofs.Steadies.{steady_inner, steady_case_value}
use Rattle.c_parser_statements.proofs.Steadies.{steady_closed, steady_item, steady_items}
use Rattle.c_parser_statements.proofs.Arms.{begun_is}
use Rattle.c_parser_statements.proofs.Heads.{reads_head, none_head, none_body}
use Rattle.c_parser_statements.proofs.Ahead.{item_ahead}
use Rattle.c_parser_statements.proofs.Dispatch.{by_kind, reads_label, none_label, none_unlabeled}
use Rattle.c_parser_statements.proofs.Dispatch.{reads_alone, none_alone}
use Rattle.c_parser_statements.proofs.+statement.Goals as goal

pub blocks::inner_statement-returns-then-left-eq0 :
    goal.blocks::inner_statement-returns-then-left-eq0
blocks::inner_statement-returns-then-left-eq0 t c = rw c.no_level.ensures
    (answers_no_level MAX_LEVEL (λ n. (grammar n).statement)
    (leaf_at c.args.source.now) c.if-left-eq0.true c.requires.within
    (omega (arith, c.requires.room, c.if-left-eq0.true)) c.begins_statement.result)

pub blocks::inner_statement-returns : goal.blocks::inner_statement-returns
blocks::inner_statement-returns t c =
    answers_deeper MAX_LEVEL (leaf_at c.args.source.now)
    (length c.args.source.now) c.args.at statement_above
    (omega (arith, c.if-left-eq0.false)) c.statement.result c.statement.ensures

pub blocks::inner_item-returns-then-left-eq0 : goal.blocks::inner_item-returns-then-left-eq0
blocks::inner_item-returns-then-left-eq0 t c = rw c.no_level.ensures
    (answers_no_level MAX_LEVEL (λ n. (grammar n).item)
    (leaf_at c.args.source.now) c.if-left-eq0.true c.requires.within
    (omega (arith, c.requires.room, c.if-left-eq0.true)) c.begins_item.result)

pub blocks::inner_item-returns : goal.blocks::inner_item-returns
blocks::inner_item-returns t c =
    answers_deeper MAX_LEVEL (leaf_at c.args.source.now)
    (length c.args.source.now) c.args.at item_above
    (omega (arith, c.if-left-eq0.false)) c.item.result c.item.ensures

pub blocks::boxed_statement-returns-in_err-inner : goal.blocks::boxed_statement-returns-in_err-inner
blocks::boxed_statement-returns-in_err-inner t c =
    at_exit MAX_LEVEL _ _ c.from_residual.ensures.1 c.in_err-inner.ensures (λ i g. g)

pub blocks::boxed_statement-returns : goal.blocks::boxed_statement-returns
blocks::boxed_statement-returns t c = rw c.in_ok-whole.ensures c.in_ok-inner.ensures

pub blocks::item-returns-in_err-made : goal.blocks::item-returns-in_err-made
unfolding item item_by
blocks::item-returns-in_err-made t c =
    at_exit MAX_LEVEL _ _ c.from_residual.ensures.1 c.in_err-made.ensures
    (λ i g. none_choice is_local_specifier (λ n. item_by (grammar n))
    (sym c.if-begins_declaration.ensures) (none_node _ g))

pub blocks::item-returns-then-begins_declaration : goal.blocks::item-returns-then-begins_declaration
unfolding item item_by
blocks::item-returns-then-begins_declaration t c = rw c.in_ok-declaration.ensures
    (reads_choice is_local_specifier (λ n. item_by (grammar n))
    (sym c.if-begins_declaration.ensures) (reads_node _ refl c.in_ok-made.ensures))

pub blocks::item-returns-in_err-statement : goal.blocks::item-returns-in_err-statement
unfolding item item_by
blocks::item-returns-in_err-statement t c =
    at_exit MAX_LEVEL _ _ c.from_residual-in_err-statement.ensures.1 c.in_err-statement.ensures
    (λ i g. none_choice is_local_specifier (λ n. item_by (grammar n))
    (sym c.if-begins_declaration.ensures) (none_node _ g))

pub blocks::item-returns : goal.blocks::item-returns
unfolding item item_by
blocks::item-returns t c =
    reads_choice is_local_specifier (λ n. item_by (grammar n)) (sym c.if-begins_declaration.ensures)
    (reads_node _ refl c.in_ok-statement.ensures)

pub blocks::block_items-list-init : goal.blocks::block_items-list-init
blocks::block_items-list-init t c =
    at_items (no_parts (is_not terminal.RightBrace)
    (λ n. Deeper ((grammar n).item)) c.requires.within) c.new-items.ensures

pub blocks::block_items-returns-in_err-item : goal.blocks::block_items-returns-in_err-item
blocks::block_items-returns-in_err-item t c =
    at_exit MAX_LEVEL _ _ c.from_residual.ensures.1 c.in_err-item.ensures
    (λ i g. no_part c.list.invariant (ap not (sym c.list-test.ensures.value)) g)

pub blocks::block_items-list-preserved : goal.blocks::block_items-list-preserved
blocks::block_items-list-preserved t c =
    at_items (one_more c.list.invariant steady_item
    (ap not (sym c.list-test.ensures.value)) c.in_ok-item.ensures) c.in_ok-push.ensures.ok

pub blocks::block_items-list-smaller : goal.blocks::block_items-list-smaller
blocks::block_items-list-smaller t c =
    let r = c.in_ok-item.ensures in omega (arith, item_ahead r, r.within)

pub blocks::block_items-returns : goal.blocks::block_items-returns
blocks::block_items-returns t c = rw c.trimmed.ensures
    (no_more c.list.invariant (ap not (sym c.list-test.ensures.value)))

pub blocks::items-returns-in_err-items : goal.blocks::items-returns-in_err-items
unfolding items
blocks::items-returns-in_err-items t c =
    at_exit MAX_LEVEL _ _ c.from_residual.ensures.1 c.in_err-items.ensures
    (λ i g. none_before (is terminal.RightBrace) g)

pub blocks::items-returns-in_err-behind : goal.blocks::items-returns-in_err-behind
unfolding items
blocks::items-returns-in_err-behind t c =
    at_lack MAX_LEVEL _ _ c.from_residual-in_err-behind.ensures.1 c.in_err-behind.ensures
    (λ fails. none_before_here (is terminal.RightBrace) steady_items c.in_ok-items.ensures fails)

pub blocks::items-returns : goal.blocks::items-returns
unfolding items
blocks::items-returns t c = reads_closed c.in_ok-items.ensures c.in_ok-behind.ensures

pub blocks::block-returns-in_err-items : goal.blocks::block-returns-in_err-items
unfolding statement_at
blocks::block-returns-in_err-items t c =
    at_exit MAX_LEVEL _ _ c.from_residual.ensures.1 c.in_err-items.ensures
    (λ i g. none_node _ (none_skip g))

pub blocks::block-returns : goal.blocks::block-returns
unfolding statement_at
blocks::block-returns t c =
    rw c.place-place.ensures (reads_node _ refl (reads_skip c.in_ok-items.ensures))

pub loops::optional_else-returns-then-not-is : goal.loops::optional_else-returns-then-not-is
loops::optional_else-returns-then-not-is t c =
    reads_nearest_no (λ n. Skip (Deeper ((grammar n).statement))) (is terminal.Else)
    (sym c.if-not-is.ensures.value) c.requires.within

pub loops::optional_else-returns-in_err-other : goal.loops::optional_else-returns-in_err-other
loops::optional_else-returns-in_err-other t c =
    at_exit MAX_LEVEL _ _ c.from_residual.ensures.1 c.in_err-other.ensures
    (λ i g. none_nearest (is terminal.Else) (sym c.if-not-is.ensures.value) (none_skip g))

pub loops::optional_else-returns : goal.loops::optional_else-returns
loops::optional_else-returns t c = reads_nearest (is terminal.Else)
    (sym c.if-not-is.ensures.value) (reads_skip c.in_ok-other.ensures)

pub loops::branches-returns-in_err-yes : goal.loops::branches-returns-in_err-yes
loops::branches-returns-in_err-yes t c =
    at_exit MAX_LEVEL _ _ c.from_residual.ensures.1 c.in_err-yes.ensures
    (λ i g. none_first (λ n. optional_else (grammar n)) g)

pub loops::branches-returns-in_err-no : goal.loops::branches-returns-in_err-no
loops::branches-returns-in_err-no t c =
    at_exit MAX_LEVEL _ _ c.from_residual-in_err-no.ensures.1 c.in_err-no.ensures
    (λ i g. none_second steady_inner c.in_ok-yes.ensures g)

pub loops::branches-returns : goal.loops::branches-returns
loops::branches-returns t c = reads_pair c.in_ok-yes.ensures c.in_ok-no.ensures

pub loops::if_statement-returns-in_err-test : goal.loops::if_statement-returns-in_err-test
unfolding statement_at
loops::if_statement-returns-in_err-test t c =
    at_exit MAX_LEVEL _ _ c.from_residual.ensures.1 c.in_err-test.ensures
    (λ i g. none_node _ (none_skip (none_first (λ n. branches (grammar n)) g)))

pub loops::if_statement-returns-in_err-yes : goal.loops::if_statement-returns-in_err-yes
unfolding statement_at
loops::if_statement-returns-in_err-yes t c =
    at_exit MAX_LEVEL _ _ c.from_residual-in_err-yes.ensures.1 c.in_err-yes.ensures
    (λ i g. none_node _ (none_skip (none_second steady_condition c.in_ok-test.ensures g)))

pub loops::if_statement-returns : goal.loops::if_statement-returns
unfolding statement_at
loops::if_statement-returns t c = rw c.place-place.ensures
    (reads_node _ refl (reads_skip (reads_pair c.in_ok-test.ensures c.in_ok-yes.ensures)))

pub loops::while_statement-returns-in_err-test : goal.loops::while_statement-returns-in_err-test
unfolding statement_at
loops::while_statement-returns-in_err-test t c =
    at_exit MAX_LEVEL _ _ c.from_residual.ensures.1 c.in_err-test.ensures
    (λ i g. none_node _ (none_skip (none_first (λ n. Deeper ((grammar n).statement)) g)))

pub loops::while_statement-returns-in_err-body : goal.loops::while_statement-returns-in_err-body
unfolding statement_at
loops::while_statement-returns-in_err-body t c =
    at_exit MAX_LEVEL _ _ c.from_residual-in_err-body.ensures.1 c.in_err-body.ensures
    (λ i g. none_node _ (none_skip (none_second steady_condition c.in_ok-test.ensures g)))

pub loops::while_statement-returns : goal.loops::while_statement-returns
unfolding statement_at
loops::while_statement-returns t c = rw c.place-place.ensures
    (reads_node _ refl (reads_skip (reads_pair c.in_ok-test.ensures c.in_ok-body.ensures)))

pub loops::do_statement-returns-in_err-body : goal.loops::do_statement-returns-in_err-body
unfolding statement_at
loops::do_statement-returns-in_err-body t c =
    at_exit MAX_LEVEL _ _ c.from_residual.ensures.1 c.in_err-body.ensures
    (λ i g. none_node _ (none_skip (none_first (λ n. Before (condition (grammar n))
    (is terminal.Semicolon)) (none_before (is terminal.While) g))))

pub loops::do_statement-returns-in_err-start : goal.loops::do_statement-returns-in_err-start
unfolding statement_at
loops::do_statement-returns-in_err-start t c =
    at_lack MAX_LEVEL _ _ c.from_residual-in_err-start.ensures.1 c.in_err-start.ensures
    (λ fails. none_node _ (none_skip (none_first (λ n. Before (condition (grammar n))
    (is terminal.Semicolon))
    (none_before_here (is terminal.While) steady_inner c.in_ok-body.ensures fails))))

pub loops::do_statement-returns-in_err-test : goal.loops::do_statement-returns-in_err-test
unfolding statement_at
loops::do_statement-returns-in_err-test t c =
    at_exit MAX_LEVEL _ _ c.from_residual-in_err-test.ensures.1 c.in_err-test.ensures
    (λ i g. none_node _ (none_skip (none_second (steady_closed terminal.While)
    (reads_closed c.in_ok-body.ensures c.in_ok-start.ensures)
    (none_before (is terminal.Semicolon) g))))

pub loops::do_statement-returns-in_err-behind : goal.loops::do_statement-returns-in_err-behind
unfolding statement_at
loops::do_statement-returns-in_err-behind t c =
    at_lack MAX_LEVEL _ _ c.from_residual-in_err-behind.ensures.1 c.in_err-behind.ensures
    (λ fails. none_node _ (none_skip (none_second (steady_closed terminal.While)
    (reads_closed c.in_ok-body.ensures c.in_ok-start.ensures)
    (none_before_here (is terminal.Semicolon) steady_condition c.in_ok-test.ensures fails))))

pub loops::do_statement-returns : goal.loops::do_statement-returns
unfolding statement_at
loops::do_statement-returns t c = rw c.place-place.ensures
    (reads_node _ refl
    (reads_skip (reads_pair (reads_closed c.in_ok-body.ensures c.in_ok-start.ensures)
    (reads_closed c.in_ok-test.ensures c.in_ok-behind.ensures))))

pub loops::for_statement-returns-in_err-start : goal.loops::for_statement-returns-in_err-start
unfolding statement_at
loops::for_statement-returns-in_err-start t c =
    at_exit MAX_LEVEL _ _ c.from_residual.ensures.1 c.in_err-start.ensures
    (λ i g. none_node _ (none_skip (none_head (λ n. Deeper ((grammar n).statement)) g)))

pub loops::for_statement-returns-in_err-body : goal.loops::for_statement-returns-in_err-body
unfolding statement_at
loops::for_statement-returns-in_err-body t c =
    at_exit MAX_LEVEL _ _ c.from_residual-in_err-body.ensures.1 c.in_err-body.ensures
    (λ i g. none_node _ (none_skip (none_body steady_head c.in_ok-start.ensures g)))

pub loops::for_statement-returns : goal.loops::for_statement-returns
unfolding statement_at
loops::for_statement-returns t c = rw c.place-place.ensures
    (reads_node _ refl (reads_skip (reads_head c.in_ok-start.ensures c.in_ok-body.ensures)))

pub switches::switch_statement-returns-in_err-value :
    goal.switches::switch_statement-returns-in_err-value
unfolding statement_at
switches::switch_statement-returns-in_err-value t c =
    at_exit MAX_LEVEL _ _ c.from_residual.ensures.1 c.in_err-value.ensures
    (λ i g. none_node _ (none_skip (none_first (λ n. Deeper ((grammar n).statement)) g)))

pub switches::switch_statement-returns-in_err-body :
    goal.switches::switch_statement-returns-in_err-body
unfolding statement_at
switches::switch_statement-returns-in_err-body t c =
    at_exit MAX_LEVEL _ _ c.from_residual-in_err-body.ensures.1 c.in_err-body.ensures
    (λ i g. none_node _ (none_skip (none_second steady_condition c.in_ok-value.ensures g)))

pub switches::switch_statement-returns : goal.switches::switch_statement-returns
unfolding statement_at
switches::switch_statement-returns t c = rw c.place-place.ensures
    (reads_node _ refl (reads_skip (reads_pair c.in_ok-value.ensures c.in_ok-body.ensures)))

pub switches::case_statement-returns-in_err-value :
    goal.switches::case_statement-returns-in_err-value
unfolding statement_at
switches::case_statement-returns-in_err-value t c =
    at_exit MAX_LEVEL _ _ c.from_residual.ensures.1 c.in_err-value.ensures
    (λ i g. none_node _ (none_skip (none_first (λ n. Deeper ((grammar n).statement)) g)))

pub switches::case_statement-returns-in_err-body :
    goal.switches::case_statement-returns-in_err-body
unfolding statement_at
switches::case_statement-returns-in_err-body t c =
    at_exit MAX_LEVEL _ _ c.from_residual-in_err-body.ensures.1 c.in_err-body.ensures
    (λ i g. none_node _ (none_skip (none_second steady_case_value c.in_ok-value.ensures g)))

pub switches::case_statement-returns : goal.switches::case_statement-returns
unfolding statement_at
switches::case_statement-returns t c = rw c.place-place.ensures
    (reads_node _ refl (reads_skip (reads_pair c.in_ok-value.ensures c.in_ok-body.ensures)))

pub switches::default_statement-returns-in_err-start :
    goal.switches::default_statement-returns-in_err-start
unfolding statement_at
switches::default_statement-returns-in_err-start t c =
    at_lack MAX_LEVEL _ _ c.from_residual.ensures.1 c.in_err-start.ensures
    (λ fails. none_node _ (none_skip (none_behind_here (λ n. Deeper ((grammar n).statement))
    (is terminal.Colon) fails c.requires.more.within)))

pub switches::default_statement-returns-in_err-body :
    goal.switches::default_statement-returns-in_err-body
unfolding statement_at
switches::default_statement-returns-in_err-body t c =
    at_exit MAX_LEVEL _ _ c.from_residual-in_err-body.ensures.1 c.in_err-body.ensures
    (λ i g. none_node _ (none_skip (none_opened c.in_ok-start.ensures g)))

pub switches::default_statement-returns : goal.switches::default_statement-returns
unfolding statement_at
switches::default_statement-returns t c = rw c.place-place.ensures
    (reads_node _ refl (reads_skip (reads_opened c.in_ok-start.ensures c.in_ok-body.ensures)))

pub labels::labeled-returns-in_err-body-in-Some : goal.labels::labeled-returns-in_err-body-in-Some
labels::labeled-returns-in_err-body-in-Some t c =
    at_exit MAX_LEVEL _ _ c.from_residual.ensures.1 c.in_err-body-in-Some.ensures
    (λ i g. none_label _ _ _ c.args.place c.args.made c.in-Some.label (sym c.bare_name.ensures ∙
    c.in-Some.is) c.requires.colon g)

pub labels::labeled-returns-in_ok-body-in-Some : goal.labels::labeled-returns-in_ok-body-in-Some
labels::labeled-returns-in_ok-body-in-Some t c =
    (reads_label _ _ _ c.args.place c.args.made c.in-Some.label (sym c.bare_name.ensures ∙
    c.in-Some.is) c.requires.colon c.in_ok-body-in-Some.ensures)

pub labels::labeled-returns-in-None : goal.labels::labeled-returns-in-None
labels::labeled-returns-in-None t c =
    none_unlabeled _ _ _ c.args.place c.args.made (sym c.bare_name.ensures ∙
    c.in-None.is) c.requires.colon (omega (arith, c.requires.more.within))

pub labels::behind_comma-returns-in_err-behind : goal.labels::behind_comma-returns-in_err-behind
labels::behind_comma-returns-in_err-behind t c =
    at_lack MAX_LEVEL _ _ c.from_residual-in_err-behind.ensures.1 c.in_err-behind.ensures
    (λ fails. none_alone _ _ _ c.args.place c.args.made
    (sym c.if-is.ensures.value) fails c.requires.within)

pub labels::behind_comma-returns : goal.labels::behind_comma-returns
labels::behind_comma-returns t c = rw c.in_ok-whole.ensures
    (reads_alone _ _ _ c.args.place c.args.made c.in_ok-behind.ensures)

pub labels::expression_statement-returns-in_err-made :
    goal.labels::expression_statement-returns-in_err-made
unfolding statement_at
labels::expression_statement-returns-in_err-made t c =
    at_exit MAX_LEVEL _ _ c.from_residual.ensures.1 c.in_err-made.ensures
    (λ i g. none_node _ (none_then_first (λ n made. Choice symbol_of
    (behind_comma_at (grammar n) (bare_name made))) g))

pub labels::expression_statement-returns : goal.labels::expression_statement-returns
unfolding statement_at
labels::expression_statement-returns t c =
    answers_with MAX_LEVEL c.behind_comma.result
    (λ u q r. reads_then_onto labeled_or_not (λ leaf end.
    begun c.place-place.result c.in_ok-made.made end)
    (λ n made. Choice symbol_of (behind_comma_at (grammar n) (bare_name made)))
    (λ end. begun_is (leaf_at c.args.source.now c.args.at) _ c.place-place.ensures c.in_ok-made.made
    end) c.in_ok-made.ensures r)
    (λ i g. none_then_onto labeled_or_not (λ leaf end.
    begun c.place-place.result c.in_ok-made.made end)
    (λ n made. Choice symbol_of (behind_comma_at (grammar n) (bare_name made))) steady_comma
    c.in_ok-made.ensures g)
    c.behind_comma.ensures

pub blocks::statement-returns-in-Block : goal.blocks::statement-returns-in-Block
blocks::statement-returns-in-Block t c = by_kind _ _ _ kind.Block (sym c.kind_at.ensures.value ∙
    c.in-Block.is) c.block.result c.block.ensures

pub blocks::statement-returns-in-Empty : goal.blocks::statement-returns-in-Empty
blocks::statement-returns-in-Empty t c = by_kind _ _ _ kind.Empty (sym c.kind_at.ensures.value ∙
    c.in-Empty.is) c.empty.result c.empty.ensures

pub blocks::statement-returns-in-If : goal.blocks::statement-returns-in-If
blocks::statement-returns-in-If t c = by_kind _ _ _ kind.If (sym c.kind_at.ensures.value ∙
    c.in-If.is) c.if_statement.result c.if_statement.ensures

pub blocks::statement-returns-in-While : goal.blocks::statement-returns-in-While
blocks::statement-returns-in-While t c = by_kind _ _ _ kind.While (sym c.kind_at.ensures.value ∙
    c.in-While.is) c.while_statement.result c.while_statement.ensures

pub blocks::statement-returns-in-Do : goal.blocks::statement-returns-in-Do
blocks::statement-returns-in-Do t c = by_kind _ _ _ kind.Do (sym c.kind_at.ensures.value ∙
    c.in-Do.is) c.do_statement.result c.do_statement.ensures

pub blocks::statement-returns-in-For : goal.blocks::statement-returns-in-For
blocks::statement-returns-in-For t c = by_kind _ _ _ kind.For (sym c.kind_at.ensures.value ∙
    c.in-For.is) c.for_statement.result c.for_statement.ensures

pub blocks::statement-returns-in-Switch : goal.blocks::statement-returns-in-Switch
blocks::statement-returns-in-Switch t c = by_kind _ _ _ kind.Switch (sym c.kind_at.ensures.value ∙
    c.in-Switch.is) c.switch_statement.result c.switch_statement.ensures

pub blocks::statement-returns-in-Case : goal.blocks::statement-returns-in-Case
blocks::statement-returns-in-Case t c = by_kind _ _ _ kind.Case (sym c.kind_at.ensures.value ∙
    c.in-Case.is) c.case_statement.result c.case_statement.ensures

pub blocks::statement-returns-in-Default : goal.blocks::statement-returns-in-Default
blocks::statement-returns-in-Default t c = by_kind _ _ _ kind.Default
    (sym c.kind_at.ensures.value ∙ c.in-Default.is) c.default_statement.result
    c.default_statement.ensures

pub blocks::statement-returns-in-Goto : goal.blocks::statement-returns-in-Goto
blocks::statement-returns-in-Goto t c = by_kind _ _ _ kind.Goto (sym c.kind_at.ensures.value ∙
    c.in-Goto.is) c.goto.result c.goto.ensures

pub blocks::statement-returns-in-Break : goal.blocks::statement-returns-in-Break
blocks::statement-returns-in-Break t c = by_kind _ _ _ kind.Break (sym c.kind_at.ensures.value ∙
    c.in-Break.is) c.break_statement.result c.break_statement.ensures

pub blocks::statement-returns-in-Continue : goal.blocks::statement-returns-in-Continue
blocks::statement-returns-in-Continue t c = by_kind _ _ _ kind.Continue
    (sym c.kind_at.ensures.value ∙ c.in-Continue.is) c.continue_statement.result
    c.continue_statement.ensures

pub blocks::statement-returns-in-Return : goal.blocks::statement-returns-in-Return
blocks::statement-returns-in-Return t c = by_kind _ _ _ kind.Return (sym c.kind_at.ensures.value ∙
    c.in-Return.is) c.return_statement.result c.return_statement.ensures

pub blocks::statement-returns-in-Expression : goal.blocks::statement-returns-in-Expression
blocks::statement-returns-in-Expression t c = by_kind _ _ _ kind.Expression
    (sym c.kind_at.ensures.value ∙ c.in-Expression.is) c.expression_statement.result
    c.expression_statement.ensures
