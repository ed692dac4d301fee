-- The goals of the cycle of expressions: loops, and what stands behind an expression.
use Rattle.std.proofs.Common.{◌≡◌, ◌-◌, length, take, OnOk, IfOk, ap, sym, subst, ◌∙◌, arith}
use Rattle.c_types_rules.specs.declared.typed.TypedExpression.{out-TypedExpression}
use Rattle.c_core_rules.specs.Expressions.{Target, placed}
use Rattle.c_lower_values.specs.Found.{so_far}
use Rattle.c_lower_expressions.specs.Rows.{suffixed_by}
use Rattle.c_types_rules.specs.Tables.{suffix_count}
use Rattle.c_lower_expressions.proofs.Chains.{linked_kept, linked_done}
use Rattle.c_lower_expressions.proofs.Lists.{comma_kept, comma_done, comma_past_done}
use Rattle.c_lower_expressions.proofs.Suffixes.{rows_of_last, of_Index, of_Call, of_Skipped}
use Rattle.c_lower_expressions.proofs.Suffixes.{of_Step}
use Rattle.c_lower_expressions.proofs.Suffixes.{postfix_is, placed_all, target_by}
use Rattle.c_lower_expressions.proofs.Suffixes.{suffixes_counted}
use Rattle.c_lower_expressions.proofs.+expression.Goals as goal

pub expressions::chained-loop-link-preserved : goal.expressions::chained-loop-link-preserved
expressions::chained-loop-link-preserved t c =
    linked_kept c.args.origin _ _ _ _ _ c.args.rest.now c.loop-link.link-index _ _ _ _ _
    (omega arith) c.link-item.is c.in_ok-right.ensures.taken
    c.in_ok-right.ensures.made c.in_ok-left.ensures.taken c.in_ok-left.ensures.made
    c.loop-link.invariant

pub expressions::chained-returns-clause-taken : goal.expressions::chained-returns-clause-taken
expressions::chained-returns-clause-taken t c =
    rw (linked_done c.args.origin _ _ _ c.args.rest.now c.loop-link.link-index _ _
    (omega arith) c.loop-link.invariant) at c.finished.ensures.taken

pub expressions::chained-returns-clause-made : goal.expressions::chained-returns-clause-made
expressions::chained-returns-clause-made t c =
    rw (linked_done c.args.origin _ _ _ c.args.rest.now c.loop-link.link-index _ _
    (omega arith) c.loop-link.invariant) at c.finished.ensures.made

pub expressions::comma_of-loop-item-preserved :
    goal.expressions::comma_of-loop-item-preserved
expressions::comma_of-loop-item-preserved t c = record {
  left = omega (arith, c.loop-item.invariant.left);
  rest = comma_kept _ _ _ _ _ c.args.items.now c.loop-item.item-index _ _ _ _ (omega
      (arith, c.loop-item.invariant.left))
      c.item-item.is c.in_ok-dropped.ensures.taken c.in_ok-dropped.ensures.made
      c.in_ok-before.ensures c.loop-item.invariant.rest;
}

pub expressions::comma_of-returns-then-left-eq1-clause-taken :
    goal.expressions::comma_of-returns-then-left-eq1-clause-taken
expressions::comma_of-returns-then-left-eq1-clause-taken t c =
    (comma_done _ _ _ _ _ c.args.items.now c.loop-item.item-index _ _ _ _ (omega
    (arith, c.loop-item.invariant.left)) c.item-item.is
    c.in_ok-v.ensures.taken c.in_ok-v.ensures.made c.in_ok-statements.ensures
    c.loop-item.invariant.rest).0

pub expressions::comma_of-returns-then-left-eq1-clause-made :
    goal.expressions::comma_of-returns-then-left-eq1-clause-made
expressions::comma_of-returns-then-left-eq1-clause-made t c =
    (comma_done _ _ _ _ _ c.args.items.now c.loop-item.item-index _ _ _ _ (omega
    (arith, c.loop-item.invariant.left)) c.item-item.is
    c.in_ok-v.ensures.taken c.in_ok-v.ensures.made c.in_ok-statements.ensures
    c.loop-item.invariant.rest).1

pub expressions::comma_of-returns-clause-taken :
    goal.expressions::comma_of-returns-clause-taken
expressions::comma_of-returns-clause-taken t c =
    (comma_past_done _ _ _ c.args.items.now c.loop-item.item-index _ _
    (omega arith) c.loop-item.invariant.rest).0

pub expressions::comma_of-returns-clause-made :
    goal.expressions::comma_of-returns-clause-made
expressions::comma_of-returns-clause-made t c =
    rw c.in_ok-value.ensures ((comma_past_done _ _ _ c.args.items.now c.loop-item.item-index _ _
    (omega arith) c.loop-item.invariant.rest).1)

pub expressions::placed-returns-in_ok-place-in-Postfix-clause-taken :
    goal.expressions::placed-returns-in_ok-place-in-Postfix-clause-taken
expressions::placed-returns-in_ok-place-in-Postfix-clause-taken t c =
    c.in_ok-place-in-Postfix.ensures.taken ∙ ap (λ x.
    (placed c.args.origin c.args.fixes x (so_far c.args.cells.now)).taken)
    (placed_all _ _ _ _ _ _ c.in-Postfix.is c.len-count.ensures)

pub expressions::placed-returns-in_ok-place-in-Postfix-clause-made :
    goal.expressions::placed-returns-in_ok-place-in-Postfix-clause-made
expressions::placed-returns-in_ok-place-in-Postfix-clause-made t c =
    c.in_ok-place-in-Postfix.ensures.made ∙ ap (λ x.
    (placed c.args.origin c.args.fixes x (so_far c.args.cells.now)).made)
    (placed_all _ _ _ _ _ _ c.in-Postfix.is c.len-count.ensures)

pub expressions::front_placed-returns-clause-taken :
    goal.expressions::front_placed-returns-clause-taken
expressions::front_placed-returns-clause-taken t c =
    let k : suffix_count (out-TypedExpression c.args.e.now) ≡ length c.as_slice-all.result.now =
    suffixes_counted _ _ _ _ _ c.in-Postfix.is c.as_slice-all.ensures in
    subst (λ (x : Target). OnOk c.suffix_placed.result
    (so_far c.suffix_placed.new.cells
    ≡ (placed c.args.origin c.args.fixes x (so_far c.args.cells.now)).taken))
    (target_by _ _ _ _ _ c.as_slice-all.result.now _ c.args.count (c.args.count - 1) _ _
    c.in-Postfix.is c.get-first.ensures c.as_slice-all.ensures (omega arith) (omega arith)
    c.index-all-last.is
    (c.front_names-names.ensures _ c.args.frames.now c.as_slice-all.result.now
    (omega arith))) c.suffix_placed.ensures.taken

pub expressions::front_placed-returns-clause-made :
    goal.expressions::front_placed-returns-clause-made
expressions::front_placed-returns-clause-made t c =
    let k : suffix_count (out-TypedExpression c.args.e.now) ≡ length c.as_slice-all.result.now =
    suffixes_counted _ _ _ _ _ c.in-Postfix.is c.as_slice-all.ensures in
    subst (λ (x : Target). IfOk c.suffix_placed.result
    (λ place. place ≡ (placed c.args.origin c.args.fixes x (so_far c.args.cells.now)).made))
    (target_by _ _ _ _ _ c.as_slice-all.result.now _ c.args.count (c.args.count - 1) _ _
    c.in-Postfix.is c.get-first.ensures c.as_slice-all.ensures (omega arith) (omega arith)
    c.index-all-last.is
    (c.front_names-names.ensures _ c.args.frames.now c.as_slice-all.result.now
    (omega arith))) c.suffix_placed.ensures.made

pub expressions::postfix_of-returns-in_ok-v-in-Index-clause-taken :
    goal.expressions::postfix_of-returns-in_ok-v-in-Index-clause-taken
expressions::postfix_of-returns-in_ok-v-in-Index-clause-taken t c =
    let front = suffixed_by c.in-Postfix.origin c.args.frames.now c.get-first.result.now
    (take (length c.as_slice-all.result.now - 1) c.as_slice-all.result.now) in
    let r = rows_of_last c.args.frames.now c.args.e.now _ _ _ c.as_slice-all.result.now _
    (length c.as_slice-all.result.now - 1) _ c.in-Postfix.is
    c.get-first.ensures c.as_slice-all.ensures (omega arith) c.index-all-last.is in
    let n = c.front_names-names.ensures c.in-Postfix.origin c.args.frames.now
    c.as_slice-all.result.now (omega arith) in
    c.in_ok-v-in-Index.ensures.taken ∙ ap (λ m. m.taken)
    (of_Index _ _ _ _ front _ _ _ _ _ _ _ _ r c.in-Index.is n c.in_ok-i-in-Index.ensures.taken
    c.in_ok-i-in-Index.ensures.made
    ∙ sym (postfix_is _ _ _ _ _ _ _ c.in-Postfix.is))

pub expressions::postfix_of-returns-in_ok-v-in-Call-clause-taken :
    goal.expressions::postfix_of-returns-in_ok-v-in-Call-clause-taken
expressions::postfix_of-returns-in_ok-v-in-Call-clause-taken t c =
    let front = suffixed_by c.in-Postfix.origin c.args.frames.now c.get-first.result.now
    (take (length c.as_slice-all.result.now - 1) c.as_slice-all.result.now) in
    let r = rows_of_last c.args.frames.now c.args.e.now _ _ _ c.as_slice-all.result.now _
    (length c.as_slice-all.result.now - 1) _ c.in-Postfix.is
    c.get-first.ensures c.as_slice-all.ensures (omega arith) c.index-all-last.is in
    let n = c.front_names-names.ensures c.in-Postfix.origin c.args.frames.now
    c.as_slice-all.result.now (omega arith) in
    c.in_ok-v-in-Call.ensures.taken ∙ ap (λ m. m.taken)
    (of_Call _ _ _ _ front _ _ _ _ _ _ _ r c.in-Call.is n c.as_slice.ensures
    ∙ sym (postfix_is _ _ _ _ _ _ _ c.in-Postfix.is))

pub expressions::postfix_of-returns-in_ok-v-in-Skipped-clause-taken :
    goal.expressions::postfix_of-returns-in_ok-v-in-Skipped-clause-taken
expressions::postfix_of-returns-in_ok-v-in-Skipped-clause-taken t c =
    let front = suffixed_by c.in-Postfix.origin c.args.frames.now c.get-first.result.now
    (take (length c.as_slice-all.result.now - 1) c.as_slice-all.result.now) in
    let r = rows_of_last c.args.frames.now c.args.e.now _ _ _ c.as_slice-all.result.now _
    (length c.as_slice-all.result.now - 1) _ c.in-Postfix.is
    c.get-first.ensures c.as_slice-all.ensures (omega arith) c.index-all-last.is in
    let n = c.front_names-names.ensures c.in-Postfix.origin c.args.frames.now
    c.as_slice-all.result.now (omega arith) in
    c.in_ok-v-in-Skipped.ensures.taken ∙ ap (λ m. m.taken)
    (of_Skipped _ _ _ _ front _ _ _ _ _ r c.in-Skipped.is n
    ∙ sym (postfix_is _ _ _ _ _ _ _ c.in-Postfix.is))

pub expressions::postfix_of-returns-in_ok-v-in-Step-clause-taken :
    goal.expressions::postfix_of-returns-in_ok-v-in-Step-clause-taken
expressions::postfix_of-returns-in_ok-v-in-Step-clause-taken t c =
    c.in_ok-v-in-Step.ensures.taken ∙ ap (λ m. m.taken)
    (of_Step _ _ _ _ _ _ c.as_slice-all.result.now _ (length c.as_slice-all.result.now - 1) _ _ _ _
    _ _ _ c.in-Postfix.is c.get-first.ensures c.as_slice-all.ensures (omega arith)
    c.index-all-last.is c.in-Step.is c.in_ok-place-in-Step.ensures.taken
    c.in_ok-place-in-Step.ensures.made
    ∙ sym (postfix_is _ _ _ _ _ _ _ c.in-Postfix.is))

pub expressions::postfix_of-returns-in_ok-v-in-Index-clause-made :
    goal.expressions::postfix_of-returns-in_ok-v-in-Index-clause-made
expressions::postfix_of-returns-in_ok-v-in-Index-clause-made t c =
    let front = suffixed_by c.in-Postfix.origin c.args.frames.now c.get-first.result.now
    (take (length c.as_slice-all.result.now - 1) c.as_slice-all.result.now) in
    let r = rows_of_last c.args.frames.now c.args.e.now _ _ _ c.as_slice-all.result.now _
    (length c.as_slice-all.result.now - 1) _ c.in-Postfix.is
    c.get-first.ensures c.as_slice-all.ensures (omega arith) c.index-all-last.is in
    let n = c.front_names-names.ensures c.in-Postfix.origin c.args.frames.now
    c.as_slice-all.result.now (omega arith) in
    c.in_ok-v-in-Index.ensures.made ∙ ap (λ m. m.made)
    (of_Index _ _ _ _ front _ _ _ _ _ _ _ _ r c.in-Index.is n c.in_ok-i-in-Index.ensures.taken
    c.in_ok-i-in-Index.ensures.made
    ∙ sym (postfix_is _ _ _ _ _ _ _ c.in-Postfix.is))

pub expressions::postfix_of-returns-in_ok-v-in-Call-clause-made :
    goal.expressions::postfix_of-returns-in_ok-v-in-Call-clause-made
expressions::postfix_of-returns-in_ok-v-in-Call-clause-made t c =
    let front = suffixed_by c.in-Postfix.origin c.args.frames.now c.get-first.result.now
    (take (length c.as_slice-all.result.now - 1) c.as_slice-all.result.now) in
    let r = rows_of_last c.args.frames.now c.args.e.now _ _ _ c.as_slice-all.result.now _
    (length c.as_slice-all.result.now - 1) _ c.in-Postfix.is
    c.get-first.ensures c.as_slice-all.ensures (omega arith) c.index-all-last.is in
    let n = c.front_names-names.ensures c.in-Postfix.origin c.args.frames.now
    c.as_slice-all.result.now (omega arith) in
    c.in_ok-v-in-Call.ensures.made ∙ ap (λ m. m.made)
    (of_Call _ _ _ _ front _ _ _ _ _ _ _ r c.in-Call.is n c.as_slice.ensures
    ∙ sym (postfix_is _ _ _ _ _ _ _ c.in-Postfix.is))

pub expressions::postfix_of-returns-in_ok-v-in-Skipped-clause-made :
    goal.expressions::postfix_of-returns-in_ok-v-in-Skipped-clause-made
expressions::postfix_of-returns-in_ok-v-in-Skipped-clause-made t c =
    let front = suffixed_by c.in-Postfix.origin c.args.frames.now c.get-first.result.now
    (take (length c.as_slice-all.result.now - 1) c.as_slice-all.result.now) in
    let r = rows_of_last c.args.frames.now c.args.e.now _ _ _ c.as_slice-all.result.now _
    (length c.as_slice-all.result.now - 1) _ c.in-Postfix.is
    c.get-first.ensures c.as_slice-all.ensures (omega arith) c.index-all-last.is in
    let n = c.front_names-names.ensures c.in-Postfix.origin c.args.frames.now
    c.as_slice-all.result.now (omega arith) in
    c.in_ok-v-in-Skipped.ensures.made ∙ ap (λ m. m.made)
    (of_Skipped _ _ _ _ front _ _ _ _ _ r c.in-Skipped.is n
    ∙ sym (postfix_is _ _ _ _ _ _ _ c.in-Postfix.is))

pub expressions::postfix_of-returns-in_ok-v-in-Step-clause-made :
    goal.expressions::postfix_of-returns-in_ok-v-in-Step-clause-made
expressions::postfix_of-returns-in_ok-v-in-Step-clause-made t c =
    c.in_ok-v-in-Step.ensures.made ∙ ap (λ m. m.made)
    (of_Step _ _ _ _ _ _ c.as_slice-all.result.now _ (length c.as_slice-all.result.now - 1) _ _ _ _
    _ _ _ c.in-Postfix.is c.get-first.ensures c.as_slice-all.ensures (omega arith)
    c.index-all-last.is c.in-Step.is c.in_ok-place-in-Step.ensures.taken
    c.in_ok-place-in-Step.ensures.made
    ∙ sym (postfix_is _ _ _ _ _ _ _ c.in-Postfix.is))

pub expressions::form_lowered-returns-in-Postfix-clause-taken :
    goal.expressions::form_lowered-returns-in-Postfix-clause-taken
expressions::form_lowered-returns-in-Postfix-clause-taken t c =
    rw (postfix_is _ _ _ _ _ _ _ c.in-Postfix.is) at c.postfix_of.ensures.taken

pub expressions::form_lowered-returns-in-Postfix-clause-made :
    goal.expressions::form_lowered-returns-in-Postfix-clause-made
expressions::form_lowered-returns-in-Postfix-clause-made t c =
    rw (postfix_is _ _ _ _ _ _ _ c.in-Postfix.is) at c.postfix_of.ensures.made
