use Rattle.std.proofs.Common.{ℕ, Bool, List, ◌∙◌, ◌||◌, ◌&&◌, not, ap, length, drop}
use Rattle.std.specs.Prelude.{nat_lt}
use Rattle.std.specs.List.{list_any}
use Rattle.cpa_expr.specs.declared.tree.Expr.{Expr}
use Rattle.cpa_expr.specs.Cells.{may_read}
use Rattle.cpa_query.specs.Queries.{is_marked}
use Rattle.cpa_reached.specs.Members.{is_in}
use Rattle.cpa_engine_rounds.proofs.Newly.{newly}
use Rattle.cpa_engine_rounds.proofs.pivots.mark_newly.Goals as goal

pub returns-clause-marks : goal.returns-clause-marks
returns-clause-marks c = λ cell.
    let p = c.args.before.now in
    let q = c.args.after.now in
    let old = c.args.marks.now in
    let mid = c.mark_all_unless.new.marks in
    let less = nat_lt cell (length old) in
    newly (is_marked old cell) (is_in cell q.tracked)
    (list_any (λ e. may_read e cell) (drop (length p.preds) q.preds)) (is_in cell p.tracked) less
    (is_marked c.deref.result.now cell) (is_marked mid cell)
    (is_marked c.mark_preds.new.marks cell)
    (ap (λ (ms : List Bool). is_marked ms cell) c.deref.ensures.value
    ∙ c.in_ok-known.ensures.marks cell)
    (c.mark_all_unless.ensures.marks cell
    ∙ ap (λ (cells : List ℕ). is_marked old cell
    || ((is_in cell cells && not (is_marked c.deref.result.now cell)) && less)) c.as_slice.ensures)
    (c.mark_preds.ensures.marks cell
    ∙ ap (λ (n : ℕ). is_marked mid cell || (list_any (λ e. may_read e cell) c.behind.result.now
    && nat_lt cell n)) c.mark_all_unless.ensures.length
    ∙ ap (λ (es : List Expr). is_marked mid cell || (list_any (λ e. may_read e cell) es && less))
    (c.behind.ensures ∙ ap (λ (es : List Expr). drop c.len.result es) c.as_slice-2.ensures
    ∙ ap (λ (n : ℕ). drop n q.preds) c.len.ensures))
