use Rattle.std.proofs.Common.{refl}
use Rattle.std.proofs.lemmas.Bool.{false≢true}
use Rattle.cpa_model.specs.Expressions.{IsExpr}
use Rattle.cpa_report.proofs.Ranged.{one_more, item_at}
use Rattle.cpa_report.proofs.ranges.are_exprs.Goals as goal

pub returns-then-not-is_expr : goal.returns-then-not-is_expr
returns-then-not-is_expr c = (
  λ wrong. absurd (false≢true wrong),
  λ all. c.if-not-is_expr.ensures.1
      (item_at (IsExpr c.args.cells.now) c.args.preds.now c.loop-pred.pred-index
      c.pred-item.result c.loop-pred-test.true c.pred-item.is all),
)

pub loop-pred-preserved : goal.loop-pred-preserved
loop-pred-preserved c =
    one_more (IsExpr c.args.cells.now) c.args.preds.now c.loop-pred.pred-index
    c.pred-item.result c.loop-pred-test.true c.pred-item.is (c.if-not-is_expr.ensures.0 refl)
    c.loop-pred.invariant
