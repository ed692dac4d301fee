use Rattle.std.proofs.Common.{take}
use Rattle.std.specs.List.{AllByRecursion}
use Rattle.cpa_model.specs.Expressions.{IsExpr}
use Rattle.cpa_report.proofs.ranges.are_exprs.Given as goal

abbrev pub invariant-loop-pred : goal.invariant-loop-pred
invariant-loop-pred l = AllByRecursion (IsExpr l.cells) (take l.pred-index l.preds)
