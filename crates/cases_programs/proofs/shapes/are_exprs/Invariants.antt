-- The expressions so far are well typed.
use Rattle.std.proofs.Common.{take}
use Rattle.std.specs.List.{AllByRecursion}
use Rattle.cpa_model.specs.Expressions.{IsExpr}
use Rattle.cases_programs.proofs.shapes.are_exprs.Given as goal

abbrev pub invariant-loop-expr : goal.invariant-loop-expr
invariant-loop-expr l = AllByRecursion (IsExpr l.cells) (take l.expr-index l.exprs)
