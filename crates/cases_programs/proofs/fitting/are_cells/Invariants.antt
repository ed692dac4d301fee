-- The cells that were looked at have the type.
use Rattle.cpa_expr.specs.Shape.{AreCells}
use Rattle.cpa_model.specs.Expressions.{types_of}
use Rattle.cases_programs.proofs.fitting.are_cells.Given as goal

abbrev pub invariant-loop-i : goal.invariant-loop-i
invariant-loop-i l = AreCells (types_of l.cells) l.base l.i l.ty
