-- The cells that were looked at have the type.
use Rattle.std.proofs.Common.{map}
use Rattle.cpa_expr.specs.Shape.{AreCells}
use Rattle.cpa_expr.proofs.typing.are_cells.Given as goal

abbrev pub invariant-loop-i : goal.invariant-loop-i
invariant-loop-i g l = AreCells (map g.C.Typed.ty l.cells) l.base l.i l.ty
