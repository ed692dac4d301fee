-- Expressions over the cells of a program (C11 6.5).
use Rattle.std.specs.Prelude.{List, map}
use Rattle.cpa_ints.specs.declared.integers.IntType.{IntType}
use Rattle.cpa_expr.specs.declared.tree.Expr.{Expr}
use Rattle.cpa_expr.specs.Shape as shape
use Rattle.cpa_model.specs.declared.program.Cell.{Cell}

-- the types of the cells
abbrev pub types_of : List Cell → List IntType
types_of = map (λ cell. cell.ty)

-- well typed over the cells, and of a height of at most 500
abbrev pub IsExpr : List Cell → Expr → Type 0
IsExpr cells e = shape.IsExpr (types_of cells) e
