-- The scalar that an expression reads, plainly or under a conversion (this project's own).
use Rattle.std.specs.Prelude.{int_le, Bool, ◌&&◌, if◌then◌else◌, Option, None, Some}
use Rattle.cpa_ints.specs.declared.integers.IntType.{IntType}
use Rattle.cpa_ints.specs.Integers.{least, greatest}
use Rattle.cpa_expr.specs.declared.tree.Expr.{Expr, out-Expr}
use Rattle.cpa_expr.specs.declared.tree.Expr.TheOpen.{Expr-F}
use Rattle.cpa_folds.specs.declared.scalars.Scalar.{Scalar}
use Rattle.cpa_folds.specs.Carried.{is_scalar}

-- the scalar that the node reads, with its type
abbrev pub scalar_of : Expr-F Expr → Option Scalar
scalar_of (Expr-F.Read t base len index) =
    if is_scalar len index then Some (record { cell = base; ty = t }) else None
scalar_of node = None

-- the first type holds all values of the second
abbrev pub holds_type : IntType → IntType → Bool
holds_type t u = int_le (least t) (least u) && int_le (greatest u) (greatest t)

-- the scalar, where the type holds all its values
abbrev pub held : IntType → Option Scalar → Option Scalar
held t None = None
held t (Some read) = if holds_type t read.ty then Some read else None

-- the scalar whose value the expression has: it reads it, or converts it once to a type that holds
-- all its values
abbrev pub read_of : Expr-F Expr → Option Scalar
read_of (Expr-F.Cast t arg) = held t (scalar_of (out-Expr arg))
read_of node = scalar_of node
