-- The cells that an expression reads, and what it becomes where one of them is replaced (this
-- project's own).
use Rattle.std.specs.Prelude.{◌≡◌, ℕ, ◌+◌, ℤ, pos, nat_le, nat_lt, ◌==◌, Bool, false, IsTrue, ◌&&◌}
use Rattle.std.specs.Prelude.{◌||◌, if◌then◌else◌, List, slice_get}
use Rattle.std.specs.List.{AllZip, list_any}
use Rattle.std.specs.Ordering.{int_eq}
use Rattle.cpa_ints.specs.declared.integers.IntType.{IntType}
use Rattle.cpa_ints.specs.declared.integers.IntType.TheVariants as ty
use Rattle.cpa_ints.specs.Integers.{IsInRange}
use Rattle.cpa_expr.specs.Shape.{parts}
use Rattle.cpa_expr.specs.declared.tree.Expr.{Expr, out-Expr, roll-Expr}
use Rattle.cpa_expr.specs.declared.tree.Expr.TheVariants.{Const, Read}
use Rattle.cpa_expr.specs.declared.tree.Expr.TheOpen.{Expr-F}
use Rattle.cpa_expr.specs.declared.tree.Expr.TheFolds.{fold-Expr, map-Expr, every-Expr}

-- the cell is one of len cells from base on
abbrev pub is_within : ℕ → ℕ → ℕ → Bool
is_within base len cell = nat_le base cell && nat_lt cell (base + len)

-- the node itself reads the cell, as a scalar or in an array
abbrev pub reads_here : {A : Type 0} → ℕ → Expr-F A → Bool
reads_here cell (Expr-F.Read t base len index) = is_within base len cell
reads_here cell _ = false

-- a node, with whether each part may read the cell in its place
abbrev pub reads_step : ℕ → Expr-F Bool → Bool
reads_step cell node = reads_here cell node || list_any (λ reads. reads) (parts node)

-- whether some part of the expression, evaluated or not, may read the cell
abbrev pub may_read : Expr → ℕ → Bool
may_read e cell = fold-Expr Bool (reads_step cell) e

-- the two stores have the same at each cell that the expression may read
abbrev pub AgreesWhereRead : Expr → List ℤ → List ℤ → Type 0
AgreesWhereRead e values others =
    (cell : ℕ) → IsTrue (may_read e cell) → slice_get values cell ≡ slice_get others cell

-- a value in range for each cell
abbrev pub AreValues : List IntType → List ℤ → Type 0
AreValues = AllZip IsInRange

-- the read of a scalar: of an array of the one cell, at the index 0 of type int. `a[0]` of an array
-- of length 1 is one, and an index of another type makes none
abbrev pub scalar_read : IntType → ℕ → Expr
scalar_read t cell = Read t cell 1 (Const ty.I32 (pos 0))

-- the number 0 of type int
abbrev pub is_zero : {A : Type 0} → Expr-F A → Bool
is_zero (Expr-F.Const ty.I32 n) = int_eq n (pos 0)
is_zero _ = false

-- the node reads the cell as a scalar: as the one cell at index 0
abbrev pub is_scalar_read : ℕ → Expr-F Expr → Bool
is_scalar_read cell (Expr-F.Read t base len index) =
    base == cell && len == 1 && is_zero (out-Expr index)
is_scalar_read cell _ = false

-- an expression, and what it becomes
pub record Replacement : Type 0 where
  pub before : Expr
  pub after : Expr

-- a node, with each part and what it becomes in its place
abbrev pub replace_step : ℕ → Expr → Expr-F Replacement → Replacement
replace_step cell by node =
    let whole = map-Expr Replacement Expr (λ part. part.before) node in
    record {
      before = roll-Expr whole;
      after = if is_scalar_read cell whole then by
          else roll-Expr (map-Expr Replacement Expr (λ part. part.after) node);
    }

-- the expression with `by` in place of each scalar read of the cell; reads of arrays stay, but for
-- their indices
abbrev pub replaced : Expr → ℕ → Expr → Expr
replaced e cell by = (fold-Expr Replacement (replace_step cell by) e).after

-- the node with f of each part in the part's place
abbrev pub with_parts : (Expr → Expr) → Expr → Expr
with_parts f e = roll-Expr (map-Expr Expr Expr f (out-Expr e))

-- every read of the cell is a scalar one
abbrev pub ReadsAsScalar : ℕ → Expr → Type 0
ReadsAsScalar cell =
    every-Expr (λ node. IsTrue (reads_here cell node) → IsTrue (is_scalar_read cell node))
