-- Stores keep a value in range for each cell.
use Rattle.std.proofs.Common.{◌≡◌, ℕ, zero, suc, ℤ, List, [], ◌∷◌, Some, IfSome, IsSomeAnd}
use Rattle.std.proofs.Common.{slice_get, slice_set, map, subst, sym}
use Rattle.std.specs.List.{AllByRecursion}
use Rattle.cpa_ints.specs.declared.integers.IntType.{IntType}
use Rattle.cpa_ints.specs.Integers.{IsInRange}
use Rattle.cpa_expr.specs.declared.tree.Expr.{Expr}
use Rattle.cpa_expr.specs.Shape.{type_of}
use Rattle.cpa_expr.specs.Values.{value_of}
use Rattle.cpa_expr.specs.Cells.{AreValues}
use Rattle.cpa_expr.specs.lemmas.ValueRanges.{value_in_range}
use Rattle.cpa_model.specs.declared.program.Cell.{Cell}
use Rattle.cpa_model.specs.Expressions.{types_of, IsExpr}

-- the value of an expression is of its type
pub expr_in_range : (cells : List Cell) (values : List ℤ) (e : Expr) (v : ℤ)
    → AreValues (types_of cells) values → IsExpr cells e → value_of e values ≡ Some v
    → IsInRange (type_of e) v
expr_in_range cells values e v are is at =
    subst (λ o. IfSome o (IsInRange (type_of e))) at
    (value_in_range (types_of cells) e values is.typed are)

-- a value of its cell's type may be written
pub AreValues-set : (types : List IntType) (values : List ℤ) (k : ℕ) (v : ℤ)
    → AreValues types values → IsSomeAnd (slice_get types k) (λ t. IsInRange t v)
    → AreValues types (slice_set values k v)
AreValues-set [] values k v are here = absurd here
AreValues-set (t ∷ types) [] k v are here = absurd are
AreValues-set (t ∷ types) (w ∷ values) zero v are here = (here, are.1)
AreValues-set (t ∷ types) (w ∷ values) (suc k) v are here =
    (are.0, AreValues-set types values k v are.1 here)

-- a value of a cell's type, by the types of the cells
pub by_types : (cells : List Cell) (k : ℕ) (v : ℤ)
    → IsSomeAnd (slice_get cells k) (λ cell. IsInRange cell.ty v)
    → IsSomeAnd (slice_get (types_of cells) k) (λ t. IsInRange t v)
by_types [] k v here = absurd here
by_types (cell ∷ cells) zero v here = here
by_types (cell ∷ cells) (suc k) v here = by_types cells k v here

pub by_type : (types : List IntType) (k : ℕ) (t : IntType) (v : ℤ) → slice_get types k ≡ Some t
    → IsInRange t v → IsSomeAnd (slice_get types k) (λ u. IsInRange u v)
by_type types k t v at within = subst (λ o. IsSomeAnd o (λ u. IsInRange u v)) (sym at) within

-- the starts of the cells are values
pub AreValues-start : (cells : List Cell)
    → AllByRecursion (λ cell. IsInRange cell.ty cell.start) cells
    → AreValues (types_of cells) (map (λ cell. cell.start) cells)
AreValues-start [] within = tt
AreValues-start (cell ∷ cells) within = (within.0, AreValues-start cells within.1)
