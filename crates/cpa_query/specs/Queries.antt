-- Queries, and their models: stores on which the wanted expressions evaluate without a trap and
-- have their wanted truth (this project's own; values by C11 6.5).
use Rattle.std.specs.Prelude.{ℕ, ℤ, ◌≤◌, Bool, false, List, length, map}
use Rattle.std.specs.List.{AllByRecursion, list_any, range_with_len, slice_index_or}
use Rattle.cpa_ints.specs.declared.integers.IntType.{IntType}
use Rattle.cpa_expr.specs.declared.tree.Expr.{Expr}
use Rattle.cpa_expr.specs.Shape.{height, IsTyped}
use Rattle.cpa_expr.specs.Values.{HasTruth}
use Rattle.cpa_expr.specs.Cells.{may_read, AreValues}
use Rattle.cpa_query.specs.declared.query.TheConstants.{MAX_HEIGHT}
use Rattle.cpa_query.specs.declared.query.Query.{Query}

-- an expression that may be wanted over cells of these types
pub record IsAsked (cells : List IntType) (e : Expr) : Type 0 where
  pub typed : IsTyped cells e
  pub height : height e ≤ MAX_HEIGHT

-- every wanted expression is well typed over the cells, and not too high
abbrev pub IsQuery : Query → Type 0
IsQuery q = AllByRecursion (λ wanted. IsAsked q.cells wanted.0) q.wanted

-- a value in range for each cell, on which each wanted expression has its wanted truth
pub record IsModel (q : Query) (values : List ℤ) : Type 0 where
  pub values_are : AreValues q.cells values
  pub wanted : AllByRecursion (λ wanted. HasTruth values wanted.0 wanted.1) q.wanted

-- some of these expressions, evaluated or not, may read the cell
abbrev pub wanted_reads : List (Expr × Bool) → ℕ → Bool
wanted_reads wanted cell = list_any (λ one. may_read one.0 cell) wanted

-- for each cell whether some wanted expression may read it
abbrev pub reads : Query → List Bool
reads q = map (wanted_reads q.wanted) (range_with_len 0 (length q.cells))

-- the mark of a cell; a cell that is not there is not marked
abbrev pub is_marked : List Bool → ℕ → Bool
is_marked marks cell = slice_index_or marks cell false
