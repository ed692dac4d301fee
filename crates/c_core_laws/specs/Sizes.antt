-- How large core statements are: their points, and how high the highest of their expressions is
-- (this project's own).
use Rattle.std.specs.Prelude.{ℕ, ◌≤◌, max, length}
use Rattle.std.specs.List.{AllByRecursion}
use Rattle.cpa_expr.specs.declared.shape.TheConstants.{MAX_HEIGHT}
use Rattle.cpa_expr.specs.Shape.{height}
use Rattle.cpa_model.specs.declared.program.Stmt.{Stmt}
use Rattle.cpa_model.specs.declared.program.Stmt.TheVariants as stmt
use Rattle.cpa_model.specs.declared.program.Program.{Program}
use Rattle.cpa_model.specs.declared.program.TheConstants.{MAX_CELLS, MAX_POINTS}
use Rattle.cpa_model.specs.Programs.{point_count}

-- the height of the highest expression of a statement
abbrev pub stmt_height : Stmt → ℕ
stmt_height (stmt.If test first second) = height test
stmt_height (stmt.Assign base len index value) = max (height index) (height value)
stmt_height _ = 0

-- as few cells and points, and expressions as low, as a program has
pub record IsSmall (P : Program) : Type 0 where
  pub cells : length P.cells ≤ MAX_CELLS
  pub points : point_count P ≤ MAX_POINTS
  pub heights : AllByRecursion (λ s. stmt_height s ≤ MAX_HEIGHT) P.stmts
