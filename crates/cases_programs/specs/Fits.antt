-- A program of rows, with its tables: where each statement's tree ends, in which function it
-- stands, and how deep the calls of a function go (this project's own).
use Rattle.std.specs.Prelude.{◌≡◌, ℕ, ◌+◌, ◌<◌, ◌≤◌, List, length, slice_get, Option, Some, None}
use Rattle.std.specs.List.{AllByRecursion}
use Rattle.cpa_ints.specs.Integers.{IsInRange}
use Rattle.cpa_model.specs.declared.program.Stmt.{Stmt}
use Rattle.cpa_model.specs.declared.program.TheConstants.{MAX_CELLS, MAX_POINTS}
use Rattle.cpa_model.specs.Programs.{Tiles, parts_of, point_count}
use Rattle.cases_programs.specs.Samples.{Each, IsGood}
use Rattle.cases_programs.specs.declared.table.Table.{Table}

abbrev pub number_or_0 : Option ℕ → ℕ
number_or_0 None = 0
number_or_0 (Some n) = n

-- the number that a table has for this one
abbrev pub entry_of : List ℕ → ℕ → ℕ
entry_of ns n = number_or_0 (slice_get ns n)

-- The tables are right of a statement.
pub record FitsStmt (t : Table) (n : ℕ) (s : Stmt) : Type 0 where
  pub parts : (end : ℕ) × (slice_get t.ends n ≡ Some end) × Tiles t.ends (n + 1) (parts_of s) end
  pub owns : AllByRecursion (λ c. entry_of t.owners c ≡ entry_of t.owners n) (parts_of s)
  pub good : IsGood t.program (entry_of t.owners) (entry_of t.levels) n s

-- The tables are right, and the program is small.
pub record FitsTable (t : Table) : Type 0 where
  pub each : length t.ends ≡ length t.program.stmts
  pub trees : Tiles t.ends 0 t.program.bodies (length t.program.stmts)
  pub stmts : Each (FitsStmt t) 0 t.program.stmts
  pub bodies : Each (λ f n. entry_of t.owners n ≡ f) 0 t.program.bodies
  pub starts : AllByRecursion (λ cell. IsInRange cell.ty cell.start) t.program.cells
  pub few_cells : length t.program.cells ≤ MAX_CELLS
  pub few_points : point_count t.program ≤ MAX_POINTS
  pub main : t.program.main < length t.program.bodies
