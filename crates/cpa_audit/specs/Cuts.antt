-- The parts of a parallel phase, and where the lines of a log are cut into their runs (this
-- project's own).
use Rattle.std.specs.Prelude.{◌≡◌, ℕ, ◌*◌, ◌/◌, ◌+◌, ◌≤◌, List, length}
use Rattle.std.specs.List.{AllByRecursion}

-- The number of the line with which a part begins, of so many lines and workers. The part behind
-- the last one begins at the end.
abbrev pub cut : ℕ → ℕ → ℕ → ℕ
cut lines workers part = part * lines / workers

-- tables for formulas over so many variables, one for each part from this one on
pub record AreParts (workers first vars : ℕ) (tables : List ℕ) : Type 0 where
  pub within : first + length tables ≤ workers
  pub fit : AllByRecursion (λ table. table ≡ vars) tables
