-- A table of bounds that is filled cell by cell (this project's own).
use Rattle.std.specs.Prelude.{◌≡◌, ℕ, ◌==◌, ◌||◌, Bool, false, List, [], ◌∷◌, length, slice_get}
use Rattle.cpa_interval_bounds.specs.declared.bounds.Bounds.{Bounds}
use Rattle.cpa_interval_bounds.specs.declared.table.CellBounds.{CellBounds}

-- the cell is one of these
abbrev pub is_listed : ℕ → List CellBounds → Bool
is_listed cell [] = false
is_listed cell (k ∷ ks) = (k.cell == cell) || is_listed cell ks

-- each cell has its bounds, but for those that are left
pub record IsRightBut (left : ℕ → Bool) (whole bs : List Bounds) : Type 0 where
  pub long : length bs ≡ length whole
  pub right : (cell : ℕ) → left cell ≡ false → slice_get bs cell ≡ slice_get whole cell
