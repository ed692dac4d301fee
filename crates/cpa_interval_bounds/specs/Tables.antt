-- The bounds of each cell as those of some cells, from the last of these to the first: the others
-- have all numbers of their types (this project's own).
use Rattle.std.specs.Prelude.{ℕ, suc, ◌==◌, nat_lt, Bool, true, false, ◌&&◌, if◌then◌else◌, List}
use Rattle.std.specs.Prelude.{[], ◌∷◌, map, Option, None, Some, option_map, slice_get, slice_set}
use Rattle.cpa_model.specs.declared.program.Cell.{Cell}
use Rattle.cpa_interval_bounds.specs.declared.bounds.Bounds.{Bounds}
use Rattle.cpa_interval_bounds.specs.declared.table.CellBounds.{CellBounds}
use Rattle.cpa_interval_bounds.specs.Bounds.{range_of}

-- the cells, and the bounds of each
pub record Bounded : Type 0 where
  pub cells : List Cell
  pub each : List Bounds

-- all numbers of the type of each cell
abbrev pub ranges_of : List Cell → List Bounds
ranges_of = map (λ c. range_of c.ty)

-- the bounds of each cell where those of some are known
abbrev pub known_bounds : List Cell → List CellBounds → List Bounds
known_bounds cells [] = ranges_of cells
known_bounds cells (k ∷ ks) = slice_set (known_bounds cells ks) k.cell k.own

-- each cell lies below n and above those behind it
abbrev pub are_descending : ℕ → List CellBounds → Bool
are_descending n [] = true
are_descending n (k ∷ ks) = nat_lt k.cell n && are_descending k.cell ks

-- a cell that lies above the other one
abbrev pub is_above : ℕ → Option CellBounds → Bool
is_above cell None = false
is_above cell (Some k) = nat_lt cell k.cell

-- that is the cell
abbrev pub is_of : ℕ → Option CellBounds → Bool
is_of cell None = false
is_of cell (Some k) = k.cell == cell

-- how many cells lie above this one, until one does not
abbrev pub place_in : ℕ → List CellBounds → ℕ
place_in cell [] = 0
place_in cell (k ∷ ks) = if nat_lt cell k.cell then suc (place_in cell ks) else 0

-- the bounds, if they are those of the cell
abbrev pub own_at : ℕ → Option CellBounds → Option Bounds
own_at cell None = None
own_at cell (Some k) = if k.cell == cell then Some k.own else None

-- the bounds that are known of the cell
abbrev pub own_in : ℕ → List CellBounds → Option Bounds
own_in cell ks = own_at cell (slice_get ks (place_in cell ks))

-- these, or else all numbers of the type
abbrev pub or_range : Option Bounds → Option Cell → Option Bounds
or_range (Some b) c = Some b
or_range None c = option_map (λ x. range_of x.ty) c
