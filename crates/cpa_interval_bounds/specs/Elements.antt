-- Which elements of an array an index within bounds may name (C11 6.5.2.1; an index outside traps).
use Rattle.std.specs.Prelude.{ℕ, zero, suc, ◌+◌, pos, ◌-ℤ◌, unsigned_abs, List, Option, None}
use Rattle.std.specs.Prelude.{slice_get, option_map, option_and_then}
use Rattle.cpa_interval_bounds.specs.declared.bounds.Bounds.{Bounds}
use Rattle.cpa_interval_bounds.specs.declared.elements.Places.{Places}
use Rattle.cpa_interval_bounds.specs.Bounds.{bounds, meet, hull_where_some}

-- the places from 0 to the length less 1
abbrev pub places_of : ℕ → Bounds
places_of len = bounds (pos 0) (pos len -ℤ pos 1)

-- the cells of these places, of len cells from base on
abbrev pub cells_at : ℕ → Bounds → Places
cells_at base inside = record {
  first = base + unsigned_abs inside.lo;
  count = unsigned_abs (inside.hi -ℤ inside.lo) + 1;
}

-- the cells that the index may name, where there are any
abbrev pub named : ℕ → ℕ → Bounds → Option Places
named base len index = option_map (cells_at base) (meet index (places_of len))

-- the hull of the bounds of so many cells, as far as they are there
abbrev pub hull_from : List Bounds → ℕ → ℕ → Option Bounds
hull_from cells first zero = None
hull_from cells first (suc n) =
    hull_where_some (hull_from cells first n) (slice_get cells (first + n))

-- the hull of the elements that the index may name
abbrev pub read_bounds : List Bounds → ℕ → ℕ → Bounds → Option Bounds
read_bounds cells base len index =
    option_and_then (λ p. hull_from cells p.first p.count) (named base len index)
