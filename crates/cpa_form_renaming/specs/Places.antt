-- Where the cells of a program stand among other cells (this project's own).
use Rattle.std.specs.Prelude.{◌≡◌, ℕ, zero, suc, ◌+◌, ◌<◌, ◌==◌, ◌&&◌, Bool, true, List, length}
use Rattle.std.specs.Prelude.{Option, None, Some, slice_get}
use Rattle.cpa_form_renaming.specs.declared.places.Place.{Place}

-- the number of a place, where there is one
abbrev pub number_of : Option Place → ℕ
number_of None = 0
number_of (Some place) = place.number

-- the number of the cell's place; 0 of a cell that is not there
abbrev pub number_at : List Place → ℕ → ℕ
number_at places cell = number_of (slice_get places cell)

-- each of len cells from base on stands as far behind the first one as it is behind it
abbrev pub stand_together : List Place → ℕ → ℕ → Bool
stand_together places base zero = true
stand_together places base (suc i) =
    stand_together places base i && (number_at places (base + i) == number_at places base + i)

-- the list has at each cell's place what the other list has at the cell: where these are values, it
-- has the cells' values at their places; where they are types, it has their types there
pub record Shows {A : Type 0} (places : List Place) (list others : List A) : Type 0 where
  pub long : length others ≡ length places
  pub at : (cell : ℕ) → cell < length places
      → slice_get list (number_at places cell) ≡ slice_get others cell
