-- Which cells the edges and elements of a part of a path read and write (this project's own).
use Rattle.std.specs.Prelude.{ℕ, ◌⊎◌, ⊤, List, [], ◌∷◌}
use Rattle.cpa_form_rules.specs.Runs.{Added, taken, holding, failing}
use Rattle.cpa_form_rules.specs.Reading.{AddedReads}
use Rattle.cpa_interpolant_rules.specs.Stores.{ActWrites}

-- an edge is taken, or an element holds
abbrev pub IsGone : Added → Type 0
IsGone (taken act) = ⊤
IsGone (holding elem) = ⊤
IsGone (failing elems) = ⊥

-- an edge writes the cell
abbrev pub AddedWrites : Added → ℕ → Type 0
AddedWrites (taken a) cell = ActWrites a cell
AddedWrites _ cell = ⊥

-- the cell is read or written
abbrev pub AddedTouches : Added → ℕ → Type 0
AddedTouches one cell = AddedReads one cell ⊎ AddedWrites one cell

abbrev pub SomeAddedReads : List Added → ℕ → Type 0
SomeAddedReads [] cell = ⊥
SomeAddedReads (one ∷ added) cell = AddedReads one cell ⊎ SomeAddedReads added cell

abbrev pub SomeAddedTouches : List Added → ℕ → Type 0
SomeAddedTouches [] cell = ⊥
SomeAddedTouches (one ∷ added) cell = AddedTouches one cell ⊎ SomeAddedTouches added cell
