-- What facts say of the cells (this project's own). A list of known values has the value of each
-- cell where it is known.
use Rattle.std.specs.Prelude.{ℕ, ◌==◌, ℤ, if◌then◌else◌, List, [], ◌∷◌, map, Option, None, Some}
use Rattle.std.specs.List.{range_with_len}
use Rattle.cpa_facts.specs.declared.fact.Fact.{Fact}
use Rattle.cpa_facts.specs.declared.fact.Fact.TheVariants.{Equals}

-- the value that the first fact on the cell gives it
abbrev pub first_value : List Fact → ℕ → Option ℤ
first_value [] cell = None
first_value (Equals own v ∷ facts) cell = if own == cell then Some v else first_value facts cell
first_value (fact ∷ facts) cell = first_value facts cell

-- the known values of the first n cells
abbrev pub known_cells : ℕ → List Fact → List (Option ℤ)
known_cells n facts = map (first_value facts) (range_with_len 0 n)
