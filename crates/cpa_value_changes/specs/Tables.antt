-- Facts that say values of cells in the order of the cells, and a change of the values of some
-- (this project's own).
use Rattle.std.specs.Prelude.{ℕ, zero, suc, ◌+◌, ◌==◌, ℤ, nat_le, nat_lt, Bool, true, false, ◌&&◌}
use Rattle.std.specs.Prelude.{if◌then◌else◌, List, [], ◌∷◌, Option, None, Some, slice_set}
use Rattle.cpa_facts.specs.declared.fact.Fact.{Fact}
use Rattle.cpa_facts.specs.declared.fact.Fact.TheVariants.{Equals}
use Rattle.cpa_value_changes.specs.declared.changes.Change.{Change}

-- each fact says a value of a cell from low on and below n, in the order of the cells, and no two
-- of one cell
abbrev pub are_ordered : ℕ → ℕ → List Fact → Bool
are_ordered n low [] = true
are_ordered n low (Equals cell v ∷ facts) =
    nat_le low cell && nat_lt cell n && are_ordered n (cell + 1) facts
are_ordered n low (fact ∷ facts) = false

-- the least cell that may follow the facts, where they are in order from low on
abbrev pub end_in : ℕ → ℕ → List Fact → Option ℕ
end_in n low [] = Some low
end_in n low (Equals cell v ∷ facts) =
    if nat_le low cell && nat_lt cell n then end_in n (cell + 1) facts else None
end_in n low (fact ∷ facts) = None

-- the fact says a value of an earlier cell
abbrev pub is_before : ℕ → Option Fact → Bool
is_before cell (Some (Equals own v)) = nat_lt own cell
is_before cell other = false

-- how many facts stand before those of the cell and of later ones
abbrev pub place_in : ℕ → List Fact → ℕ
place_in cell [] = 0
place_in cell (Equals own v ∷ facts) = if nat_lt own cell then suc (place_in cell facts) else 0
place_in cell (fact ∷ facts) = 0

-- the value that the fact says of the cell
abbrev pub own_value : ℕ → Option Fact → Option ℤ
own_value cell (Some (Equals own v)) = if own == cell then Some v else None
own_value cell other = None

-- the values with this one for so many cells from the first on
abbrev pub filled : ℕ → ℕ → Option ℤ → List (Option ℤ) → List (Option ℤ)
filled first zero value cells = cells
filled first (suc n) value cells = slice_set (filled first n value cells) (first + n) value

-- the values behind a change
abbrev pub changed : Change → List (Option ℤ) → List (Option ℤ)
changed c cells = filled c.first c.count c.value cells
