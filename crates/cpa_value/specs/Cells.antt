-- The element that says the known values of cells (this project's own). A list of known values has
-- the value of each cell where it is known.
use Rattle.std.specs.Prelude.{ℕ, ◌+◌, ℤ, Bool, if◌then◌else◌, List, [], ◌∷◌, Option, None, Some}
use Rattle.cpa_facts.specs.declared.fact.Fact.{Fact}
use Rattle.cpa_facts.specs.declared.fact.Fact.TheVariants.{Equals}
use Rattle.cpa_model.specs.declared.facts.Elem.{Elem}

-- a value, or else this one
abbrev pub first_known : Option ℤ → Option ℤ → Option ℤ
first_known (Some v) other = Some v
first_known None other = other

-- a fact for each tracked cell whose value is known, in order, where the list begins with this cell
abbrev pub facts_from : (ℕ → Bool) → ℕ → List (Option ℤ) → List Fact
facts_from tracked cell [] = []
facts_from tracked cell (None ∷ cells) = facts_from tracked (cell + 1) cells
facts_from tracked cell (Some v ∷ cells) =
    if tracked cell
    then Equals cell v ∷ facts_from tracked (cell + 1) cells
    else facts_from tracked (cell + 1) cells

abbrev pub elem_of : (ℕ → Bool) → List (Option ℤ) → Elem
elem_of tracked cells = record { facts = facts_from tracked 0 cells }
