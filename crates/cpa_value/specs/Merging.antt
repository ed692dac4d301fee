-- Where a fact stands among facts in the order of the cells (this project's own).
use Rattle.std.specs.Prelude.{ℕ, ◌==◌, Bool, false, Option, None, Some}
use Rattle.cpa_facts.specs.declared.fact.Fact.{Fact}
use Rattle.cpa_facts.specs.declared.fact.Fact.TheVariants.{Equals}
use Rattle.cpa_model.specs.Standing.{same_fact}

-- the fact says a value of the cell
abbrev pub has_cell : ℕ → Option Fact → Bool
has_cell cell (Some (Equals own v)) = own == cell
has_cell cell other = false

-- what stands there is the fact
abbrev pub stands_at : Option Fact → Fact → Bool
stands_at None f = false
stands_at (Some own) f = same_fact own f
