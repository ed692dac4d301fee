-- When one element covers another (this project's own).
use Rattle.std.specs.Prelude.{ℕ, ◌==◌, ℤ, int_le, Bool, false, ◌&&◌, List}
use Rattle.std.specs.List.{list_all, list_any}
use Rattle.cpa_facts.specs.declared.fact.Fact.{Fact}
use Rattle.cpa_facts.specs.declared.fact.Fact.TheVariants.{Within}
use Rattle.cpa_model.specs.declared.facts.Elem.{Elem}
use Rattle.cpa_model.specs.Standing.{same_fact}

-- the fact keeps the cell within these bounds
abbrev pub keeps_within : ℕ → ℤ → ℤ → Fact → Bool
keeps_within cell lo hi (Within own low high) = own == cell && int_le lo low && int_le high hi
keeps_within cell lo hi fact = false

-- the second fact says what the first does: it keeps a cell within bounds that lie in those of a
-- Within, and else it is the same
abbrev pub says : Fact → Fact → Bool
says (Within cell lo hi) own = keeps_within cell lo hi own
says fact own = same_fact own fact

-- one of the facts says it
abbrev pub has_covered : List Fact → Fact → Bool
has_covered facts fact = list_any (says fact) facts

abbrev pub covers : Elem → Elem → Bool
covers e other = list_all (has_covered e.facts) other.facts
