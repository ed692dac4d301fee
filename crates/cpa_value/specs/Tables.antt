-- What a change of some cells leaves of the facts that say values of cells in the order of the
-- cells (this project's own).
use Rattle.std.specs.Prelude.{ℕ, zero, suc, ◌+◌, ℤ, nat_le, nat_lt, Bool, false, ◌&&◌, List, []}
use Rattle.std.specs.Prelude.{◌∷◌, ◌++◌, Option}
use Rattle.std.specs.List.{filter}
use Rattle.cpa_facts.specs.declared.fact.Fact.{Fact}
use Rattle.cpa_facts.specs.declared.fact.Fact.TheVariants.{Equals}
use Rattle.cpa_value.specs.Cells.{facts_from}

-- the fact says a value of a tracked cell of these
abbrev pub is_within : (ℕ → Bool) → ℕ → ℕ → Fact → Bool
is_within tracked from to (Equals cell v) = nat_le from cell && nat_lt cell to && tracked cell
is_within tracked from to fact = false

-- the facts of these tracked cells
abbrev pub facts_within : (ℕ → Bool) → ℕ → ℕ → List Fact → List Fact
facts_within tracked from to facts = filter (is_within tracked from to) facts

-- the facts of so many tracked cells from this one on
abbrev pub facts_along : (ℕ → Bool) → (ℕ → Option ℤ) → ℕ → ℕ → List Fact
facts_along tracked values cell zero = []
facts_along tracked values cell (suc n) =
    facts_from (λ _. tracked cell) cell (values cell ∷ [])
    ++ facts_along tracked values (cell + 1) n
