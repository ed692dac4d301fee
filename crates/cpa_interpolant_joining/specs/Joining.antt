-- Two formulas as one (this project's own; sides as in Craig 1957): the variables of the second
-- that have a name are variables of the first, and all others stand apart, behind them.
use Rattle.std.specs.Prelude.{◌≡◌, ℕ, ◌+◌, ◌*◌, ◌/◌, ◌%◌, ◌<◌, Bool, true, false, List, ◌++◌}
use Rattle.std.specs.Prelude.{length, map, replicate, slice_get, slice_index_or, Option, None, Some}
use Rattle.std.specs.List.{range_with_len}
use Rattle.cpa_cnf.specs.declared.formula.Cnf.{Cnf}
use Rattle.cpa_blast_gates.specs.Clauses.{clause_of}

-- the name in a row of names
abbrev pub name_in_row : Option (Option ℕ) → Option ℕ
name_in_row None = None
name_in_row (Some name) = name

-- the variable of the first formula that a variable of the second one is, where it is one
abbrev pub name_of : List (Option ℕ) → ℕ → Option ℕ
name_of names variable = name_in_row (slice_get names variable)

abbrev pub named_or : Option ℕ → ℕ → ℕ
named_or None behind = behind
named_or (Some name) behind = name

-- what a variable of the second formula is called where the first has so many variables
abbrev pub renamed : ℕ → List (Option ℕ) → ℕ → ℕ
renamed first names variable = named_or (name_of names variable) (first + variable)

-- a literal keeps its sign
abbrev pub renamed_literal : ℕ → List (Option ℕ) → ℕ → ℕ
renamed_literal first names l = renamed first names (l / 2) * 2 + l % 2

abbrev pub renamed_clause : ℕ → List (Option ℕ) → List ℕ → List ℕ
renamed_clause first names clause = clause_of (map (renamed_literal first names) clause)

abbrev pub joined : Cnf → Cnf → List (Option ℕ) → Cnf
joined first second names = record {
  vars = first.vars + second.vars;
  clauses = first.clauses ++ map (renamed_clause first.vars names) second.clauses;
}

-- for each clause of the joined formula whether it is one of the first
abbrev pub sides_of : Cnf → Cnf → List Bool
sides_of first second =
    replicate (length first.clauses) true ++ replicate (length second.clauses) false

-- the values that the variables of the second formula have in the joined one
abbrev pub seen : ℕ → List (Option ℕ) → ℕ → List Bool → List Bool
seen first names vars values =
    map (λ variable. slice_index_or values (renamed first names variable) false)
    (range_with_len 0 vars)

-- each name is a variable of the first formula
abbrev pub AreNames : ℕ → List (Option ℕ) → Type 0
AreNames first names = (variable name : ℕ) → name_of names variable ≡ Some name → name < first

-- a variable of the second formula has the value of the one that it is
abbrev pub Agree : List (Option ℕ) → List Bool → List Bool → Type 0
Agree names values others = (variable name : ℕ) → name_of names variable ≡ Some name
    → slice_index_or others variable false ≡ slice_index_or values name false
