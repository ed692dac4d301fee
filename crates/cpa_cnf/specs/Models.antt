-- Models of a formula in conjunctive normal form: values of its variables that make a literal of
-- each clause true.
use Rattle.std.specs.Prelude.{◌≡◌, ℕ, ◌==◌, ◌/◌, ◌%◌, Bool, true, false, not, List, length}
use Rattle.std.specs.Prelude.{slice_index_or, if◌then◌else◌}
use Rattle.std.specs.List.{AllByRecursion}
use Rattle.cpa_cnf.specs.declared.formula.Cnf.{Cnf}
use Rattle.cpa_cnf.specs.Clauses.{has}

-- the literal's value; variables without a value count as false
abbrev pub value_of_literal : List Bool → ℕ → Bool
value_of_literal values l =
    if l % 2 == 0 then slice_index_or values (l / 2) false else not
    (slice_index_or values (l / 2) false)

-- some literal of the clause is true
abbrev pub Satisfies : List Bool → List ℕ → Type 0
Satisfies values clause = (l : ℕ) × (has clause l ≡ true) × (value_of_literal values l ≡ true)

pub record IsModel (cnf : Cnf) (values : List Bool) : Type 0 where
  pub each_variable : length values ≡ cnf.vars
  pub each_clause : AllByRecursion (Satisfies values) cnf.clauses
