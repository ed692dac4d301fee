-- The table of the variables of B, and what is folded by it (this project's own).
use Rattle.std.specs.Prelude.{◌≡◌, ℕ, ◌/◌, ◌<◌, not, Bool, true, false, List, [], ◌∷◌}
use Rattle.std.specs.Prelude.{length, map, filter, slice_index_or}
use Rattle.std.specs.List.{AllByRecursion}
use Rattle.cpa_cnf.specs.declared.formula.Cnf.{Cnf}
use Rattle.cpa_cnf.specs.declared.formula.Step.{Step}
use Rattle.cpa_cnf.specs.declared.formula.Line.{Line}
use Rattle.cpa_chains.specs.declared.partial.Joint.{Joint}
use Rattle.cpa_chains.specs.declared.partial.Partial.{Partial}
use Rattle.cpa_chains.specs.declared.partial.Leaf.{Leaf}
use Rattle.cpa_chains.specs.declared.partial.Leaf.TheVariants.{Always, Any}
use Rattle.cpa_chains.specs.Sides.{stands_on}

-- for each variable whether a clause of B has it
pub record IsTable (cnf : Cnf) (sides : List Bool) (table : List Bool) : Type 0 where
  pub long : length table ≡ cnf.vars
  pub has : (x : ℕ) → x < cnf.vars
      → slice_index_or table x false ≡ stands_on false cnf sides x

abbrev pub joint_by : List Bool → Step → Joint
joint_by table step =
    record { or = not (slice_index_or table step.pivot false); clause = step.clause }

abbrev pub partial_by : List Bool → Line → Partial
partial_by table line = record { first = line.first; joints = map (joint_by table) line.steps }

-- the literal's variable is noted
abbrev pub is_noted : List Bool → ℕ → Bool
is_noted table l = slice_index_or table (l / 2) false

abbrev pub leaf_noted : List Bool → Bool → List ℕ → Leaf
leaf_noted table true clause = Any (filter (is_noted table) clause)
leaf_noted table false clause = Always

abbrev pub leaves_noted : List Bool → List Bool → List (List ℕ) → List Leaf
leaves_noted table [] clauses = []
leaves_noted table (s ∷ ss) [] = []
leaves_noted table (s ∷ ss) (c ∷ cs) = leaf_noted table s c ∷ leaves_noted table ss cs

-- the pivots of the line lie within the table
abbrev pub FitsTable : List Bool → Line → Type 0
FitsTable table line = AllByRecursion (λ step. step.pivot < length table) line.steps
