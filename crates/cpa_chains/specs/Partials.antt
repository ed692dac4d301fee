-- Partial interpolants of a refutation, by the rules of McMillan (CAV 2003): how each is put
-- together, and its value where the variables have values.
use Rattle.std.specs.Prelude.{ℕ, ◌/◌, ◌-◌, ◌&&◌, ◌||◌, Bool, true, false, List, [], ◌∷◌, ◌++◌}
use Rattle.std.specs.Prelude.{length, map, filter, slice_index_or, if◌then◌else◌}
use Rattle.std.specs.List.{list_any}
use Rattle.cpa_cnf.specs.declared.formula.Cnf.{Cnf}
use Rattle.cpa_cnf.specs.declared.formula.Step.{Step}
use Rattle.cpa_cnf.specs.declared.formula.Line.{Line}
use Rattle.cpa_cnf.specs.Models.{value_of_literal}
use Rattle.cpa_chains.specs.declared.partial.Joint.{Joint}
use Rattle.cpa_chains.specs.declared.partial.Partial.{Partial}
use Rattle.cpa_chains.specs.declared.partial.Leaf.{Leaf}
use Rattle.cpa_chains.specs.declared.partial.Leaf.TheVariants.{Always, Any}
use Rattle.cpa_chains.specs.Sides.{is_local, is_shared}

-- A resolution on a variable that is local to A joins by disjunction, another one by conjunction.
abbrev pub joint_of : Cnf → List Bool → Step → Joint
joint_of cnf sides step = record { or = is_local cnf sides step.pivot; clause = step.clause }

-- the partial of a line, along its chain
abbrev pub partial_of : Cnf → List Bool → Line → Partial
partial_of cnf sides line =
    record { first = line.first; joints = map (joint_of cnf sides) line.steps }

abbrev pub partials_of : Cnf → List Bool → List Line → List Partial
partials_of cnf sides log = map (partial_of cnf sides) log

-- The partial of a clause of A is the disjunction of its literals on shared variables, that of a
-- clause of B is true.
abbrev pub leaf_of : Cnf → List Bool → Bool → List ℕ → Leaf
leaf_of cnf sides true clause = Any (filter (λ l. is_shared cnf sides (l / 2)) clause)
leaf_of cnf sides false clause = Always

-- the partial of each clause, by its side
abbrev pub leaves_by : Cnf → List Bool → List Bool → List (List ℕ) → List Leaf
leaves_by cnf sides [] clauses = []
leaves_by cnf sides (s ∷ ss) [] = []
leaves_by cnf sides (s ∷ ss) (c ∷ cs) = leaf_of cnf sides s c ∷ leaves_by cnf sides ss cs

-- the partials of the formula's clauses
abbrev pub leaves_of : Cnf → List Bool → List Leaf
leaves_of cnf sides = leaves_by cnf sides sides cnf.clauses

abbrev pub leaf_value : List Bool → Leaf → Bool
leaf_value values Always = true
leaf_value values (Any literals) = list_any (value_of_literal values) literals

-- what a value and those that the joints name come to, where these are known
abbrev pub joined : List Bool → Bool → List Joint → Bool
joined known value [] = value
joined known value (joint ∷ joints) =
    let other = slice_index_or known joint.clause false in
    joined known (if joint.or then value || other else value && other) joints

abbrev pub partial_value : List Bool → Partial → Bool
partial_value known partial =
    joined known (slice_index_or known partial.first false) partial.joints

-- the values of all numbers once these partials stand behind the known ones
abbrev pub values_behind : List Bool → List Partial → List Bool
values_behind known [] = known
values_behind known (p ∷ ps) = values_behind (known ++ partial_value known p ∷ []) ps

-- the value of the last one, where the variables have these values
abbrev pub last_value : List Bool → List Leaf → List Partial → Bool
last_value values leaves partials =
    let all = values_behind (map (leaf_value values) leaves) partials in
    slice_index_or all (length all - 1) false
