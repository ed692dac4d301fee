-- The conditions of partial interpolants, one after the other (McMillan, CAV 2003): of a clause of
-- A that one of its literals on shared variables is true, of a clause of B that it is true, of a
-- line what the joints of its chain make of those before. Chains nest to the left.
use Rattle.std.specs.Prelude.{ℕ, ◌-◌, true, false, List, [], ◌∷◌, ◌++◌, length, slice_index_or}
use Rattle.std.specs.Prelude.{if◌then◌else◌}
use Rattle.cpa_chains.specs.declared.partial.Joint.{Joint}
use Rattle.cpa_chains.specs.declared.partial.Leaf.{Leaf}
use Rattle.cpa_chains.specs.declared.partial.Leaf.TheVariants.{Always, Any}
use Rattle.cpa_chains.specs.declared.partial.Partial.{Partial}
use Rattle.cpa_interpolant_bits.specs.declared.nodes.Node.{Node}
use Rattle.cpa_interpolant_bits.specs.declared.nodes.Condition.{Condition}
use Rattle.cpa_interpolant_bits.specs.declared.nodes.Condition.TheVariants.{Known}
use Rattle.cpa_interpolant_bits.specs.Nodes.{Made, made, literal_made, both_made, either_made}

-- the condition, or one of these literals
abbrev pub any_made : Made → List ℕ → Made
any_made m [] = m
any_made m (l ∷ ls) =
    let one = literal_made m.nodes l in
    any_made (either_made one.nodes m.condition one.condition) ls

abbrev pub leaf_made : List Node → Leaf → Made
leaf_made nodes Always = made nodes (Known true)
leaf_made nodes (Any literals) = any_made (made nodes (Known false)) literals

-- nodes, and the condition of each number so far
pub record Numbered : Type 0 where
  pub nodes : List Node
  pub conditions : List Condition

abbrev pub numbered : List Node → List Condition → Numbered
numbered nodes conditions = record { nodes = nodes; conditions = conditions }

-- one number more
abbrev pub more : Numbered → Made → Numbered
more before m = numbered m.nodes (before.conditions ++ m.condition ∷ [])

-- those of the clauses
abbrev pub leaves_made : Numbered → List Leaf → Numbered
leaves_made before [] = before
leaves_made before (leaf ∷ leaves) =
    leaves_made (more before (leaf_made before.nodes leaf)) leaves

-- the condition of a number; one that names nothing stands for false
abbrev pub condition_at : List Condition → ℕ → Condition
condition_at conditions number = slice_index_or conditions number (Known false)

-- a condition joined with that of another number
abbrev pub joint_made : List Condition → Made → Joint → Made
joint_made conditions m joint =
    let other = condition_at conditions joint.clause in
    if joint.or then either_made m.nodes m.condition other
    else both_made m.nodes m.condition other

abbrev pub joints_made : List Condition → Made → List Joint → Made
joints_made conditions m [] = m
joints_made conditions m (joint ∷ joints) =
    joints_made conditions (joint_made conditions m joint) joints

abbrev pub partial_made : Numbered → Partial → Made
partial_made before partial =
    joints_made before.conditions
    (made before.nodes (condition_at before.conditions partial.first)) partial.joints

-- those of the lines
abbrev pub partials_made : Numbered → List Partial → Numbered
partials_made before [] = before
partials_made before (p ∷ ps) = partials_made (more before (partial_made before p)) ps

abbrev pub last_made : Numbered → Made
last_made all = made all.nodes (condition_at all.conditions (length all.conditions - 1))

-- the condition of the last partial, made behind these nodes
abbrev pub condition_made : List Node → List Leaf → List Partial → Made
condition_made nodes leaves partials =
    last_made (partials_made (leaves_made (numbered nodes []) leaves) partials)
