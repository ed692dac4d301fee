-- Conditions of partials name bits alone, where the partials of the clauses do.
use Rattle.std.proofs.Common.{ℕ, ◌/◌, Bool, true, false, List, [], ◌∷◌, Option}
use Rattle.std.specs.Prelude.{filter}
use Rattle.std.specs.List.{AllByRecursion}
use Rattle.std.proofs.lemmas.Bool.{cond_both}
use Rattle.cpa_cnf.specs.declared.formula.Cnf.{Cnf}
use Rattle.cpa_chains.specs.declared.partial.Joint.{Joint}
use Rattle.cpa_chains.specs.declared.partial.Leaf.{Leaf}
use Rattle.cpa_chains.specs.declared.partial.Leaf.TheVariants.{Always, Any}
use Rattle.cpa_chains.specs.declared.partial.Partial.{Partial}
use Rattle.cpa_chains.specs.Sides.{is_shared}
use Rattle.cpa_chains.specs.Partials.{leaf_of, leaves_by, leaves_of}
use Rattle.cpa_interpolant_bits.specs.declared.bits.Bit.{Bit}
use Rattle.cpa_interpolant_bits.specs.declared.nodes.Node.{Node}
use Rattle.cpa_interpolant_bits.specs.declared.nodes.Condition.{Condition}
use Rattle.cpa_interpolant_bits.specs.declared.nodes.Condition.TheVariants.{Known}
use Rattle.cpa_interpolant_bits.specs.Nodes.{Made, made, literal_made, both_made, either_made}
use Rattle.cpa_interpolant_bits.specs.Meanings.{AreOfBits}
use Rattle.cpa_interpolant_bits.specs.Laws.{conditions_mean}
use Rattle.cpa_interpolant_conditions.specs.Making.{any_made, leaf_made, Numbered, numbered, more}
use Rattle.cpa_interpolant_conditions.specs.Making.{leaves_made, condition_at, joint_made}
use Rattle.cpa_interpolant_conditions.specs.Making.{joints_made, partial_made, partials_made}
use Rattle.cpa_interpolant_conditions.specs.Making.{condition_made}
use Rattle.cpa_interpolant_conditions.specs.Asked.{IsBit, LeafIsOfBits, LeavesAreOfBits}
use Rattle.cpa_interpolant_conditions.specs.Asked.{SharedAreBits}

module _ (bits : List (Option Bit)) where
  any_of_bits : (ls : List ℕ) (m : Made) → AllByRecursion (λ l. IsBit bits (l / 2)) ls
      → AreOfBits bits m.nodes → AreOfBits bits (any_made m ls).nodes
  any_of_bits [] m all are = are
  any_of_bits (l ∷ ls) m all are =
      let one = literal_made m.nodes l in
      any_of_bits ls (either_made one.nodes m.condition one.condition) all.1
      (conditions_mean.either_bits bits one.nodes
      (conditions_mean.literal_bits bits m.nodes are l all.0.0 all.0.1) m.condition one.condition)

  leaf_of_bits : (nodes : List Node) (leaf : Leaf) → LeafIsOfBits bits leaf → AreOfBits bits nodes
      → AreOfBits bits (leaf_made nodes leaf).nodes
  leaf_of_bits nodes Always is are = are
  leaf_of_bits nodes (Any literals) is are = any_of_bits literals (made nodes (Known false)) is are

  leaves_of_bits : (leaves : List Leaf) (all : Numbered) → LeavesAreOfBits bits leaves
      → AreOfBits bits all.nodes → AreOfBits bits (leaves_made all leaves).nodes
  leaves_of_bits [] all is are = are
  leaves_of_bits (leaf ∷ leaves) all is are =
      leaves_of_bits leaves (more all (leaf_made all.nodes leaf)) is.1
      (leaf_of_bits all.nodes leaf is.0 are)

  joint_of_bits : (known : List Condition) (m : Made) (joint : Joint) → AreOfBits bits m.nodes
      → AreOfBits bits (joint_made known m joint).nodes
  joint_of_bits known m joint are =
      let other = condition_at known joint.clause in
      cond_both joint.or (either_made m.nodes m.condition other)
      (both_made m.nodes m.condition other) (λ (n : Made). AreOfBits bits n.nodes)
      (λ or. conditions_mean.either_bits bits m.nodes are m.condition other)
      (λ and. conditions_mean.both_bits bits m.nodes are m.condition other)

  joints_of_bits : (known : List Condition) (joints : List Joint) (m : Made)
      → AreOfBits bits m.nodes → AreOfBits bits (joints_made known m joints).nodes
  joints_of_bits known [] m are = are
  joints_of_bits known (joint ∷ joints) m are =
      joints_of_bits known joints (joint_made known m joint) (joint_of_bits known m joint are)

  partials_of_bits : (ps : List Partial) (all : Numbered) → AreOfBits bits all.nodes
      → AreOfBits bits (partials_made all ps).nodes
  partials_of_bits [] all are = are
  partials_of_bits (p ∷ ps) all are =
      partials_of_bits ps (more all (partial_made all p))
      (joints_of_bits all.conditions p.joints
      (made all.nodes (condition_at all.conditions p.first)) are)

  pub condition_of_bits : (nodes : List Node) (leaves : List Leaf) (partials : List Partial)
      → AreOfBits bits nodes → LeavesAreOfBits bits leaves
      → AreOfBits bits (condition_made nodes leaves partials).nodes
  condition_of_bits nodes leaves partials are is =
      partials_of_bits partials (leaves_made (numbered nodes []) leaves)
      (leaves_of_bits leaves (numbered nodes []) is are)

  -- ---- the partials of clauses

  module _ (cnf : Cnf) (sides : List Bool) (shared : SharedAreBits bits cnf sides) where
    kept_are : (ls : List ℕ)
        → AllByRecursion (λ l. IsBit bits (l / 2)) (filter (λ l. is_shared cnf sides (l / 2)) ls)
    kept_are [] = tt
    kept_are (l ∷ ls) =
        cond_both (is_shared cnf sides (l / 2)) (l ∷ filter (λ l. is_shared cnf sides (l / 2)) ls)
        (filter (λ l. is_shared cnf sides (l / 2)) ls)
        (λ (found : List ℕ). AllByRecursion (λ l. IsBit bits (l / 2)) found)
        (λ is. (shared (l / 2) is, kept_are ls)) (λ apart. kept_are ls)

    leaf_is : (side : Bool) (clause : List ℕ) → LeafIsOfBits bits (leaf_of cnf sides side clause)
    leaf_is true clause = kept_are clause
    leaf_is false clause = tt

    leaves_are : (ss : List Bool) (cs : List (List ℕ))
        → LeavesAreOfBits bits (leaves_by cnf sides ss cs)
    leaves_are [] cs = tt
    leaves_are (s ∷ ss) [] = tt
    leaves_are (s ∷ ss) (c ∷ cs) = (leaf_is s c, leaves_are ss cs)

    pub shared_are : LeavesAreOfBits bits (leaves_of cnf sides)
    shared_are = leaves_are sides cnf.clauses

pub shared_of_bits : (bits : List (Option Bit)) (cnf : Cnf) (sides : List Bool)
    → SharedAreBits bits cnf sides → LeavesAreOfBits bits (leaves_of cnf sides)
shared_of_bits = shared_are
