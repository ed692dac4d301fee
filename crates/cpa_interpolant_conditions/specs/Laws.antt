-- The laws of the conditions of partial interpolants. Below each statement stands its lemma.
use Rattle.std.specs.Prelude.{List, Bool, Option, ℤ}
use Rattle.cpa_cnf.specs.declared.formula.Cnf.{Cnf}
use Rattle.cpa_cnf.specs.declared.formula.Line.{Line}
use Rattle.cpa_expr.specs.Values.{HasTruth}
use Rattle.cpa_chains.specs.declared.partial.Leaf.{Leaf}
use Rattle.cpa_chains.specs.declared.partial.Partial.{Partial}
use Rattle.cpa_chains.specs.Partials.{last_value, leaves_of, partials_of}
use Rattle.cpa_interpolant_bits.specs.declared.bits.Bit.{Bit}
use Rattle.cpa_interpolant_bits.specs.declared.nodes.Node.{Node}
use Rattle.cpa_interpolant_bits.specs.Nodes.{IsScoped}
use Rattle.cpa_interpolant_bits.specs.Meanings.{IsMade, AreOfBits, Gives}
use Rattle.cpa_interpolant_conditions.specs.Making.{condition_made}
use Rattle.cpa_interpolant_conditions.specs.Asked.{LeavesAreOfBits, SharedAreBits}
use Rattle.cpa_interpolant_conditions.specs.Interpolants.{interpolant_expr}
use Rattle.cpa_interpolant_conditions.specs.lemmas.Lists.{condition_is}
use Rattle.cpa_interpolant_conditions.specs.lemmas.Bits.{condition_of_bits, shared_of_bits}
use Rattle.cpa_interpolant_conditions.specs.lemmas.Asking.{interpolant_asks}

-- The condition of the last partial is true exactly where the partial is, whatever values the
-- variables have. It names no variable but bits, where the partials of the clauses name no other;
-- and these do not, where all variables that both sides have are bits. Then its expression is
-- evaluated without a trap on every store that gives the bits these values, and is nonzero exactly
-- where the last partial is true.
pub record ConditionsOfPartialsMean : Type 0 where
  pub truth : (nodes : List Node) (leaves : List Leaf) (partials : List Partial) → IsScoped nodes
      → IsMade nodes (condition_made nodes leaves partials)
      (λ values. last_value values leaves partials)
  pub bits : (bits : List (Option Bit)) (nodes : List Node) (leaves : List Leaf)
      (partials : List Partial) → AreOfBits bits nodes → LeavesAreOfBits bits leaves
      → AreOfBits bits (condition_made nodes leaves partials).nodes
  pub shared : (bits : List (Option Bit)) (cnf : Cnf) (sides : List Bool)
      → SharedAreBits bits cnf sides → LeavesAreOfBits bits (leaves_of cnf sides)
  pub asks : (bits : List (Option Bit)) (store : List ℤ) (values : List Bool) (cnf : Cnf)
      (sides : List Bool) (log : List Line) → SharedAreBits bits cnf sides
      → Gives bits store values → HasTruth store (interpolant_expr bits cnf sides log)
      (last_value values (leaves_of cnf sides) (partials_of cnf sides log))

pub conditions_of_partials_mean : ConditionsOfPartialsMean
conditions_of_partials_mean = record {
  truth = condition_is;
  bits = condition_of_bits;
  shared = shared_of_bits;
  asks = interpolant_asks;
}
