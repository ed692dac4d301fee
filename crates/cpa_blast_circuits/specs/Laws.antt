-- The law of circuits: the circuit of an expression means the expression. Below the statement, its
-- lemma.
use Rattle.std.specs.Prelude.{◌<◌, ◌^◌, List, [], length}
use Rattle.cpa_blast_gates.specs.declared.gate.Gate.{Gate}
use Rattle.cpa_blast_gates.specs.Nets.{IsScoped}
use Rattle.cpa_expr.specs.declared.tree.Expr.{Expr}
use Rattle.cpa_expr.specs.Shape.{IsTyped}
use Rattle.cpa_blast_circuits.specs.declared.answer.Word.{Word}
use Rattle.cpa_blast_circuits.specs.Circuits.{circuit}
use Rattle.cpa_blast_circuits.specs.Meanings.{types_of, AreLong, AreWordsOf, MakesAnswer}
use Rattle.cpa_blast_circuits.specs.lemmas.AllBinaries.{binaries_are}
use Rattle.cpa_blast_circuits.specs.lemmas.CircuitMeanings.{circuit_ready}

-- over cells whose words are as long as their types are wide
pub record AreCellWords (s : List Gate) (cells : List Word) : Type 0 where
  pub scoped : IsScoped s
  pub below : AreWordsOf s cells
  pub long : AreLong cells
  pub few : length cells < 2 ^ 64

abbrev pub CircuitsHaveValues : Type 0
CircuitsHaveValues = (s : List Gate) (cells : List Word) (e : Expr) → AreCellWords s cells
    → IsTyped (types_of cells) e → MakesAnswer cells e s (circuit cells e s)

pub circuits_mean : CircuitsHaveValues
circuits_mean s cells e are typed =
    let binaries = binaries_are in
    let shape = circuit_ready binaries cells [] are.long are.few e s typed are.scoped
    are.below in
    record {
      grows = shape.grows;
      bits_below = shape.ready.bits_below;
      ok_below = shape.ready.ok_below;
      ty = shape.ready.ty;
      long = shape.ready.long;
      is = λ m store holds has.
          (circuit_ready binaries cells store are.long are.few e s typed are.scoped
          are.below).ready.is m has holds;
    }
