-- The laws of bits, of conditions and of their expressions. Below each statement stands its lemma.
use Rattle.std.specs.Prelude.{◌≡◌, ℕ, ◌/◌, ◌%◌, ◌^◌, ◌<◌, ◌==◌, ◌&&◌, ◌||◌, ℤ, Bool, true, List}
use Rattle.std.specs.Prelude.{length, Option, Some}
use Rattle.cpa_ints.specs.declared.integers.IntType.{IntType}
use Rattle.cpa_ints.specs.declared.integers.IntType.TheVariants as ty
use Rattle.cpa_ints.specs.Integers.{width, IsInRange}
use Rattle.cpa_cnf.specs.Models.{value_of_literal}
use Rattle.cpa_ints.specs.Bits.{bits_of}
use Rattle.cpa_expr.specs.Shape.{type_of, size, height, IsTyped}
use Rattle.cpa_expr.specs.Values.{HasTruth}
use Rattle.cpa_expr.specs.Cells.{may_read}
use Rattle.cpa_interpolant_bits.specs.declared.bits.Bit.{Bit}
use Rattle.cpa_interpolant_bits.specs.declared.nodes.Node.{Node}
use Rattle.cpa_interpolant_bits.specs.declared.nodes.Condition.{Condition}
use Rattle.cpa_interpolant_bits.specs.Nodes.{truth_in, bit_named, expr_in, IsScoped, IsInside}
use Rattle.cpa_interpolant_bits.specs.Nodes.{literal_made, both_made, either_made}
use Rattle.cpa_interpolant_bits.specs.Meanings.{Grows, IsMade, AreOfBits, Gives, HasCell}
use Rattle.cpa_interpolant_bits.specs.lemmas.Making.{literal_is, both_is, either_is, still_inside}
use Rattle.cpa_interpolant_bits.specs.lemmas.Making.{still_true, literal_of_bits, both_of_bits}
use Rattle.cpa_interpolant_bits.specs.lemmas.Making.{either_of_bits}
use Rattle.cpa_interpolant_bits.specs.lemmas.Asking.{condition_truth, condition_type}
use Rattle.cpa_interpolant_bits.specs.lemmas.Asking.{condition_typed, condition_cells}
use Rattle.cpa_interpolant_bits.specs.Bits.{bit_of, bit_in, IsBitOf, bit_read, bit_is}
use Rattle.cpa_interpolant_bits.specs.lemmas.Values.{wanted_truth, read_truth, inner_bit}
use Rattle.cpa_interpolant_bits.specs.lemmas.Shapes.{read_typed, read_cells, read_size}
use Rattle.cpa_interpolant_bits.specs.lemmas.Shapes.{read_height}

-- The expression of a bit is true exactly where the bit has the value that it asks for, on every
-- store that has the cell. It is well typed over the cells of which the bit is one, and reads no
-- other cell. Below the width of a type a bit is the one of the type's own pattern.
pub record BitsAreRead : Type 0 where
  pub truth : (bit : Bit) (set : Bool) (values : List ℤ) → bit.cell < length values
      → bit.place < 64 → HasTruth values (bit_is bit set) (wanted_truth (bit_in values bit) set)
  pub typed : (cells : List IntType) (bit : Bit) (set : Bool) → IsBitOf cells bit
      → IsTyped cells (bit_is bit set)
  pub reads : (bit : Bit) (set : Bool) (cell : ℕ)
      → may_read (bit_is bit set) cell ≡ (bit.cell == cell)
  pub size : (bit : Bit) → size (bit_read bit) ≡ 9
  pub height : (bit : Bit) → height (bit_read bit) ≡ 6
  pub own : (t : IntType) (v : ℤ) (place : ℕ) → IsInRange t v → place < width t
      → bit_of place v ≡ (bits_of t v / 2 ^ place % 2 == 1)

pub bits_are_read : BitsAreRead
bits_are_read = record {
  truth = read_truth;
  typed = read_typed;
  reads = read_cells;
  size = read_size;
  height = read_height;
  own = inner_bit;
}

-- ---- conditions

-- A literal has its own truth, two conditions together have theirs; what was made before stays as
-- it is; and no variable is named but those of the literals that were asked for.
pub record ConditionsMean : Type 0 where
  pub literal : (nodes : List Node) (l : ℕ) → IsScoped nodes
      → IsMade nodes (literal_made nodes l) (λ values. value_of_literal values l)
  pub both : (nodes : List Node) → IsScoped nodes → (a b : Condition) → IsInside nodes a
      → IsInside nodes b → IsMade nodes (both_made nodes a b)
      (λ values. truth_in values nodes a && truth_in values nodes b)
  pub either : (nodes : List Node) → IsScoped nodes → (a b : Condition) → IsInside nodes a
      → IsInside nodes b → IsMade nodes (either_made nodes a b)
      (λ values. truth_in values nodes a || truth_in values nodes b)
  pub inside : (old new : List Node) (c : Condition) → Grows old new → IsInside old c
      → IsInside new c
  pub same : (old new : List Node) (c : Condition) (values : List Bool) → Grows old new
      → IsInside old c → truth_in values new c ≡ truth_in values old c
  pub literal_bits : (bits : List (Option Bit)) (nodes : List Node) → AreOfBits bits nodes
      → (l : ℕ) (bit : Bit) → bit_named bits (l / 2) ≡ Some bit
      → AreOfBits bits (literal_made nodes l).nodes
  pub both_bits : (bits : List (Option Bit)) (nodes : List Node) → AreOfBits bits nodes
      → (a b : Condition) → AreOfBits bits (both_made nodes a b).nodes
  pub either_bits : (bits : List (Option Bit)) (nodes : List Node) → AreOfBits bits nodes
      → (a b : Condition) → AreOfBits bits (either_made nodes a b).nodes

pub conditions_mean : ConditionsMean
conditions_mean = record {
  literal = literal_is;
  both = both_is;
  either = either_is;
  inside = still_inside;
  same = still_true;
  literal_bits = literal_of_bits;
  both_bits = both_of_bits;
  either_bits = either_of_bits;
}

-- ---- their expressions

-- On every store that gives the variables these values, the expression of a condition is evaluated
-- without a trap and is nonzero exactly where the condition is true. It is an int, well typed where
-- the bits are those of cells, and reads only cells of which a bit is there.
pub record ExpressionsAsk : Type 0 where
  pub truth : (bits : List (Option Bit)) (store : List ℤ) (values : List Bool)
      → Gives bits store values → (nodes : List Node) (c : Condition) → AreOfBits bits nodes
      → HasTruth store (expr_in bits nodes c) (truth_in values nodes c)
  pub ty : (bits : List (Option Bit)) (nodes : List Node) (c : Condition)
      → type_of (expr_in bits nodes c) ≡ ty.I32
  pub typed : (cells : List IntType) (bits : List (Option Bit)) (nodes : List Node)
      (c : Condition) → ((v : ℕ) (bit : Bit) → bit_named bits v ≡ Some bit → IsBitOf cells bit)
      → IsTyped cells (expr_in bits nodes c)
  pub reads : (bits : List (Option Bit)) (nodes : List Node) (c : Condition) (cell : ℕ)
      → may_read (expr_in bits nodes c) cell ≡ true → HasCell bits cell

pub expressions_ask : ExpressionsAsk
expressions_ask = record {
  truth = condition_truth;
  ty = condition_type;
  typed = condition_typed;
  reads = condition_cells;
}
