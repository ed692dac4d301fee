-- The laws of products and shifts. Below each statement, its lemma.
use Rattle.std.specs.Prelude.{◌≡◌, ℕ, ◌*◌, ◌/◌, ◌%◌, ◌^◌, ◌<◌, Bool, false, not}
use Rattle.std.specs.Prelude.{List, length, map}
use Rattle.cpa_ints.specs.declared.integers.IntType.{IntType}
use Rattle.cpa_cnf.specs.Lines.{AreBelow}
use Rattle.cpa_blast_gates.specs.declared.gate.Gate.{Gate}
use Rattle.cpa_blast_gates.specs.Gates.{lit_value}
use Rattle.cpa_blast_gates.specs.Nets.{vars, IsScoped}
use Rattle.cpa_expr.specs.Values.{bin_value}
use Rattle.cpa_expr.specs.declared.tree.BinOp.TheVariants as bin
use Rattle.cpa_blast_words.specs.Truths.{values, number}
use Rattle.cpa_blast_words.specs.Meanings.{MakesWord}
use Rattle.cpa_blast_words.specs.Values.{AreWords, MakesNumber, MakesValue, TestsValue}
use Rattle.cpa_blast_arithmetic.specs.declared.moves.Direction.{Direction}
use Rattle.cpa_blast_arithmetic.specs.declared.moves.Direction.TheVariants as toward
use Rattle.cpa_blast_arithmetic.specs.Products.{product}
use Rattle.cpa_blast_arithmetic.specs.Moves.{moved}
use Rattle.cpa_blast_arithmetic.specs.Shifts.{stages, is_amount, shifted_left, shifted_right}
use Rattle.cpa_blast_arithmetic.specs.lemmas.ProductMeanings.{product_is}
use Rattle.cpa_blast_arithmetic.specs.lemmas.MoveLaws as move
use Rattle.cpa_blast_arithmetic.specs.lemmas.StageMeanings.{stages_move}
use Rattle.cpa_blast_arithmetic.specs.lemmas.ShiftMeanings as shift
use Rattle.cpa_blast_arithmetic.specs.lemmas.Constants as constant

abbrev pub ProductsAreProducts : Type 0
ProductsAreProducts = (s : List Gate) (xs ys : List ℕ) → IsScoped s → AreBelow (vars s) xs
    → AreBelow (vars s) ys → length xs ≡ length ys → MakesNumber s (product s xs ys) (length xs)
    (λ m. (number (values m xs) * number (values m ys)) % 2 ^ length xs)

pub products_are_products : ProductsAreProducts
products_are_products = product_is

-- a moved word stands for its number times a power of two, modulo 2 to the power of the length, or
-- for the quotient by one; to fill with true is to move the opposite bits and fill with false
pub record MovesAreShifts : Type 0 where
  pub left : (n : ℕ) (bs : List Bool)
      → number (moved toward.Left n false bs) ≡ (2 ^ n * number bs) % 2 ^ length bs
  pub right : (n : ℕ) (bs : List Bool)
      → number (moved toward.Right n false bs) ≡ number bs / 2 ^ n
  pub opposite : (d : Direction) (n : ℕ) (b : Bool) (bs : List Bool)
      → map not (moved d n b bs) ≡ moved d n (not b) (map not bs)

pub moves_are_shifts : MovesAreShifts
moves_are_shifts = record {
  left = move.left_number;
  right = move.right_number;
  opposite = move.opposites_moved;
}

-- stages made of words of a net move the word by the number that the amount stands for
abbrev pub ShiftsMoveWords : Type 0
ShiftsMoveWords = (d : Direction) (filling : ℕ) (s : List Gate) (xs amount : List ℕ) → IsScoped s
    → filling < 2 * vars s → AreBelow (vars s) xs → AreBelow (vars s) amount
    → MakesWord s (stages d filling s 0 xs amount)
    (λ m. moved d (number (values m amount)) (lit_value m filling) (values m xs))

pub shifts_move_words : ShiftsMoveWords
shifts_move_words = stages_move

-- P holds of words of any two types
abbrev pub OfWordPairs : (IntType → IntType → List Gate → List ℕ → List ℕ → Type 0) → Type 0
OfWordPairs P = (t u : IntType) (s : List Gate) (xs ys : List ℕ) → AreWords t u s xs ys
    → P t u s xs ys

-- at each type a shift by an amount of any type stands for the value of the shift, and the amount
-- tells whether there is one
pub record ShiftsShift : Type 0 where
  pub left : OfWordPairs (λ t u s xs ys.
      MakesValue t u (bin_value bin.Shl t) s xs ys (shifted_left t s xs ys))
  pub right : OfWordPairs (λ t u s xs ys.
      MakesValue t u (bin_value bin.Shr t) s xs ys (shifted_right t s xs ys))
  pub left_amount : OfWordPairs (λ t u s xs ys.
      TestsValue t u (bin_value bin.Shl t) s xs ys (is_amount t s ys))
  pub right_amount : OfWordPairs (λ t u s xs ys.
      TestsValue t u (bin_value bin.Shr t) s xs ys (is_amount t s ys))

pub shifts_shift : ShiftsShift
shifts_shift = record {
  left = shift.left_makes;
  right = shift.right_makes;
  left_amount = shift.left_tests;
  right_amount = shift.right_tests;
}

-- an amount of constants, which are the literals of variable 0, makes no gate
pub record ConstantsMakeNoGates : Type 0 where
  pub left : (t : IntType) (s : List Gate) (xs amount : List ℕ) → AreBelow 1 amount
      → (shifted_left t s xs amount).net ≡ s
  pub right : (t : IntType) (s : List Gate) (xs amount : List ℕ) → AreBelow 1 amount
      → (shifted_right t s xs amount).net ≡ s
  pub amount : (t : IntType) (s : List Gate) (amount : List ℕ) → AreBelow 1 amount
      → (is_amount t s amount).net ≡ s

pub constants_make_no_gates : ConstantsMakeNoGates
constants_make_no_gates = record {
  left = constant.left_same;
  right = constant.right_same;
  amount = constant.amount_same;
}
