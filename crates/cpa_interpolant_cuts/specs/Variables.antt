-- The laws of the variables that are bits of a query's cells. Below each statement stands its
-- lemma.
use Rattle.std.specs.Prelude.{◌≡◌, ℕ, ◌+◌, ◌<◌, pos, false, Bool, List, Some, slice_get}
use Rattle.std.specs.Prelude.{slice_index_or}
use Rattle.cpa_ints.specs.declared.integers.IntType.{IntType}
use Rattle.cpa_ints.specs.Integers.{width}
use Rattle.cpa_query.specs.declared.query.Query.{Query}
use Rattle.cpa_blast_circuits.specs.Laws.{CircuitsHaveValues}
use Rattle.cpa_blast.specs.Formulas.{first_bits, store_at}
use Rattle.cpa_blast.specs.Laws.{IsBlastable}
use Rattle.cpa_interpolant_bits.specs.Bits.{bit_of}
use Rattle.cpa_interpolant_cuts.specs.lemmas.Apart.{bits_apart}
use Rattle.cpa_interpolant_cuts.specs.lemmas.Digits.{bit_is_variable}

-- the variable is this bit of the cell, which has the type
pub record IsBitAt (cells : List IntType) (firsts : List ℕ) (cell : ℕ) (t : IntType) (place : ℕ)
    (variable : ℕ) : Type 0
  where
    pub first : ℕ
    pub ty : slice_get cells cell ≡ Some t
    pub at : slice_get firsts cell ≡ Some first
    pub inside : place < width t
    pub is : variable ≡ first + place

-- a variable is a bit of one cell at most, and one bit of it
pub record BitsStandApart : Type 0 where
  pub apart : (q : Query) (c d i j v : ℕ) (t u : IntType) → IsBlastable q
      → IsBitAt q.cells (first_bits q) c t i v → IsBitAt q.cells (first_bits q) d u j v
      → (c ≡ d) × (i ≡ j)

-- in the store that values of the variables give, a bit of a cell is the value of its variable
pub record BitsAreVariables : Type 0 where
  pub own : (cells : List IntType) (firsts : List ℕ) (truths : List Bool) (c j v : ℕ)
      (t : IntType) → IsBitAt cells firsts c t j v
      → bit_of j (slice_index_or (store_at cells firsts truths) c (pos 0))
      ≡ slice_index_or truths v false

pub bits_stand_apart : CircuitsHaveValues → BitsStandApart
bits_stand_apart circuits = record {
  apart = λ q c d i j v t u is one other.
      bits_apart circuits q is.asked is.few c d i j v one.first other.first t u one.ty one.at
      one.inside one.is other.ty other.at other.inside other.is;
}

pub bits_are_variables : BitsAreVariables
bits_are_variables = record {
  own = λ cells firsts truths c j v t is.
      bit_is_variable truths j v is.first t is.inside is.is cells firsts c is.ty is.at;
}
