-- Words of truth values at a type (C11 6.2.6.2, two's complement): the number that a word stands
-- for is the bits of a number of the type.
use Rattle.std.specs.Prelude.{◌≡◌, ◌≢◌, ℕ, ◌^◌, ◌<◌, ℤ, pos, neg_ℤ, ◌+ℤ◌, ◌-ℤ◌, Bool, true, false}
use Rattle.std.specs.Prelude.{◌-◌, ◌==◌, [], ◌∷◌, slice_index_or, if◌then◌else◌}
use Rattle.std.specs.Prelude.{not, List, length, map, replicate, bit_and, bit_or, bit_xor, int_lt}
use Rattle.std.specs.Ordering.{int_eq}
use Rattle.cpa_ints.specs.declared.integers.IntType.{IntType}
use Rattle.cpa_ints.specs.declared.integers.IntType.TheVariants.{Bool as Boolean}
use Rattle.cpa_ints.specs.Integers.{width, is_signed, IsInRange}
use Rattle.cpa_ints.specs.Wrapping.{IsCongruent, wrapped}
use Rattle.cpa_ints.specs.Bits.{bits_of}
use Rattle.cpa_blast_words.specs.declared.rows.Row.TheVariants as row
use Rattle.cpa_blast_words.specs.Truths.{number, walked_bits, walked_carry, flipped_top_bits}
use Rattle.cpa_blast_words.specs.Truths.{resized_bits}

-- the word stands for the number a of type t
pub record StandsFor (t : IntType) (bits : List Bool) (a : ℤ) : Type 0 where
  pub long : length bits ≡ width t
  pub is : number bits ≡ bits_of t a

-- P holds of words that stand for two numbers at a type other than Bool
abbrev pub OfNumbers : (IntType → List Bool → List Bool → ℤ → ℤ → Type 0) → Type 0
OfNumbers P = (t : IntType) (xs ys : List Bool) (a b : ℤ)
    → t ≢ Boolean → StandsFor t xs a → StandsFor t ys b → P t xs ys a b

-- the operators at a type other than Bool: sums, differences, negations and masks wrap
pub record WordsWrap : Type 0 where
  pub sum : OfNumbers (λ t xs ys a b.
      StandsFor t (walked_bits row.Sum false xs ys) (wrapped t (a +ℤ b)))
  pub difference : OfNumbers (λ t xs ys a b.
      StandsFor t (walked_bits row.Sum true xs (map not ys)) (wrapped t (a -ℤ b)))
  pub negation : (t : IntType) (xs : List Bool) (a : ℤ) → t ≢ Boolean → StandsFor t xs a
      → StandsFor t (walked_bits row.Sum true (map not xs) (replicate (length xs) false))
      (wrapped t (neg_ℤ a))
  pub flip : (t : IntType) (xs : List Bool) (a : ℤ) → t ≢ Boolean → StandsFor t xs a
      → StandsFor t (map not xs) (wrapped t (neg_ℤ a -ℤ pos 1))
  pub conjunction : (c : Bool) → OfNumbers (λ t xs ys a b. StandsFor t
      (walked_bits row.And c xs ys) (wrapped t (pos (bit_and (bits_of t a) (bits_of t b)))))
  pub disjunction : (c : Bool) → OfNumbers (λ t xs ys a b. StandsFor t
      (walked_bits row.Or c xs ys) (wrapped t (pos (bit_or (bits_of t a) (bits_of t b)))))
  pub exclusion : (c : Bool) → OfNumbers (λ t xs ys a b. StandsFor t
      (walked_bits row.Xor c xs ys) (wrapped t (pos (bit_xor (bits_of t a) (bits_of t b)))))

-- two words at a type, also Bool, are equal where the numbers of its range are
abbrev pub WordsAreEqual : Type 0
WordsAreEqual = (t : IntType) (xs ys : List Bool) (a b : ℤ) → IsInRange t a → IsInRange t b
    → StandsFor t xs a → StandsFor t ys b → walked_carry row.Equal true xs ys ≡ int_eq a b

-- the first word is less where the number is: as natural numbers where the type has no negative
-- values, and with the top bits flipped where it has
pub record WordsCompare : Type 0 where
  pub natural : (t : IntType) (xs ys : List Bool) (a b : ℤ) → is_signed t ≡ false
      → IsInRange t a → IsInRange t b → StandsFor t xs a → StandsFor t ys b
      → walked_carry row.Less false xs ys ≡ int_lt a b
  pub signed : (t : IntType) (xs ys : List Bool) (a b : ℤ) → is_signed t ≡ true
      → IsInRange t a → IsInRange t b → StandsFor t xs a → StandsFor t ys b
      → walked_carry row.Less false (flipped_top_bits xs) (flipped_top_bits ys) ≡ int_lt a b

-- by what a word of the type is filled: its top bit where the type has negative values
abbrev pub filling_bit : IntType → List Bool → Bool
filling_bit t bs = if is_signed t then slice_index_or bs (length bs - 1) false else false

-- the word of type s as a word of type t
abbrev pub cast_bits : IntType → IntType → List Bool → List Bool
cast_bits s t bs =
    if width t == 1 then not (number bs == 0) ∷ []
    else resized_bits (width t) (filling_bit s bs) bs

-- a word of type s cast to t stands for the number cast to t (C11 6.3.1.2, 6.3.1.3)
abbrev pub WordsCast : Type 0
WordsCast = (s t : IntType) (bs : List Bool) (a : ℤ) → IsInRange s a → StandsFor s bs a
    → StandsFor t (cast_bits s t bs) (wrapped t a)
