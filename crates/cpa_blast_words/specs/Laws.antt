-- The laws of words: what a walk makes of literals, and the numbers that words stand for. Below
-- each statement, its lemma.
use Rattle.std.specs.Prelude.{◌≡◌, ℕ, ◌+◌, ◌-◌, ◌*◌, ◌%◌, ◌^◌, ◌<◌, ◌==◌, nat_lt, Bool, true, false}
use Rattle.std.specs.Prelude.{not, List, ◌++◌, length, map, take, replicate, bit_and, bit_or}
use Rattle.std.specs.Prelude.{bit_xor}
use Rattle.std.specs.Prelude.{if◌then◌else◌}
use Rattle.cpa_cnf.specs.Lines.{AreBelow}
use Rattle.cpa_blast_gates.specs.declared.gate.Gate.{Gate}
use Rattle.cpa_blast_gates.specs.Gates.{lit_value}
use Rattle.cpa_blast_gates.specs.Nets.{vars, IsScoped, Holds}
use Rattle.cpa_blast_gates.specs.Meanings.{Makes}
use Rattle.cpa_blast_words.specs.Words.{and_word, or_word, xor_word, choose_word, sum_word}
use Rattle.cpa_blast_words.specs.Words.{difference_word, negated_word, less, equal, some_bit}
use Rattle.cpa_blast_words.specs.Words.{opposites}
use Rattle.cpa_blast_words.specs.Words.{less_signed, constant_word, cast_word}
use Rattle.cpa_blast_words.specs.declared.rows.Row.{Row}
use Rattle.cpa_blast_words.specs.declared.rows.Row.TheVariants as row
use Rattle.cpa_blast_words.specs.Walks.{walk}
use Rattle.cpa_blast_words.specs.Truths.{bit, values, number, walked_bits, walked_carry}
use Rattle.cpa_blast_words.specs.Truths.{flipped_top_bits}
use Rattle.cpa_blast_words.specs.Meanings.{IsWalk, MakesWord}
use Rattle.cpa_blast_words.specs.lemmas.WalkMeanings.{walk_is}
use Rattle.cpa_blast_words.specs.Types.{WordsWrap, WordsAreEqual, WordsCompare, WordsCast}
use Rattle.cpa_blast_words.specs.Types.{cast_bits}
use Rattle.cpa_ints.specs.declared.integers.IntType.{IntType}
use Rattle.cpa_blast_words.specs.lemmas.Numbers as lemma
use Rattle.cpa_blast_words.specs.lemmas.WordMeanings as word
use Rattle.cpa_blast_words.specs.lemmas.Lengths as long
use Rattle.cpa_ints.specs.Integers.{width}
use Rattle.cpa_blast_words.specs.lemmas.AtTypes.{wrap_at_types, equal_at_types}
use Rattle.cpa_blast_words.specs.lemmas.Orders.{compare_at_types}
use Rattle.cpa_blast_words.specs.lemmas.Casts.{cast_at_types}

-- a walk of literals of a net means the walk of their values
abbrev pub WalksMeanTheirRows : Type 0
WalksMeanTheirRows = (row : Row) (s : List Gate) (c : ℕ) (xs ys : List ℕ) → IsScoped s
    → c < 2 * vars s → AreBelow (vars s) xs → AreBelow (vars s) ys
    → IsWalk s (walk row s c xs ys) row c xs ys

pub walks_mean_their_rows : WalksMeanTheirRows
walks_mean_their_rows = walk_is

-- P holds of any two words of one length
abbrev pub OfWords : (List Bool → List Bool → Type 0) → Type 0
OfWords P = (xs ys : List Bool) → length xs ≡ length ys → P xs ys

-- a word stands for a number below 2 to the power of its length; the low bits are the rest, and
-- more bits count as many times
pub record WordsAreNumbers : Type 0 where
  pub below : (bs : List Bool) → number bs < 2 ^ length bs
  pub low : (n : ℕ) (bs : List Bool) → number (take n bs) ≡ number bs % 2 ^ n
  pub appended : (xs ys : List Bool)
      → number (xs ++ ys) ≡ number xs + 2 ^ length xs * number ys
  pub falses : (k : ℕ) → number (replicate k false) ≡ 0
  pub trues : (k : ℕ) → number (replicate k true) + 1 ≡ 2 ^ k
  pub opposite : (bs : List Bool) → number (map not bs) + number bs + 1 ≡ 2 ^ length bs
  pub walked : (r : Row) (c : Bool) → OfWords
      (λ xs ys. length (walked_bits r c xs ys) ≡ length xs)

pub words_are_numbers : WordsAreNumbers
words_are_numbers = record {
  below = lemma.number_below;
  low = lemma.low_number;
  appended = lemma.number_append;
  falses = lemma.falses_number;
  trues = lemma.trues_number;
  opposite = lemma.flipped_number;
  walked = lemma.walked_length;
}

-- sums and differences are those of numbers, modulo 2 to the power of the length; with its carry
-- a sum is exact
pub record SumsAreSums : Type 0 where
  pub exact : (c : Bool) → OfWords (λ xs ys. number (walked_bits row.Sum c xs ys)
      + 2 ^ length xs * bit (walked_carry row.Sum c xs ys) ≡ number xs + number ys + bit c)
  pub sum : (c : Bool) → OfWords (λ xs ys. number (walked_bits row.Sum c xs ys)
      ≡ (number xs + number ys + bit c) % 2 ^ length xs)
  pub difference : OfWords (λ xs ys. number (walked_bits row.Sum true xs (map not ys))
      ≡ (number xs + (2 ^ length xs - number ys)) % 2 ^ length xs)

pub sums_are_sums : SumsAreSums
sums_are_sums = record {
  exact = lemma.sum_exact;
  sum = lemma.sum_number;
  difference = lemma.difference_number;
}

-- what is borrowed tells which number is less, and a chain of equal bits which are equal
pub record ComparisonsCompare : Type 0 where
  pub less : (c : Bool) → OfWords (λ xs ys. walked_carry row.Less c xs ys
      ≡ nat_lt (number xs) (number ys + bit c))
  pub equal : OfWords (λ xs ys. walked_carry row.Equal true xs ys ≡ (number xs == number ys))

pub comparisons_compare : ComparisonsCompare
comparisons_compare = record {
  less = lemma.less_number;
  equal = lemma.equal_number true;
}

-- masks are those of numbers, and a choice is one of the words
pub record MasksAreBitwise : Type 0 where
  pub conjunction : (c : Bool) → OfWords (λ xs ys. number (walked_bits row.And c xs ys)
      ≡ bit_and (number xs) (number ys))
  pub disjunction : (c : Bool) → OfWords (λ xs ys. number (walked_bits row.Or c xs ys)
      ≡ bit_or (number xs) (number ys))
  pub difference : (c : Bool) → OfWords (λ xs ys. number (walked_bits row.Xor c xs ys)
      ≡ bit_xor (number xs) (number ys))
  pub choice : (c : Bool) → OfWords (λ xs ys. walked_bits row.Choose c xs ys
      ≡ (if c then xs else ys))

pub masks_are_bitwise : MasksAreBitwise
masks_are_bitwise = record {
  conjunction = lemma.and_number;
  disjunction = lemma.or_number;
  difference = lemma.xor_number;
  choice = lemma.chosen_bits;
}

-- an operator on words of a net makes the word, or the literal, of these values
abbrev pub OfTwoWords : (List Gate → List ℕ → List ℕ → Type 0) → Type 0
OfTwoWords P = (s : List Gate) (xs ys : List ℕ) → IsScoped s → AreBelow (vars s) xs
    → AreBelow (vars s) ys → P s xs ys

abbrev pub OfOneWord : (List Gate → List ℕ → Type 0) → Type 0
OfOneWord P = (s : List Gate) (xs : List ℕ) → IsScoped s → AreBelow (vars s) xs → P s xs

pub record OperatorsAreMeant : Type 0 where
  pub conjunction : OfTwoWords (λ s xs ys. MakesWord s (and_word s xs ys)
      (λ m. walked_bits row.And (lit_value m 1) (values m xs) (values m ys)))
  pub disjunction : OfTwoWords (λ s xs ys. MakesWord s (or_word s xs ys)
      (λ m. walked_bits row.Or (lit_value m 1) (values m xs) (values m ys)))
  pub exclusion : OfTwoWords (λ s xs ys. MakesWord s (xor_word s xs ys)
      (λ m. walked_bits row.Xor (lit_value m 1) (values m xs) (values m ys)))
  pub choice : OfTwoWords (λ s xs ys. (test : ℕ) → test < 2 * vars s
      → MakesWord s (choose_word s test xs ys)
      (λ m. walked_bits row.Choose (lit_value m test) (values m xs) (values m ys)))
  pub sum : OfTwoWords (λ s xs ys. (c : ℕ) → c < 2 * vars s → MakesWord s (sum_word s c xs ys)
      (λ m. walked_bits row.Sum (lit_value m c) (values m xs) (values m ys)))
  pub difference : OfTwoWords (λ s xs ys. MakesWord s (difference_word s xs ys)
      (λ m. walked_bits row.Sum true (values m xs) (map not (values m ys))))
  pub negation : OfOneWord (λ s xs. MakesWord s (negated_word s xs)
      (λ m. walked_bits row.Sum true (map not (values m xs))
      (replicate (length (values m xs)) false)))
  pub less : OfTwoWords (λ s xs ys. Makes s (less s xs ys)
      (λ m. walked_carry row.Less false (values m xs) (values m ys)))
  pub less_signed : OfTwoWords (λ s xs ys. Makes s (less_signed s xs ys)
      (λ m. walked_carry row.Less false (flipped_top_bits (values m xs))
      (flipped_top_bits (values m ys))))
  pub equal : OfTwoWords (λ s xs ys. Makes s (equal s xs ys)
      (λ m. walked_carry row.Equal true (values m xs) (values m ys)))
  pub some_bit : OfOneWord (λ s xs. Makes s (some_bit s xs)
      (λ m. not (number (values m xs) == 0)))
  pub cast : (from onto : IntType) → OfOneWord (λ s xs. MakesWord s (cast_word from onto s xs)
      (λ m. cast_bits from onto (values m xs)))
  pub opposites : (m : ℕ → Bool) (ls : List ℕ) → values m (opposites ls) ≡ map not (values m ls)
  pub constant : (net : List Gate) (m : ℕ → Bool) (width n : ℕ) → Holds m net
      → number (values m (constant_word width n)) ≡ n % 2 ^ width

pub words_mean_their_operators : OperatorsAreMeant
words_mean_their_operators = record {
  conjunction = word.and_word_is;
  disjunction = word.or_word_is;
  exclusion = word.xor_word_is;
  choice = word.choose_word_is;
  sum = word.sum_word_is;
  difference = word.difference_word_is;
  negation = word.negated_word_is;
  less = word.less_is;
  less_signed = word.less_signed_is;
  equal = word.equal_is;
  some_bit = word.some_bit_is;
  cast = λ from onto s xs. word.cast_word_is s from onto xs;
  opposites = word.values_opposites;
  constant = word.constant_number;
}

-- a word is as long as its operands
abbrev pub IsLong : (List Gate → List ℕ → List ℕ → List ℕ) → Type 0
IsLong w = (net : List Gate) (xs ys : List ℕ) → length xs ≡ length ys
    → length (w net xs ys) ≡ length xs

pub record WordsAreLong : Type 0 where
  pub walked : (r : Row) (c : ℕ) → IsLong (λ net xs ys. (walk r net c xs ys).value.bits)
  pub conjunction : IsLong (λ net xs ys. (and_word net xs ys).value)
  pub disjunction : IsLong (λ net xs ys. (or_word net xs ys).value)
  pub exclusion : IsLong (λ net xs ys. (xor_word net xs ys).value)
  pub choice : (test : ℕ) → IsLong (λ net xs ys. (choose_word net test xs ys).value)
  pub sum : (c : ℕ) → IsLong (λ net xs ys. (sum_word net c xs ys).value)
  pub difference : IsLong (λ net xs ys. (difference_word net xs ys).value)
  pub negation : (net : List Gate) (xs : List ℕ) → length (negated_word net xs).value ≡ length xs
  pub cast : (from onto : IntType) (net : List Gate) (xs : List ℕ)
      → length (cast_word from onto net xs).value ≡ width onto
  pub constant : (w n : ℕ) → length (constant_word w n) ≡ w

pub words_are_long : WordsAreLong
words_are_long = record {
  walked = λ r c net xs ys. long.walk_long r net c xs ys;
  conjunction = long.and_long;
  disjunction = long.or_long;
  exclusion = long.xor_long;
  choice = λ test net xs ys. long.choose_long net test xs ys;
  sum = λ c net xs ys. long.sum_long net c xs ys;
  difference = long.difference_long;
  negation = long.negated_long;
  cast = long.cast_long;
  constant = long.constant_long;
}

-- at a type other than Bool sums, differences, negations and masks of words are those of the
-- numbers, wrapped; at each type words are equal where the numbers are
pub words_wrap : WordsWrap
words_wrap = wrap_at_types

pub words_are_equal : WordsAreEqual
words_are_equal = equal_at_types

-- and less where the numbers are
pub words_compare : WordsCompare
words_compare = compare_at_types

-- a word at the width of another type stands for the number cast to it
pub words_cast : WordsCast
words_cast = cast_at_types
