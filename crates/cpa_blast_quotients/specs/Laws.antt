-- The laws of division. Below each statement, its lemma.
use Rattle.std.specs.Prelude.{◌≡◌, ℕ, ◌*◌, ◌<◌, List, length}
use Rattle.cpa_ints.specs.declared.integers.IntType.{IntType}
use Rattle.cpa_cnf.specs.Lines.{AreBelow}
use Rattle.cpa_blast_gates.specs.declared.gate.Gate.{Gate}
use Rattle.cpa_blast_gates.specs.Gates.{lit_value}
use Rattle.cpa_blast_gates.specs.Nets.{vars, IsScoped}
use Rattle.cpa_expr.specs.Values.{bin_value}
use Rattle.cpa_expr.specs.declared.tree.BinOp.TheVariants as bin
use Rattle.cpa_blast_words.specs.Words.{some_bit}
use Rattle.cpa_blast_words.specs.Truths.{values, number}
use Rattle.cpa_blast_words.specs.Values.{AreWords, MakesNumber, MakesValue, TestsValue}
use Rattle.cpa_blast_quotients.specs.Dividers.{divide}
use Rattle.cpa_blast_quotients.specs.Quotients.{signed_word, quotient, remainder}
use Rattle.cpa_blast_quotients.specs.Meanings.{MakesDivision, signed_number}
use Rattle.cpa_blast_quotients.specs.lemmas.Signs.{signed_is}
use Rattle.cpa_blast_quotients.specs.lemmas.QuotientMeanings as at

-- a divider made of words of a net divides their numbers
abbrev pub DividersDivide : Type 0
DividersDivide = (s : List Gate) (xs ys : List ℕ) → IsScoped s → AreBelow (vars s) xs
    → AreBelow (vars s) ys → length xs ≡ length ys → MakesDivision s xs ys (divide s xs ys)

pub dividers_divide : DividersDivide
dividers_divide = at.equal_lengths

-- a word turned by a sign stands for the two's complement where the sign is true
abbrev pub SignsTurnWords : Type 0
SignsTurnWords = (s : List Gate) (sign : ℕ) (xs : List ℕ) → IsScoped s → sign < 2 * vars s
    → AreBelow (vars s) xs → MakesNumber s (signed_word s sign xs) (length xs)
    (λ m. signed_number (lit_value m sign) (length xs) (number (values m xs)))

pub signs_turn_words : SignsTurnWords
signs_turn_words = signed_is

-- P holds of any two words of a type
abbrev pub OfWords : (IntType → List Gate → List ℕ → List ℕ → Type 0) → Type 0
OfWords P = (t : IntType) (s : List Gate) (xs ys : List ℕ) → AreWords t t s xs ys → P t s xs ys

-- at each type quotients and remainders stand for those of the numbers, and some bit of the divisor
-- is true exactly where there is one
pub record QuotientsDivide : Type 0 where
  pub quotient : OfWords (λ t s xs ys.
      MakesValue t t (bin_value bin.Div t) s xs ys (quotient t s xs ys))
  pub remainder : OfWords (λ t s xs ys.
      MakesValue t t (bin_value bin.Rem t) s xs ys (remainder t s xs ys))
  pub quotient_divisor : OfWords (λ t s xs ys.
      TestsValue t t (bin_value bin.Div t) s xs ys (some_bit s ys))
  pub remainder_divisor : OfWords (λ t s xs ys.
      TestsValue t t (bin_value bin.Rem t) s xs ys (some_bit s ys))

pub quotients_divide : QuotientsDivide
quotients_divide = record {
  quotient = at.quotient_makes;
  remainder = at.remainder_makes;
  quotient_divisor = at.quotient_tests;
  remainder_divisor = at.remainder_tests;
}
