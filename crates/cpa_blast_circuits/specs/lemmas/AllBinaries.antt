-- Every operator on two operands, at the types of its operands.
use Rattle.std.proofs.Common.{◌≡◌, ℕ, List, refl, sym, subst}
use Rattle.cpa_ints.specs.declared.integers.IntType.{IntType}
use Rattle.cpa_blast_gates.specs.declared.gate.Gate.{Gate}
use Rattle.cpa_blast_words.specs.Values.{AreWords}
use Rattle.cpa_blast_arithmetic.specs.Laws.{shifts_shift}
use Rattle.cpa_blast_quotients.specs.Laws.{quotients_divide}
use Rattle.cpa_expr.specs.declared.tree.BinOp.{BinOp}
use Rattle.cpa_expr.specs.declared.tree.BinOp.TheVariants as bin
use Rattle.cpa_blast_circuits.specs.Answers.{binary_word, binary_test}
use Rattle.cpa_blast_circuits.specs.lemmas.Binaries.{IsBinary, BinariesAre, sum_is_binary}
use Rattle.cpa_blast_circuits.specs.lemmas.Binaries.{difference_is_binary, product_is_binary}
use Rattle.cpa_blast_circuits.specs.lemmas.Binaries.{and_is_binary, or_is_binary, xor_is_binary}

-- an operator whose operands have one type
at_one_type : (o : BinOp) (t u : IntType) (s : List Gate) (xs ys : List ℕ) → u ≡ t
    → (AreWords t t s xs ys → IsBinary o t t s xs ys) → AreWords t u s xs ys
    → IsBinary o t u s xs ys
at_one_type o t u s xs ys same means =
    subst (λ v. AreWords t v s xs ys → IsBinary o t v s xs ys) (sym same) means

quotient_is_binary : (t : IntType) (s : List Gate) (xs ys : List ℕ) → AreWords t t s xs ys
    → IsBinary bin.Div t t s xs ys
unfolding binary_word binary_test
quotient_is_binary t s xs ys words = record {
  value = (quotients_divide).quotient t s xs ys words;
  test = λ net in_net. (quotients_divide).quotient_divisor t net xs ys in_net;
}

remainder_is_binary : (t : IntType) (s : List Gate) (xs ys : List ℕ) → AreWords t t s xs ys
    → IsBinary bin.Rem t t s xs ys
unfolding binary_word binary_test
remainder_is_binary t s xs ys words = record {
  value = (quotients_divide).remainder t s xs ys words;
  test = λ net in_net. (quotients_divide).remainder_divisor t net xs ys in_net;
}

left_is_binary : (t u : IntType) (s : List Gate) (xs ys : List ℕ) → AreWords t u s xs ys
    → IsBinary bin.Shl t u s xs ys
unfolding binary_word binary_test
left_is_binary t u s xs ys words = record {
  value = (shifts_shift).left t u s xs ys words;
  test = λ net in_net. (shifts_shift).left_amount t u net xs ys in_net;
}

right_is_binary : (t u : IntType) (s : List Gate) (xs ys : List ℕ) → AreWords t u s xs ys
    → IsBinary bin.Shr t u s xs ys
unfolding binary_word binary_test
right_is_binary t u s xs ys words = record {
  value = (shifts_shift).right t u s xs ys words;
  test = λ net in_net. (shifts_shift).right_amount t u net xs ys in_net;
}

pub binaries_are : BinariesAre
binaries_are bin.Add t u s xs ys other same =
    at_one_type bin.Add t u s xs ys (same refl) (sum_is_binary t s xs ys other)
binaries_are bin.Sub t u s xs ys other same =
    at_one_type bin.Sub t u s xs ys (same refl) (difference_is_binary t s xs ys other)
binaries_are bin.Mul t u s xs ys other same =
    at_one_type bin.Mul t u s xs ys (same refl) (product_is_binary t s xs ys other)
binaries_are bin.Div t u s xs ys other same =
    at_one_type bin.Div t u s xs ys (same refl) (quotient_is_binary t s xs ys)
binaries_are bin.Rem t u s xs ys other same =
    at_one_type bin.Rem t u s xs ys (same refl) (remainder_is_binary t s xs ys)
binaries_are bin.BitAnd t u s xs ys other same =
    at_one_type bin.BitAnd t u s xs ys (same refl) (and_is_binary t s xs ys other)
binaries_are bin.BitOr t u s xs ys other same =
    at_one_type bin.BitOr t u s xs ys (same refl) (or_is_binary t s xs ys other)
binaries_are bin.BitXor t u s xs ys other same =
    at_one_type bin.BitXor t u s xs ys (same refl) (xor_is_binary t s xs ys other)
binaries_are bin.Shl t u s xs ys other same = left_is_binary t u s xs ys
binaries_are bin.Shr t u s xs ys other same = right_is_binary t u s xs ys
