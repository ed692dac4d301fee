-- What is made of the parts' answers at a node: the bits of its value, and the literal by which it
-- is evaluated without a trap (C11 6.5.3.3, 6.5.4 to 6.5.15). Literal 0 is true, literal 1 false.
use Rattle.std.specs.Prelude.{ℕ, ℤ, List, ◌∷◌, replicate, if◌then◌else◌}
use Rattle.cpa_ints.specs.declared.integers.IntType.{IntType}
use Rattle.cpa_ints.specs.declared.integers.IntType.TheVariants as ty
use Rattle.cpa_ints.specs.Integers.{width, is_signed}
use Rattle.cpa_ints.specs.Bits.{bits_of}
use Rattle.cpa_cnf.specs.Literals.{opposite}
use Rattle.cpa_blast_gates.specs.declared.gate.Gate.{Gate}
use Rattle.cpa_blast_gates.specs.Nets.{Built, built, negated, and_in, or_in, choice_in}
use Rattle.cpa_blast_words.specs.Words.{and_word, or_word, xor_word, choose_word, sum_word}
use Rattle.cpa_blast_words.specs.Words.{difference_word, negated_word, less, less_signed, equal}
use Rattle.cpa_blast_words.specs.Words.{some_bit}
use Rattle.cpa_blast_words.specs.Words.{opposites, constant_word, cast_word}
use Rattle.cpa_blast_arithmetic.specs.Products.{product}
use Rattle.cpa_blast_arithmetic.specs.Shifts.{is_amount, shifted_left, shifted_right}
use Rattle.cpa_blast_quotients.specs.Quotients.{quotient, remainder}
use Rattle.cpa_expr.specs.declared.tree.UnOp.{UnOp}
use Rattle.cpa_expr.specs.declared.tree.BinOp.{BinOp}
use Rattle.cpa_expr.specs.declared.tree.CmpOp.{CmpOp}
use Rattle.cpa_expr.specs.declared.tree.UnOp.TheVariants as un
use Rattle.cpa_expr.specs.declared.tree.BinOp.TheVariants as bin
use Rattle.cpa_expr.specs.declared.tree.CmpOp.TheVariants as cmp
use Rattle.cpa_blast_circuits.specs.declared.answer.Answer.{Answer}

abbrev pub answer_of : IntType → List ℕ → ℕ → Answer
answer_of t bits ok = record { ty = t; bits = bits; ok = ok }

-- a word just made, of a part that is evaluated without a trap where `ok` is true
abbrev pub answered : IntType → ℕ → Built (List ℕ) → Built Answer
answered t ok made = built made.net (answer_of t made.value ok)

-- a number; it does not trap
abbrev pub constant_answer : IntType → ℤ → Answer
constant_answer t n = answer_of t (constant_word (width t) (bits_of t n)) 0

unfoldable pub unary_in : UnOp → IntType → List Gate → Answer → Built Answer
unary_in un.Neg t net a = answered t a.ok (negated_word net a.bits)
unary_in un.Flip t net a = built net (answer_of t (opposites a.bits) a.ok)

-- the word of an operator on two words
unfoldable pub binary_word : BinOp → IntType → List Gate → List ℕ → List ℕ → Built (List ℕ)
binary_word bin.Add t net xs ys = sum_word net 1 xs ys
binary_word bin.Sub t net xs ys = difference_word net xs ys
binary_word bin.Mul t net xs ys = product net xs ys
binary_word bin.Div t net xs ys = quotient t net xs ys
binary_word bin.Rem t net xs ys = remainder t net xs ys
binary_word bin.BitAnd t net xs ys = and_word net xs ys
binary_word bin.BitOr t net xs ys = or_word net xs ys
binary_word bin.BitXor t net xs ys = xor_word net xs ys
binary_word bin.Shl t net xs ys = shifted_left t net xs ys
binary_word bin.Shr t net xs ys = shifted_right t net xs ys

-- whether the operator has a value, by its right operand
unfoldable pub binary_test : BinOp → IntType → List Gate → List ℕ → Built ℕ
binary_test bin.Div t net ys = some_bit net ys
binary_test bin.Rem t net ys = some_bit net ys
binary_test bin.Shl t net ys = is_amount t net ys
binary_test bin.Shr t net ys = is_amount t net ys
binary_test o t net ys = built net 0

-- both operands are evaluated, and then the operator has a value
unfoldable pub binary_in : BinOp → IntType → List Gate → Answer → Answer → Built Answer
binary_in o t net a b =
    let word = binary_word o t net a.bits b.bits in
    let test = binary_test o t word.net b.bits in
    let both = and_in test.net a.ok b.ok in
    let ok = and_in both.net both.value test.value in
    built ok.net (answer_of t word.value ok.value)

-- whether the first word of the type is less
unfoldable pub less_at : IntType → List Gate → List ℕ → List ℕ → Built ℕ
less_at t net xs ys = if is_signed t then less_signed net xs ys else less net xs ys

-- whether two words of the type compare so
unfoldable pub compared : CmpOp → IntType → List Gate → List ℕ → List ℕ → Built ℕ
compared cmp.Eq t net xs ys = equal net xs ys
compared cmp.Ne t net xs ys = negated (equal net xs ys)
compared cmp.Lt t net xs ys = less_at t net xs ys
compared cmp.Le t net xs ys = negated (less_at t net ys xs)
compared cmp.Gt t net xs ys = less_at t net ys xs
compared cmp.Ge t net xs ys = negated (less_at t net xs ys)

-- the word of the int 1 where the literal is true, else of 0
abbrev pub flag : ℕ → List ℕ
flag l = l ∷ replicate 31 1

unfoldable pub comparison_in : CmpOp → IntType → List Gate → Answer → Answer → Built Answer
comparison_in o t net a b =
    let truth = compared o t net a.bits b.bits in
    let ok = and_in truth.net a.ok b.ok in
    built ok.net (answer_of ty.I32 (flag truth.value) ok.value)

unfoldable pub cast_in : IntType → List Gate → Answer → Built Answer
cast_in t net a = answered t a.ok (cast_word a.ty t net a.bits)

-- the right side counts only where the left one is nonzero
unfoldable pub both_in : List Gate → Answer → Answer → Built Answer
both_in net a b =
    let left = some_bit net a.bits in
    let right = some_bit left.net b.bits in
    let truth = and_in right.net left.value right.value in
    let counted = or_in truth.net (opposite left.value) b.ok in
    let ok = and_in counted.net a.ok counted.value in
    built ok.net (answer_of ty.I32 (flag truth.value) ok.value)

-- the right side counts only where the left one is zero
unfoldable pub either_in : List Gate → Answer → Answer → Built Answer
either_in net a b =
    let left = some_bit net a.bits in
    let right = some_bit left.net b.bits in
    let truth = or_in right.net left.value right.value in
    let counted = or_in truth.net left.value b.ok in
    let ok = and_in counted.net a.ok counted.value in
    built ok.net (answer_of ty.I32 (flag truth.value) ok.value)

unfoldable pub not_in : List Gate → Answer → Built Answer
not_in net a =
    let truth = some_bit net a.bits in
    built truth.net (answer_of ty.I32 (flag (opposite truth.value)) a.ok)

-- of the two ends the one counts that the test picks
unfoldable pub conditional_in : IntType → List Gate → Answer → Answer → Answer → Built Answer
conditional_in t net test first second =
    let truth = some_bit net test.bits in
    let word = choose_word truth.net truth.value first.bits second.bits in
    let end = choice_in word.net truth.value first.ok second.ok in
    let ok = and_in end.net test.ok end.value in
    built ok.net (answer_of t word.value ok.value)
