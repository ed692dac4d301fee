-- Quotients and remainders at a type (C11 6.5.5): the magnitudes are divided as natural numbers,
-- the quotient is negative where the signs differ, and what it leaves has the dividend's sign.
-- Literal 1 is false.
use Rattle.std.specs.Prelude.{ℕ, List, length, replicate}
use Rattle.cpa_ints.specs.declared.integers.IntType.{IntType}
use Rattle.cpa_blast_gates.specs.declared.gate.Gate.{Gate}
use Rattle.cpa_blast_gates.specs.Nets.{Built, xor_in}
use Rattle.cpa_blast_words.specs.Words.{filling, xor_word, sum_word}
use Rattle.cpa_blast_quotients.specs.declared.dividers.Divided.{Divided}
use Rattle.cpa_blast_quotients.specs.Dividers.{divide}

-- the two's complement where the sign is true, else the word: each bit is turned by the sign, and
-- the sign is added
unfoldable pub signed_word : List Gate → ℕ → List ℕ → Built (List ℕ)
signed_word net sign xs =
    let turned = xor_word net xs (replicate (length xs) sign) in
    sum_word turned.net sign turned.value (replicate (length xs) 1)

unfoldable pub divided_magnitudes : IntType → List Gate → List ℕ → List ℕ → Built Divided
divided_magnitudes t net xs ys =
    let left = signed_word net (filling t xs) xs in
    let right = signed_word left.net (filling t ys) ys in
    divide right.net left.value right.value

unfoldable pub quotient : IntType → List Gate → List ℕ → List ℕ → Built (List ℕ)
quotient t net xs ys =
    let both = divided_magnitudes t net xs ys in
    let sign = xor_in both.net (filling t xs) (filling t ys) in
    signed_word sign.net sign.value both.value.quotient

unfoldable pub remainder : IntType → List Gate → List ℕ → List ℕ → Built (List ℕ)
remainder t net xs ys =
    let both = divided_magnitudes t net xs ys in
    signed_word both.net (filling t xs) both.value.remainder
