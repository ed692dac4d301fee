-- Shifts of words of literals by stages, one for each bit of the amount (a barrel shifter): where
-- the bit is true, the word is moved by 2 to the power of the bit's place. Literal 1 is false.
use Rattle.std.specs.Prelude.{ℕ, suc, ◌^◌, List, [], ◌∷◌, take, drop}
use Rattle.cpa_ints.specs.declared.integers.IntType.{IntType}
use Rattle.cpa_ints.specs.declared.integers.IntType.TheVariants as ty
use Rattle.cpa_blast_gates.specs.declared.gate.Gate.{Gate}
use Rattle.cpa_blast_gates.specs.Nets.{Built, built, negated}
use Rattle.cpa_blast_words.specs.Words.{choose_word, some_bit, filling}
use Rattle.cpa_blast_arithmetic.specs.declared.moves.Direction.{Direction}
use Rattle.cpa_blast_arithmetic.specs.declared.moves.Direction.TheVariants as toward
use Rattle.cpa_blast_arithmetic.specs.Moves.{moved}

-- how many bits a number below the type's width has
abbrev pub amount_bits : IntType → ℕ
amount_bits ty.Bool = 0
amount_bits ty.I8 = 3
amount_bits ty.U8 = 3
amount_bits ty.I16 = 4
amount_bits ty.U16 = 4
amount_bits ty.I32 = 5
amount_bits ty.U32 = 5
amount_bits ty.I64 = 6
amount_bits ty.U64 = 6

-- whether an amount lies below the width: none of its other bits is true
unfoldable pub is_amount : IntType → List Gate → List ℕ → Built ℕ
is_amount t net amount = negated (some_bit net (drop (amount_bits t) amount))

-- the word moved by 2 to the power of the place where the bit is true
unfoldable pub stage : Direction → ℕ → List Gate → ℕ → ℕ → List ℕ → Built (List ℕ)
stage direction filling net place bit xs =
    choose_word net bit (moved direction (2 ^ place) filling xs) xs

-- a stage for each bit of the amount, the first one at this place
unfoldable pub stages : Direction → ℕ → List Gate → ℕ → List ℕ → List ℕ → Built (List ℕ)
stages direction filling net place xs [] = built net xs
stages direction filling net place xs (bit ∷ bits) =
    let made = stage direction filling net place bit xs in
    stages direction filling made.net (suc place) made.value bits

-- a shift to the left is filled with false
unfoldable pub shifted_left : IntType → List Gate → List ℕ → List ℕ → Built (List ℕ)
shifted_left t net xs amount = stages toward.Left 1 net 0 xs (take (amount_bits t) amount)

-- and one to the right with the sign
unfoldable pub shifted_right : IntType → List Gate → List ℕ → List ℕ → Built (List ℕ)
shifted_right t net xs amount =
    stages toward.Right (filling t xs) net 0 xs (take (amount_bits t) amount)
