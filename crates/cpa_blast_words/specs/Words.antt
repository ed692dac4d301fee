-- Operators on words of literals, the low bit first, as walks and as words without gates (this
-- project's own). Literal 0 is true and literal 1 is false.
use Rattle.std.specs.Prelude.{ℕ, ◌-◌, ◌%◌, ◌/◌, ◌==◌, nat_le, zero, suc, Bool, List, [], ◌∷◌, ◌++◌}
use Rattle.std.specs.Prelude.{length, map, take, drop, replicate, if◌then◌else◌}
use Rattle.std.specs.Prelude.{slice_index_or}
use Rattle.cpa_ints.specs.declared.integers.IntType.{IntType}
use Rattle.cpa_ints.specs.Integers.{width, is_signed}
use Rattle.cpa_cnf.specs.Literals.{opposite}
use Rattle.cpa_blast_gates.specs.declared.gate.Gate.{Gate}
use Rattle.cpa_blast_gates.specs.Nets.{Built, built, negated}
use Rattle.cpa_blast_words.specs.declared.rows.Row.TheVariants as row
use Rattle.cpa_blast_words.specs.declared.walks.Walked.{Walked}
use Rattle.cpa_blast_words.specs.Walks.{walk}

abbrev pub bits_made : Built Walked → Built (List ℕ)
bits_made made = built made.net made.value.bits

abbrev pub carry_made : Built Walked → Built ℕ
carry_made made = built made.net made.value.carry

-- each literal's opposite
abbrev pub opposites : List ℕ → List ℕ
opposites xs = map opposite xs

-- as many false literals
abbrev pub falses : List ℕ → List ℕ
falses xs = replicate (length xs) 1

-- the word with its top literal flipped
abbrev pub flipped_top : List ℕ → List ℕ
flipped_top xs = take (length xs - 1) xs ++ opposites (drop (length xs - 1) xs)

-- bit by bit
unfoldable pub and_word : List Gate → List ℕ → List ℕ → Built (List ℕ)
and_word net xs ys = bits_made (walk row.And net 1 xs ys)

unfoldable pub or_word : List Gate → List ℕ → List ℕ → Built (List ℕ)
or_word net xs ys = bits_made (walk row.Or net 1 xs ys)

unfoldable pub xor_word : List Gate → List ℕ → List ℕ → Built (List ℕ)
xor_word net xs ys = bits_made (walk row.Xor net 1 xs ys)

-- the first word where the test is true, else the second
unfoldable pub choose_word : List Gate → ℕ → List ℕ → List ℕ → Built (List ℕ)
choose_word net test xs ys = bits_made (walk row.Choose net test xs ys)

-- the sum with a carry
unfoldable pub sum_word : List Gate → ℕ → List ℕ → List ℕ → Built (List ℕ)
sum_word net carry xs ys = bits_made (walk row.Sum net carry xs ys)

-- the sum with the two's complement
unfoldable pub difference_word : List Gate → List ℕ → List ℕ → Built (List ℕ)
difference_word net xs ys = sum_word net 0 xs (opposites ys)

unfoldable pub negated_word : List Gate → List ℕ → Built (List ℕ)
negated_word net xs = sum_word net 0 (opposites xs) (falses xs)

-- whether the first word is less, as natural numbers: what is borrowed at the end
unfoldable pub less : List Gate → List ℕ → List ℕ → Built ℕ
less net xs ys = carry_made (walk row.Less net 1 xs ys)

-- the same in two's complement
unfoldable pub less_signed : List Gate → List ℕ → List ℕ → Built ℕ
less_signed net xs ys = less net (flipped_top xs) (flipped_top ys)

unfoldable pub equal : List Gate → List ℕ → List ℕ → Built ℕ
equal net xs ys = carry_made (walk row.Equal net 0 xs ys)

-- whether some bit is true
unfoldable pub some_bit : List Gate → List ℕ → Built ℕ
some_bit net xs = negated (equal net xs (falses xs))

-- the word at another width: its low bits, or with more bits of the filling literal
abbrev pub resized_word : ℕ → ℕ → List ℕ → List ℕ
resized_word width filling xs =
    if nat_le width (length xs) then take width xs
    else xs ++ replicate (width - length xs) filling

-- by what a word of the type is filled: its top literal where the type has negative values
abbrev pub filling : IntType → List ℕ → ℕ
filling t xs = if is_signed t then slice_index_or xs (length xs - 1) 1 else 1

abbrev pub single : Built ℕ → Built (List ℕ)
single made = built made.net (made.value ∷ [])

-- a word of one type as a word of another: whether it has a true bit where the width is that of
-- Bool, else resized
unfoldable pub cast_word : IntType → IntType → List Gate → List ℕ → Built (List ℕ)
cast_word from onto net xs =
    if width onto == 1 then single (some_bit net xs)
    else built net (resized_word (width onto) (filling from xs) xs)

-- the literal of a truth value
abbrev pub constant_literal : Bool → ℕ
constant_literal b = if b then 0 else 1

-- the word of a number
abbrev pub constant_word : ℕ → ℕ → List ℕ
constant_word zero number = []
constant_word (suc width) number =
    constant_literal (number % 2 == 1) ∷ constant_word width (number / 2)
