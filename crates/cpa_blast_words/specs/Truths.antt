-- What rows and walks make of truth values, and the number that a word of them stands for (this
-- project's own).
use Rattle.std.specs.Prelude.{ℕ, ◌+◌, ◌*◌, ◌&&◌, ◌||◌, Bool, true, false, not, List, [], ◌∷◌, map}
use Rattle.std.specs.Prelude.{◌-◌, ◌++◌, length, take, drop, replicate, nat_le}
use Rattle.std.specs.Prelude.{if◌then◌else◌}
use Rattle.cpa_blast_gates.specs.Gates.{lit_value, differ, majority}
use Rattle.cpa_blast_words.specs.declared.rows.Row.{Row}
use Rattle.cpa_blast_words.specs.declared.rows.Row.TheVariants as row

-- the values of a word of literals
abbrev pub values : (ℕ → Bool) → List ℕ → List Bool
values m ls = map (lit_value m) ls

abbrev pub bit : Bool → ℕ
bit true = 1
bit false = 0

-- the number that a word stands for, the low bit first
abbrev pub number : List Bool → ℕ
number [] = 0
number (b ∷ bs) = bit b + 2 * number bs

-- what a row makes of the carry c and the bits x and y: the bit
abbrev pub row_bit : Row → Bool → Bool → Bool → Bool
row_bit row.And c x y = x && y
row_bit row.Or c x y = x || y
row_bit row.Xor c x y = differ x y
row_bit row.Choose c x y = if c then x else y
row_bit row.Sum c x y = differ (differ x y) c
row_bit row.Less c x y = x
row_bit row.Equal c x y = x

-- and what is carried on
abbrev pub row_carry : Row → Bool → Bool → Bool → Bool
row_carry row.And c x y = c
row_carry row.Or c x y = c
row_carry row.Xor c x y = c
row_carry row.Choose c x y = c
row_carry row.Sum c x y = majority x y c
row_carry row.Less c x y = majority (not x) y c
row_carry row.Equal c x y = c && not (differ x y)

-- the bits of a walk along two words
abbrev pub walked_bits : Row → Bool → List Bool → List Bool → List Bool
walked_bits row c [] ys = []
walked_bits row c (x ∷ xs) [] = []
walked_bits row c (x ∷ xs) (y ∷ ys) =
    row_bit row c x y ∷ walked_bits row (row_carry row c x y) xs ys

-- and what is carried out
abbrev pub walked_carry : Row → Bool → List Bool → List Bool → Bool
walked_carry row c [] ys = c
walked_carry row c (x ∷ xs) [] = c
walked_carry row c (x ∷ xs) (y ∷ ys) = walked_carry row (row_carry row c x y) xs ys

-- the word with its top bit flipped
abbrev pub flipped_top_bits : List Bool → List Bool
flipped_top_bits bs = take (length bs - 1) bs ++ map not (drop (length bs - 1) bs)

-- the word at another width: its low bits, or with more bits of the filling one
abbrev pub resized_bits : ℕ → Bool → List Bool → List Bool
resized_bits width filling bs =
    if nat_le width (length bs) then take width bs
    else bs ++ replicate (width - length bs) filling
