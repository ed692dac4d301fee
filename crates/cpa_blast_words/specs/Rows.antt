-- What is made at one place of two words (Knuth, The Art of Computer Programming 4A, 7.1.2: half
-- and full adders): a bit, and what is carried to the next place.
use Rattle.std.specs.Prelude.{ℕ, List}
use Rattle.cpa_cnf.specs.Literals.{opposite}
use Rattle.cpa_blast_gates.specs.declared.gate.Gate.{Gate}
use Rattle.cpa_blast_gates.specs.Nets.{Built, built, and_in, or_in, xor_in, majority_in, choice_in}
use Rattle.cpa_blast_words.specs.declared.rows.Row.{Row}
use Rattle.cpa_blast_words.specs.declared.rows.Row.TheVariants as row
use Rattle.cpa_blast_words.specs.declared.rows.Column.{Column}

abbrev pub column_of : ℕ → ℕ → Column
column_of bit carry = record { bit = bit; carry = carry }

-- a bit just made, beside a carry
abbrev pub beside : ℕ → Built ℕ → Built Column
beside carry made = built made.net (column_of made.value carry)

-- a carry just made, beside a bit
abbrev pub carried : ℕ → Built ℕ → Built Column
carried bit made = built made.net (column_of bit made.value)

abbrev pub and_column : List Gate → ℕ → ℕ → ℕ → Built Column
and_column net c x y = beside c (and_in net x y)

abbrev pub or_column : List Gate → ℕ → ℕ → ℕ → Built Column
or_column net c x y = beside c (or_in net x y)

abbrev pub xor_column : List Gate → ℕ → ℕ → ℕ → Built Column
xor_column net c x y = beside c (xor_in net x y)

abbrev pub choice_column : List Gate → ℕ → ℕ → ℕ → Built Column
choice_column net c x y = beside c (choice_in net c x y)

-- the sum of x, y and the carry
abbrev pub sum_column : List Gate → ℕ → ℕ → ℕ → Built Column
sum_column net c x y =
    let unlike = xor_in net x y in
    let bit = xor_in unlike.net unlike.value c in
    carried bit.value (majority_in bit.net x y c)

-- what is borrowed where y and the carry are taken from x
abbrev pub less_column : List Gate → ℕ → ℕ → ℕ → Built Column
less_column net c x y = carried x (majority_in net (opposite x) y c)

-- whether x and y are equal and the carry is true
abbrev pub equal_column : List Gate → ℕ → ℕ → ℕ → Built Column
equal_column net c x y =
    let unlike = xor_in net x y in
    carried x (and_in unlike.net c (opposite unlike.value))

unfoldable pub row_in : Row → List Gate → ℕ → ℕ → ℕ → Built Column
row_in row.And net c x y = and_column net c x y
row_in row.Or net c x y = or_column net c x y
row_in row.Xor net c x y = xor_column net c x y
row_in row.Choose net c x y = choice_column net c x y
row_in row.Sum net c x y = sum_column net c x y
row_in row.Less net c x y = less_column net c x y
row_in row.Equal net c x y = equal_column net c x y
