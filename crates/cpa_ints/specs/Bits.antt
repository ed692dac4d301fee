-- The bits of a number (C11 6.2.6.2, two's complement), read as a natural number.
use Rattle.std.specs.Prelude.{ℕ, ◌^◌, ℤ, pos, unsigned_abs}
use Rattle.std.specs.Int.{int_rem_euclid}
use Rattle.cpa_ints.specs.declared.integers.IntType.{IntType}
use Rattle.cpa_ints.specs.Integers.{width}

-- the two's complement of a at the type's width, read as a natural number
abbrev pub bits_of : IntType → ℤ → ℕ
bits_of t a = unsigned_abs (int_rem_euclid a (pos (2 ^ width t)))
