-- The integer types of C (C11 6.2.5, widths of LP64 and ILP32): width, sign and range.
use Rattle.std.specs.Prelude.{ℕ, ◌-◌, ◌^◌, ℤ, pos, neg_ℤ, ◌≤ℤ◌, Bool, true, false, if◌then◌else◌}
use Rattle.cpa_ints.specs.declared.integers.IntType.{IntType}
use Rattle.cpa_ints.specs.declared.integers.IntType.TheVariants as ty

-- how many bits a value has
abbrev pub width : IntType → ℕ
width ty.Bool = 1
width ty.I8 = 8
width ty.U8 = 8
width ty.I16 = 16
width ty.U16 = 16
width ty.I32 = 32
width ty.U32 = 32
width ty.I64 = 64
width ty.U64 = 64

-- whether it has negative values
abbrev pub is_signed : IntType → Bool
is_signed ty.Bool = false
is_signed ty.I8 = true
is_signed ty.U8 = false
is_signed ty.I16 = true
is_signed ty.U16 = false
is_signed ty.I32 = true
is_signed ty.U32 = false
is_signed ty.I64 = true
is_signed ty.U64 = false

-- the least value (C11 5.2.4.2.1, two's complement)
abbrev pub least : IntType → ℤ
least t = if is_signed t then neg_ℤ (pos (2 ^ (width t - 1))) else pos 0

-- the greatest value
abbrev pub greatest : IntType → ℤ
greatest t = if is_signed t then pos (2 ^ (width t - 1) - 1) else pos (2 ^ width t - 1)

-- a number of the type's range
abbrev pub IsInRange : IntType → ℤ → Type 0
IsInRange t n = (least t ≤ℤ n) × (n ≤ℤ greatest t)
