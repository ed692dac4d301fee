-- The bits of a cell (C11 6.2.6.2, two's complement), and the expression that is true where one is
-- set (this project's own).
use Rattle.std.specs.Prelude.{◌≡◌, ℕ, ◌/◌, ◌%◌, ◌^◌, ◌<◌, ◌==◌, ℤ, pos, Bool, true, false, List}
use Rattle.std.specs.Prelude.{Some, slice_get, slice_index_or}
use Rattle.cpa_ints.specs.declared.integers.IntType.{IntType}
use Rattle.cpa_ints.specs.declared.integers.IntType.TheVariants as ty
use Rattle.cpa_ints.specs.Integers.{width}
use Rattle.cpa_ints.specs.Bits.{bits_of}
use Rattle.cpa_expr.specs.declared.tree.BinOp.TheVariants as op
use Rattle.cpa_expr.specs.declared.tree.CmpOp.TheVariants as cmp
use Rattle.cpa_expr.specs.declared.tree.Expr.{Expr}
use Rattle.cpa_expr.specs.declared.tree.Expr.TheVariants.{Const, Bin, Cmp, Cast, Not}
use Rattle.cpa_expr.specs.Cells.{scalar_read}
use Rattle.cpa_interpolant_bits.specs.declared.bits.Bit.{Bit}

-- the bit at this place of a number in two's complement; a negative number has ones above
abbrev pub bit_of : ℕ → ℤ → Bool
bit_of place v = bits_of ty.U64 v / 2 ^ place % 2 == 1

-- the bit in a store
abbrev pub bit_in : List ℤ → Bit → Bool
bit_in values bit = bit_of bit.place (slice_index_or values bit.cell (pos 0))

-- the bit is one of a cell: the cell has the type, and the place lies inside
pub record IsBitOf (cells : List IntType) (bit : Bit) : Type 0 where
  pub at : slice_get cells bit.cell ≡ Some bit.ty
  pub inside : bit.place < width bit.ty

-- the cell as a number of 64 bits without a sign, moved to the right by the place
abbrev pub shifted : Bit → Expr
shifted bit =
    Bin op.Shr ty.U64 (Cast ty.U64 (scalar_read bit.ty bit.cell)) (Const ty.I32 (pos bit.place))

-- that its lowest bit is not 0
abbrev pub bit_read : Bit → Expr
bit_read bit =
    Cmp cmp.Ne ty.U64 (Bin op.BitAnd ty.U64 (shifted bit) (Const ty.U64 (pos 1)))
    (Const ty.U64 (pos 0))

-- that the bit has this value
abbrev pub bit_is : Bit → Bool → Expr
bit_is bit true = bit_read bit
bit_is bit false = Not (bit_read bit)
