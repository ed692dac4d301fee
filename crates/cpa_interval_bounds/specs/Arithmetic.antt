-- The bounds of what operators give for numbers of two bounds. Those of sums, differences, products
-- and quotients are exact before they wrap; the others have what the operator gives (this project's
-- own).
use Rattle.std.specs.Prelude.{ℕ, ◌-◌, ◌^◌, ℤ, pos, negsuc, neg_ℤ, ◌+ℤ◌, ◌-ℤ◌, ◌*ℤ◌, int_div, int_le}
use Rattle.std.specs.Prelude.{int_lt}
use Rattle.std.specs.Prelude.{unsigned_abs, Bool, ◌&&◌, if◌then◌else◌}
use Rattle.std.specs.Int.{w128, int_max, int_min, int_div_euclid, leading_zeros, saturate_signed}
use Rattle.cpa_ints.specs.declared.integers.IntType.{IntType}
use Rattle.cpa_ints.specs.Integers.{width}
use Rattle.cpa_expr.specs.declared.tree.UnOp.{UnOp}
use Rattle.cpa_expr.specs.declared.tree.BinOp.{BinOp}
use Rattle.cpa_expr.specs.declared.tree.UnOp.TheVariants as un
use Rattle.cpa_expr.specs.declared.tree.BinOp.TheVariants as bin
use Rattle.cpa_interval_bounds.specs.declared.bounds.Bounds.{Bounds}
use Rattle.cpa_interval_bounds.specs.Bounds.{bounds, only, range_of, has, hull, fitted}

-- the numbers -x
abbrev pub negation : Bounds → Bounds
negation a = bounds (neg_ℤ a.hi) (neg_ℤ a.lo)

-- the numbers x + y
abbrev pub sum : Bounds → Bounds → Bounds
sum a b = bounds (a.lo +ℤ b.lo) (a.hi +ℤ b.hi)

-- the numbers x - y
abbrev pub difference : Bounds → Bounds → Bounds
difference a b = bounds (a.lo -ℤ b.hi) (a.hi -ℤ b.lo)

-- the hull of f x y for the ends x of a and y of b
abbrev pub of_ends : (ℤ → ℤ → ℤ) → Bounds → Bounds → Bounds
of_ends f a b =
    hull (hull (only (f a.lo b.lo)) (only (f a.lo b.hi)))
    (hull (only (f a.hi b.lo)) (only (f a.hi b.hi)))

-- the hull of the products
abbrev pub product : Bounds → Bounds → Bounds
product = of_ends ◌*ℤ◌

-- the hull of the quotients, rounded toward zero; 0 is no number of b
abbrev pub quotient : Bounds → Bounds → Bounds
quotient = of_ends int_div

-- the ends, no further out than 128 bits reach: which numbers of 64 bits they have stays the same
abbrev pub saturated : Bounds → Bounds
saturated a = bounds (saturate_signed w128 a.lo) (saturate_signed w128 a.hi)

-- no number is negative
abbrev pub is_from_zero : Bounds → Bool
is_from_zero a = int_le (pos 0) a.lo

-- what is left beside the quotient: less than the divisor, and no more than what is divided
abbrev pub remainder : Bounds → Bounds → Bounds
remainder a b =
    bounds (pos 0) (if int_lt (pos 0) b.hi then int_min a.hi (b.hi -ℤ pos 1) else a.hi)

-- the greatest number that has no more bits; 0 where there is a sign
abbrev pub all_ones : ℤ → ℤ
all_ones (pos n) = pos (2 ^ (128 - leading_zeros w128 n) - 1)
all_ones (negsuc n) = pos 0

-- bits that both have: no more than either
abbrev pub conjunction : Bounds → Bounds → Bounds
conjunction a b = bounds (pos 0) (int_min a.hi b.hi)

-- bits that either has: no less than either, and no more than all
abbrev pub disjunction : Bounds → Bounds → Bounds
disjunction a b = bounds (int_max a.lo b.lo) (all_ones (int_max a.hi b.hi))

-- bits that one of them has: no more than all
abbrev pub exclusion : Bounds → Bounds → Bounds
exclusion a b = bounds (pos 0) (all_ones (int_max a.hi b.hi))

-- the amount, or the next one from 0 to the width less 1
abbrev pub clamped : IntType → ℤ → ℕ
clamped t amount = unsigned_abs (int_max (pos 0) (int_min amount (pos (width t - 1))))

-- a divided by 2 to the power of the amount, rounded down
abbrev pub halved : IntType → ℤ → ℤ → ℤ
halved t a amount = int_div_euclid a (pos (2 ^ clamped t amount))

-- the least number shifted furthest, to the greatest one shifted least
abbrev pub shifted_right : IntType → Bounds → Bounds → Bounds
shifted_right t a b = bounds (halved t a.lo b.hi) (halved t a.hi b.lo)

-- the bounds, where no number of a or b is negative, and else all numbers of the type
abbrev pub from_zero : IntType → Bounds → Bounds → Bounds → Bounds
from_zero t a b inner = if is_from_zero a && is_from_zero b then inner else range_of t

-- the bounds of what an operator gives for the numbers of a
abbrev pub un_bounds : UnOp → IntType → Bounds → Bounds
un_bounds un.Neg t a = fitted t (negation a)
un_bounds un.Flip t a = range_of t

-- the bounds of what an operator gives for the numbers of a and b
abbrev pub bin_bounds : BinOp → IntType → Bounds → Bounds → Bounds
bin_bounds bin.Add t a b = fitted t (sum a b)
bin_bounds bin.Sub t a b = fitted t (difference a b)
bin_bounds bin.Mul t a b = fitted t (product a b)
bin_bounds bin.Div t a b = if has b (pos 0) then range_of t else fitted t (quotient a b)
bin_bounds bin.Rem t a b = from_zero t a b (remainder a b)
bin_bounds bin.BitAnd t a b = from_zero t a b (conjunction a b)
bin_bounds bin.BitOr t a b = from_zero t a b (disjunction a b)
bin_bounds bin.BitXor t a b = from_zero t a b (exclusion a b)
bin_bounds bin.Shl t a b = range_of t
bin_bounds bin.Shr t a b = from_zero t a b (shifted_right t a b)
