-- Which expressions are too large (bounds of this project's own), and the sizes and heights that
-- decide it.
use Rattle.std.specs.Prelude.{ℕ, ◌+◌, max, min, ◌^◌, ◌-◌, nat_lt, ◌||◌, Bool, Option, None, Some}
use Rattle.std.specs.Prelude.{if◌then◌else◌}
use Rattle.cpa_expr.specs.declared.tree.Expr.{Expr}
use Rattle.cpa_expr.specs.Shape.{size, height}
use Rattle.cpa_interpolant_bits.specs.declared.extents.Extent.{Extent}
use Rattle.cpa_interpolant_bits.specs.declared.building.TheConstants.{MAX_SIZE, MAX_HEIGHT}

-- as far as 32 bits go
abbrev pub counted : ℕ → ℕ
counted n = min n (2 ^ 32 - 1)

abbrev pub extent_of : Expr → Extent
extent_of e = record { size = counted (size e); height = counted (height e) }

-- the extent of a node over two parts
abbrev pub joined_extent : Extent → Extent → Extent
joined_extent a b = record {
  size = counted (counted (a.size + b.size) + 1);
  height = counted (max a.height b.height + 1);
}

-- the expression has more than MAX_SIZE nodes, or is higher than MAX_HEIGHT
abbrev pub is_large : Expr → Bool
is_large e = nat_lt MAX_SIZE (size e) || nat_lt MAX_HEIGHT (height e)

-- the expression, unless it is too large
abbrev pub unless_large : Expr → Option Expr
unless_large e = if is_large e then None else Some e
