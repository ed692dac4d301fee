-- What a comparison leaves of bounds: the hull of the numbers x of a for which x compares so with
-- some number of b (this project's own).
use Rattle.std.specs.Prelude.{pos, ◌+ℤ◌, ◌-ℤ◌, Option, if◌then◌else◌}
use Rattle.std.specs.Int.{int_max, int_min}
use Rattle.cpa_expr.specs.declared.tree.CmpOp.{CmpOp}
use Rattle.cpa_expr.specs.declared.tree.CmpOp.TheVariants as cmp
use Rattle.cpa_interval_bounds.specs.declared.bounds.Bounds.{Bounds}
use Rattle.cpa_interval_bounds.specs.Bounds.{between, meet}
use Rattle.cpa_interval_bounds.specs.Truths.{is_only}

abbrev pub cut : CmpOp → Bounds → Bounds → Option Bounds
cut cmp.Eq a b = meet a b
cut cmp.Ne a b =
    between (if is_only b a.lo then a.lo +ℤ pos 1 else a.lo)
    (if is_only b a.hi then a.hi -ℤ pos 1 else a.hi)
cut cmp.Lt a b = between a.lo (int_min a.hi (b.hi -ℤ pos 1))
cut cmp.Le a b = between a.lo (int_min a.hi b.hi)
cut cmp.Gt a b = between (int_max a.lo (b.lo +ℤ pos 1)) a.hi
cut cmp.Ge a b = between (int_max a.lo b.lo) a.hi
