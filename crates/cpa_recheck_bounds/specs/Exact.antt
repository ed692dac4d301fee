-- Expressions whose value bounds of cells determine, and what is known then of a cell that is
-- written (this project's own).
use Rattle.std.specs.Prelude.{◌≡◌, ◌<◌, ◌||◌, not, ℕ, ℤ, Bool, true, List, map, Option, None, Some}
use Rattle.std.specs.Prelude.{slice_get}
use Rattle.std.specs.Ordering.{int_eq}
use Rattle.cpa_expr.specs.declared.tree.CmpOp.TheVariants as cmp
use Rattle.cpa_expr.specs.declared.tree.Expr.{Expr}
use Rattle.cpa_expr.specs.Cells.{may_read}
use Rattle.cpa_interval_bounds.specs.declared.bounds.Bounds.{Bounds}
use Rattle.cpa_interval_bounds.specs.Bounds.{only}
use Rattle.cpa_interval_acts.specs.Cuts.{cut_cell}
use Rattle.cpa_recheck_bounds.specs.declared.exact.Written.{Written}

-- the bounds have one number, where there are any
abbrev pub has_one : Option Bounds → Bool
has_one None = true
has_one (Some b) = int_eq b.lo b.hi

-- the expression does not read the cell, or it has one number
abbrev pub is_fixed : Expr → List Bounds → ℕ → Bool
is_fixed e all cell = not (may_read e cell) || has_one (slice_get all cell)

-- that is so of all cells below a number
abbrev pub AreFixedBelow : Expr → List Bounds → ℕ → Type 0
AreFixedBelow e all count = (cell : ℕ) → cell < count → is_fixed e all cell ≡ true

-- the lower ends
abbrev pub lows_of : List Bounds → List ℤ
lows_of = map (λ b. b.lo)

-- the cell has this value, if it is there
abbrev pub HasIfThere : List ℤ → Written → Type 0
HasIfThere store w = (v : ℤ) → slice_get store w.cell ≡ Some v → v ≡ w.value

-- what is left of the bounds of the cell then
abbrev pub cut_written : Option Written → List Bounds → Option (List Bounds)
cut_written None all = Some all
cut_written (Some w) all = cut_cell cmp.Eq w.cell (only w.value) all
