-- What a test leaves of the bounds of cells (this project's own).
use Rattle.std.specs.Prelude.{ℕ, Bool, true, false, not, if◌then◌else◌, List, Option, None, Some}
use Rattle.std.specs.Prelude.{slice_get, slice_set, option_map, option_and_then}
use Rattle.cpa_ints.specs.declared.integers.IntType.{IntType}
use Rattle.cpa_expr.specs.declared.tree.CmpOp.{CmpOp}
use Rattle.cpa_expr.specs.declared.tree.Expr.{Expr, out-Expr, roll-Expr}
use Rattle.cpa_expr.specs.declared.tree.Expr.TheOpen.{Expr-F}
use Rattle.cpa_expr.specs.declared.tree.Expr.TheFolds.{fold-Expr, map-Expr}
use Rattle.cpa_folds.specs.declared.scalars.Scalar.{Scalar}
use Rattle.cpa_folds.specs.Scalars.{scalar_of}
use Rattle.cpa_interval_bounds.specs.declared.bounds.Bounds.{Bounds}
use Rattle.cpa_interval_bounds.specs.Bounds.{range_of, is_inside}
use Rattle.cpa_interval_bounds.specs.Truths.{truths_of, may_be, opposite, exchanged}
use Rattle.cpa_interval_bounds.specs.Cuts.{cut}
use Rattle.cpa_interval_bounds.specs.ExpressionBounds.{bounds_of}

-- ---- one cell

-- what a comparison with some number of the other bounds leaves of the cell's own, where it has any
abbrev pub cut_at : CmpOp → ℕ → Bounds → Option Bounds → List Bounds → Option (List Bounds)
cut_at o cell other None bs = Some bs
cut_at o cell other (Some own) bs = option_map (slice_set bs cell) (cut o own other)

-- the bounds with what it leaves of the cell's; nothing where it leaves no number
abbrev pub cut_cell : CmpOp → ℕ → Bounds → List Bounds → Option (List Bounds)
cut_cell o cell other bs = cut_at o cell other (slice_get bs cell) bs

-- ---- one side of a comparison

-- the type has all numbers of the bounds
abbrev pub fits : IntType → Option Bounds → Bool
fits t None = false
fits t (Some own) = is_inside own (range_of t)

-- the cell of the scalar, where the type has all numbers of its bounds
abbrev pub fitting : IntType → Option Scalar → List Bounds → Option ℕ
fitting t None bs = None
fitting t (Some read) bs = if fits t (slice_get bs read.cell) then Some read.cell else None

-- the cell whose value the expression has: it reads it as a scalar, or converts it once to a type
-- that has all numbers of its bounds
abbrev pub side_of : Expr-F Expr → List Bounds → Option ℕ
side_of (Expr-F.Cast t arg) bs = fitting t (scalar_of (out-Expr arg)) bs
side_of node bs = option_map (λ read. read.cell) (scalar_of node)

abbrev pub cut_where : CmpOp → Option ℕ → Bounds → List Bounds → Option (List Bounds)
cut_where o None other bs = Some bs
cut_where o (Some cell) other bs = cut_cell o cell other bs

-- the bounds where the expression compares so with some number of the other bounds
abbrev pub cut_side : CmpOp → Expr → Bounds → List Bounds → Option (List Bounds)
cut_side o e other bs = cut_where o (side_of (out-Expr e) bs) other bs

-- ---- a comparison

-- both sides are cut, by the bounds that the other side had before
abbrev pub cut_both : CmpOp → Expr → Expr → Option Bounds → Option Bounds → List Bounds
    → Option (List Bounds)
cut_both o left right (Some a) (Some b) bs =
    option_and_then (cut_side (exchanged o) right a) (cut_side o left b bs)
cut_both o left right a b bs = None

-- the comparison that holds where this one does, or does not
abbrev pub where_holds : Bool → CmpOp → CmpOp
where_holds true o = o
where_holds false o = opposite o

-- what a comparison says of the cells where it holds, or does not
abbrev pub compared_node : Expr-F Expr → Bool → List Bounds → Option (List Bounds)
compared_node (Expr-F.Cmp o t left right) holds bs =
    cut_both (where_holds holds o) left right (bounds_of left bs) (bounds_of right bs) bs
compared_node node holds bs = Some bs

-- ---- a test

-- a test that is asked as a whole: nothing where it cannot have this truth
abbrev pub decided : Expr → Bool → List Bounds → Option (List Bounds)
decided e holds bs =
    if may_be (truths_of (bounds_of e bs)) holds then compared_node (out-Expr e) holds bs else None

-- a test, and what is left of bounds where it holds, or does not
pub record Assumed : Type 0 where
  pub whole : Expr
  pub after : Bool → List Bounds → Option (List Bounds)

-- one part, and then the other one
abbrev pub both_after : Bool → Assumed → Assumed → List Bounds → Option (List Bounds)
both_after holds left right bs = option_and_then (right.after holds) (left.after holds bs)

-- A node, with what is left by each part in its place. That both parts of a conjunction hold, or
-- that both of a disjunction fail, is asked one part after the other; a negation is its opposite.
abbrev pub after_node : Expr → Expr-F Assumed → Bool → List Bounds → Option (List Bounds)
after_node e (Expr-F.And left right) holds bs =
    if holds then both_after true left right bs else decided e holds bs
after_node e (Expr-F.Or left right) holds bs =
    if holds then decided e holds bs else both_after false left right bs
after_node e (Expr-F.Not arg) holds bs = arg.after (not holds) bs
after_node e node holds bs = decided e holds bs

abbrev pub assume_step : Expr-F Assumed → Assumed
assume_step node = record {
  whole = roll-Expr (map-Expr Assumed Expr (λ part. part.whole) node);
  after = after_node (roll-Expr (map-Expr Assumed Expr (λ part. part.whole) node)) node;
}

-- the bounds where the test has this truth; nothing where it cannot
abbrev pub assumed : Expr → Bool → List Bounds → Option (List Bounds)
assumed e = (fold-Expr Assumed assume_step e).after
