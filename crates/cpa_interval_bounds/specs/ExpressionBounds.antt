-- The bounds of the value of an expression, where those of the cells are given; none where it has
-- no value (this project's own).
use Rattle.std.specs.Prelude.{ℤ, List, Option, Some, option_map, option_and_then}
use Rattle.std.specs.List.{AllZip}
use Rattle.cpa_ints.specs.declared.integers.IntType.{IntType}
use Rattle.cpa_expr.specs.declared.tree.Expr.{Expr}
use Rattle.cpa_expr.specs.declared.tree.Expr.TheOpen.{Expr-F}
use Rattle.cpa_expr.specs.declared.tree.Expr.TheFolds.{fold-Expr}
use Rattle.cpa_interval_bounds.specs.declared.bounds.Bounds.{Bounds}
use Rattle.cpa_interval_bounds.specs.Bounds.{IsOf, Has, only, hull_where_some, fitted}
use Rattle.cpa_interval_bounds.specs.Arithmetic.{un_bounds, bin_bounds}
use Rattle.cpa_interval_bounds.specs.Truths.{truths_of, numbers_of, compared, both_hold, one_holds}
use Rattle.cpa_interval_bounds.specs.Truths.{it_fails}
use Rattle.cpa_interval_bounds.specs.Elements.{read_bounds}

-- the bounds of each cell are of its type
abbrev pub AreOf : List IntType → List Bounds → Type 0
AreOf = AllZip IsOf

-- each value lies in the bounds of its cell
abbrev pub LieWithin : List Bounds → List ℤ → Type 0
LieWithin = AllZip Has

-- of both operands
abbrev pub of_both : {A : Type 0} → (Bounds → Bounds → Option A) → Option Bounds → Option Bounds
    → Option A
of_both f left right = option_and_then (λ a. option_and_then (λ b. f a b) right) left

-- the hull of both ends, whatever the test gives where it has a value
abbrev pub either_end : Option Bounds → Option Bounds → Option Bounds → Option Bounds
either_end test first second = option_and_then (λ a. hull_where_some first second) test

-- a node, with the bounds of each part in its place
abbrev pub bounds_step : List Bounds → Expr-F (Option Bounds) → Option Bounds
bounds_step cells (Expr-F.Const t n) = Some (only n)
bounds_step cells (Expr-F.Read t base len index) =
    option_and_then (read_bounds cells base len) index
bounds_step cells (Expr-F.Un o t arg) = option_map (un_bounds o t) arg
bounds_step cells (Expr-F.Bin o t left right) =
    of_both (λ a b. Some (bin_bounds o t a b)) left right
bounds_step cells (Expr-F.Cmp o t left right) =
    of_both (λ a b. numbers_of (compared o a b)) left right
bounds_step cells (Expr-F.Cast t arg) = option_map (fitted t) arg
bounds_step cells (Expr-F.And left right) =
    numbers_of (both_hold (truths_of left) (truths_of right))
bounds_step cells (Expr-F.Or left right) =
    numbers_of (one_holds (truths_of left) (truths_of right))
bounds_step cells (Expr-F.Not arg) = numbers_of (it_fails (truths_of arg))
bounds_step cells (Expr-F.Cond t test first second) = either_end test first second

-- the bounds of the expression; the list has those of each cell
abbrev pub bounds_of : Expr → List Bounds → Option Bounds
bounds_of e cells = fold-Expr (Option Bounds) (bounds_step cells) e
