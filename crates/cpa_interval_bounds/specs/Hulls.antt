-- The hull of a set of numbers, and the sets of which bounds are the hulls.
use Rattle.std.specs.Prelude.{◌≡◌, ℤ, true}
use Rattle.cpa_expr.specs.declared.tree.CmpOp.{CmpOp}
use Rattle.cpa_expr.specs.Values.{compares}
use Rattle.cpa_interval_bounds.specs.declared.bounds.Bounds.{Bounds}
use Rattle.cpa_interval_bounds.specs.Bounds.{Has}

-- the bounds have each number of the set, and both ends are in it
pub record IsHullOf (P : ℤ → Type 0) (b : Bounds) : Type 0 where
  pub has : (n : ℤ) → P n → Has b n
  pub least : P b.lo
  pub greatest : P b.hi

-- f gives the number for some numbers of a and b
pub record Gives (f : ℤ → ℤ → ℤ) (a b : Bounds) (n : ℤ) : Type 0 where
  pub left : ℤ
  pub right : ℤ
  pub of_left : Has a left
  pub of_right : Has b right
  pub is : n ≡ f left right

-- a number of a that compares so with some number of b
pub record Leaves (o : CmpOp) (a b : Bounds) (n : ℤ) : Type 0 where
  pub own : Has a n
  pub other : ℤ
  pub of_other : Has b other
  pub compares : compares o n other ≡ true
