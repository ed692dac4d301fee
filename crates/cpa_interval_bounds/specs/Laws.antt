-- What bounds have, as sets of numbers. Each record is the contract of a law of src/laws.rt; the
-- lemma below it is its proof, which a lemma of another crate cites.
use Rattle.std.specs.Prelude.{◌≡◌, ℤ, ◌≤ℤ◌, ◌+ℤ◌, ◌-ℤ◌, ◌*ℤ◌, neg_ℤ, int_div, pos, false, List}
use Rattle.std.specs.Prelude.{IfSome, IsSomeAnd, Some, None}
use Rattle.cpa_ints.specs.declared.integers.IntType.{IntType}
use Rattle.cpa_expr.specs.declared.tree.CmpOp.{CmpOp}
use Rattle.cpa_expr.specs.declared.tree.Expr.{Expr}
use Rattle.cpa_expr.specs.Shape.{type_of, IsTyped}
use Rattle.cpa_expr.specs.Values.{value_of}
use Rattle.cpa_interval_bounds.specs.declared.bounds.Bounds.{Bounds}
use Rattle.cpa_interval_bounds.specs.Bounds.{Has, IsOf, has}
use Rattle.cpa_interval_bounds.specs.Arithmetic.{negation, sum, difference, product, quotient}
use Rattle.cpa_interval_bounds.specs.Cuts.{cut}
use Rattle.cpa_interval_bounds.specs.ExpressionBounds.{AreOf, LieWithin, bounds_of}
use Rattle.cpa_interval_bounds.specs.lemmas.ExpressionLemmas as of
use Rattle.cpa_interval_bounds.specs.lemmas.Hulls as hulls
use Rattle.cpa_interval_bounds.specs.Hulls.{IsHullOf, Gives, Leaves}

-- the bounds of a well-typed expression are of its type, where those of each cell are of the cell's
pub record BoundsHaveTheType : Type 0 where
  pub typed : (types : List IntType) (cells : List Bounds) (e : Expr) → AreOf types cells
      → IsTyped types e → IfSome (bounds_of e cells) (IsOf (type_of e))

pub bounds_have_the_type : BoundsHaveTheType
bounds_have_the_type = record { typed = λ types cells e are. of.bounds_typed types cells are e }

-- the value of a well-typed expression is one of its bounds, where that of each cell is one of the
-- cell's; so where there are no bounds it traps
pub record BoundsHaveTheValue : Type 0 where
  pub value : (types : List IntType) (cells : List Bounds) (values : List ℤ) (e : Expr)
      → AreOf types cells → LieWithin cells values → IsTyped types e
      → IfSome (value_of e values) (λ n. IsSomeAnd (bounds_of e cells) (λ b. Has b n))

pub bounds_have_the_value : BoundsHaveTheValue
bounds_have_the_value = record {
  value = λ types cells values e are within. of.bounds_cover types cells values are within e;
}

-- what the operators give before they wrap, as hulls of sets
pub record BoundsAreHulls : Type 0 where
  pub negation : (a : Bounds) → a.lo ≤ℤ a.hi
      → IsHullOf (λ n. (x : ℤ) × Has a x × (n ≡ neg_ℤ x)) (negation a)
  pub sum : (a b : Bounds) → a.lo ≤ℤ a.hi → b.lo ≤ℤ b.hi → IsHullOf (Gives ◌+ℤ◌ a b) (sum a b)
  pub difference : (a b : Bounds) → a.lo ≤ℤ a.hi → b.lo ≤ℤ b.hi
      → IsHullOf (Gives ◌-ℤ◌ a b) (difference a b)
  pub product : (a b : Bounds) → a.lo ≤ℤ a.hi → b.lo ≤ℤ b.hi
      → IsHullOf (Gives ◌*ℤ◌ a b) (product a b)
  pub quotient : (a b : Bounds) → a.lo ≤ℤ a.hi → b.lo ≤ℤ b.hi → has b (pos 0) ≡ false
      → IsHullOf (Gives int_div a b) (quotient a b)

pub bounds_are_hulls : BoundsAreHulls
bounds_are_hulls = record {
  negation = hulls.negation_hull;
  sum = hulls.sum_hull;
  difference = hulls.difference_hull;
  product = hulls.product_hull;
  quotient = hulls.quotient_hull;
}

-- what a comparison leaves is the hull of the numbers that compare so with some number of the other
-- bounds, and nothing where there are none
pub record CutsAreHulls : Type 0 where
  pub some : (o : CmpOp) (a b c : Bounds) → a.lo ≤ℤ a.hi → b.lo ≤ℤ b.hi → cut o a b ≡ Some c
      → IsHullOf (Leaves o a b) c
  pub none : (o : CmpOp) (a b : Bounds) (n : ℤ) → cut o a b ≡ None → Leaves o a b n → ⊥

pub cuts_are_hulls : CutsAreHulls
cuts_are_hulls = record { some = hulls.cut_hull; none = hulls.cut_none }
