-- What a check tells, and that it is an expression of type int.
use Rattle.std.specs.Prelude.{◌≡◌, ℤ, pos, List, Option, None, Some, IfSome}
use Rattle.cpa_ints.specs.declared.integers.IntType.{IntType}
use Rattle.cpa_ints.specs.declared.integers.IntType.TheVariants as ty
use Rattle.cpa_expr.specs.declared.tree.Expr.{Expr}
use Rattle.cpa_expr.specs.Shape.{type_of, IsTyped}
use Rattle.cpa_expr.specs.Values.{value_of}
use Rattle.cpa_trap_checks.specs.Checks.{Check}

-- the value of a check on a store: 0 where it is never nonzero
abbrev pub check_value : Check → List ℤ → Option ℤ
check_value None values = Some (pos 0)
check_value (Some e) values = value_of e values

-- the check does not trap: its value is 1 where A holds, and 0 where A does not
pub data Tells (values : List ℤ) (c : Check) (A : Type 0) : Type 0 where
  tells : check_value c values ≡ Some (pos 1) → A → Tells values c A
  tells_not : check_value c values ≡ Some (pos 0) → (A → ⊥) → Tells values c A

-- a well-typed expression of type int (C11 6.5.13 and 6.5.14 give what tests are put together)
abbrev pub IsTest : List IntType → Expr → Type 0
IsTest cells e = IsTyped cells e × (type_of e ≡ ty.I32)

-- so is the check, where there is one
abbrev pub IsCheck : List IntType → Check → Type 0
IsCheck cells c = IfSome c (IsTest cells)
