-- Whether an expression traps, as an expression that does not (where evaluation traps: C11 6.5.5 to
-- 6.5.7; which parts are evaluated: C11 6.5.13 to 6.5.15).
use Rattle.std.specs.Prelude.{ℕ, ℤ, pos, Bool, true, false, Option, None, Some}
use Rattle.cpa_ints.specs.declared.integers.IntType.{IntType}
use Rattle.cpa_ints.specs.declared.integers.IntType.TheVariants as ty
use Rattle.cpa_ints.specs.Integers.{width}
use Rattle.cpa_expr.specs.declared.tree.BinOp.{BinOp}
use Rattle.cpa_expr.specs.declared.tree.BinOp.TheVariants as bin
use Rattle.cpa_expr.specs.declared.tree.CmpOp.TheVariants as cmp
use Rattle.cpa_expr.specs.declared.tree.Expr.{Expr, roll-Expr}
use Rattle.cpa_expr.specs.declared.tree.Expr.TheVariants.{Const, Cmp, Cast, And, Or, Not, Cond}
use Rattle.cpa_expr.specs.declared.tree.Expr.TheOpen.{Expr-F}
use Rattle.cpa_expr.specs.declared.tree.Expr.TheFolds.{fold-Expr, map-Expr}

-- there is no value: the evaluation traps
abbrev pub is_trap : Option ℤ → Bool
is_trap None = true
is_trap (Some v) = false

-- the number 0 of type int
abbrev pub no : Expr
no = Const ty.I32 (pos 0)

-- whether the value does not lie from 0 to n - 1: a negative one counts, as an unsigned number,
-- from 2^63 up
abbrev pub is_outside : Expr → ℕ → Expr
is_outside e n = Cmp cmp.Ge ty.U64 (Cast ty.U64 e) (Const ty.U64 (pos n))

-- an expression, and the test of whether it traps
pub record Tested : Type 0 where
  pub whole : Expr
  pub test : Expr

-- of an operator's right operand: it traps, or it is a divisor of 0, or a shift's amount outside
-- the width
abbrev pub right_test : BinOp → IntType → Tested → Expr
right_test bin.Div t right = Or right.test (Not right.whole)
right_test bin.Rem t right = Or right.test (Not right.whole)
right_test bin.Shl t right = Or right.test (is_outside right.whole (width t))
right_test bin.Shr t right = Or right.test (is_outside right.whole (width t))
right_test _ t right = right.test

-- of a node: a part that is evaluated traps, or the node does by itself
abbrev pub node_test : Expr-F Tested → Expr
node_test (Expr-F.Const t n) = no
node_test (Expr-F.Read t base len index) = Or index.test (is_outside index.whole len)
node_test (Expr-F.Un o t arg) = arg.test
node_test (Expr-F.Bin o t left right) = Or left.test (right_test o t right)
node_test (Expr-F.Cmp o t left right) = Or left.test right.test
node_test (Expr-F.Cast t arg) = arg.test
node_test (Expr-F.And left right) = Or left.test (And left.whole right.test)
node_test (Expr-F.Or left right) = Or left.test (And (Not left.whole) right.test)
node_test (Expr-F.Not arg) = arg.test
node_test (Expr-F.Cond t test first second) =
    Or test.test (Cond ty.I32 test.whole first.test second.test)

-- a node and its test, with each part and the part's test in its place
abbrev pub tested_step : Expr-F Tested → Tested
tested_step node = record {
  whole = roll-Expr (map-Expr Tested Expr (λ part. part.whole) node);
  test = node_test node;
}

-- the test of whether the expression traps: it is 1 where the expression has no value, and else 0
abbrev pub trap_test : Expr → Expr
trap_test e = (fold-Expr Tested tested_step e).test

abbrev pub tested : Expr → Tested
tested e = record { whole = e; test = trap_test e }
