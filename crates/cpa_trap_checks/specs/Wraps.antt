-- Where the evaluation of an expression overflows (C11 6.5p5): it meets an operator of signed type
-- whose exact result is outside the type. A remainder never is, and a quotient is where the least
-- value is divided by -1. Of a shift to the left the exact result is the product with the power of
-- 2 (C11 6.5.7p4).
use Rattle.std.specs.Prelude.{◌⊎◌, ◌^◌, ℤ, pos, neg_ℤ, ◌+ℤ◌, ◌-ℤ◌, ◌*ℤ◌, int_div, ◌<ℤ◌, IsTrue}
use Rattle.std.specs.Prelude.{List, Option, None, Some, option_map, option_and_then, IsSomeAnd}
use Rattle.cpa_ints.specs.declared.integers.IntType.{IntType}
use Rattle.cpa_ints.specs.Integers.{is_signed, least, greatest}
use Rattle.cpa_expr.specs.declared.tree.UnOp.{UnOp}
use Rattle.cpa_expr.specs.declared.tree.BinOp.{BinOp}
use Rattle.cpa_expr.specs.declared.tree.UnOp.TheVariants as un
use Rattle.cpa_expr.specs.declared.tree.BinOp.TheVariants as bin
use Rattle.cpa_expr.specs.declared.tree.Expr.{Expr}
use Rattle.cpa_expr.specs.declared.tree.Expr.TheOpen.{Expr-F}
use Rattle.cpa_expr.specs.Values.{amount_of, divided_by, evaluated, value_of}
use Rattle.cpa_expr.specs.Evaluations.{Meets}

-- the type does not have the number
abbrev pub IsBeyond : IntType → ℤ → Type 0
IsBeyond t n = (n <ℤ least t) ⊎ (greatest t <ℤ n)

-- the exact result of an operator that can overflow, where it has one
abbrev pub exact_un : UnOp → ℤ → Option ℤ
exact_un un.Neg a = Some (neg_ℤ a)
exact_un un.Flip a = None

abbrev pub exact_bin : BinOp → IntType → ℤ → ℤ → Option ℤ
exact_bin bin.Add t a b = Some (a +ℤ b)
exact_bin bin.Sub t a b = Some (a -ℤ b)
exact_bin bin.Mul t a b = Some (a *ℤ b)
exact_bin bin.Div t a b = divided_by b (int_div a b)
exact_bin bin.Shl t a b = option_map (λ n. a *ℤ pos (2 ^ n)) (amount_of t b)
exact_bin _ t a b = None

-- the node itself overflows, where its parts have values
abbrev pub WrapsHere : List ℤ → Expr-F Expr → Type 0
WrapsHere values (Expr-F.Un o t arg) =
    IsTrue (is_signed t)
    × IsSomeAnd (option_and_then (exact_un o) (value_of arg values)) (IsBeyond t)
WrapsHere values (Expr-F.Bin o t left right) =
    IsTrue (is_signed t)
    × IsSomeAnd (evaluated (exact_bin o t) (value_of left values) (value_of right values))
    (IsBeyond t)
WrapsHere values _ = ⊥

-- the evaluation meets a node that overflows, up to its trap if it traps
abbrev pub Wraps : List ℤ → Expr → Type 0
Wraps values = Meets values (WrapsHere values)
