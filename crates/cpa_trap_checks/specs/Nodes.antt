-- Which nodes of an expression can trap (C11 6.5.2.1, 6.5.5, 6.5.7), and which can overflow (C11
-- 6.5p5): by their form alone, whatever the store is and whether they are evaluated or not.
use Rattle.std.specs.Prelude.{◌≡◌, ℕ, pos, Bool, true, false, ◌&&◌, ◌==◌, not}
use Rattle.std.specs.Ordering.{int_eq}
use Rattle.cpa_ints.specs.Integers.{is_signed}
use Rattle.cpa_expr.specs.declared.tree.UnOp.{UnOp}
use Rattle.cpa_expr.specs.declared.tree.BinOp.{BinOp}
use Rattle.cpa_expr.specs.declared.tree.UnOp.TheVariants as un
use Rattle.cpa_expr.specs.declared.tree.BinOp.TheVariants as bin
use Rattle.cpa_expr.specs.declared.tree.Expr.{Expr, out-Expr}
use Rattle.cpa_expr.specs.declared.tree.Expr.TheOpen.{Expr-F}
use Rattle.cpa_expr.specs.declared.tree.Expr.TheFolds.{every-Expr}

-- the number 0, of any type
abbrev pub is_constant_zero : {A : Type 0} → Expr-F A → Bool
is_constant_zero (Expr-F.Const t n) = int_eq n (pos 0)
is_constant_zero _ = false

-- one cell by itself: an index that is the number 0 into an array of length 1
abbrev pub is_one_cell : ℕ → Expr → Bool
is_one_cell len index = len == 1 && is_constant_zero (out-Expr index)

-- an operator that has no value for some operands: a divisor of 0, an amount outside the width
abbrev pub op_can_trap : BinOp → Bool
op_can_trap bin.Div = true
op_can_trap bin.Rem = true
op_can_trap bin.Shl = true
op_can_trap bin.Shr = true
op_can_trap _ = false

-- an operator whose exact result a signed type may lack
abbrev pub op_can_wrap : BinOp → Bool
op_can_wrap bin.Add = true
op_can_wrap bin.Sub = true
op_can_wrap bin.Mul = true
op_can_wrap bin.Div = true
op_can_wrap bin.Shl = true
op_can_wrap _ = false

abbrev pub un_can_wrap : UnOp → Bool
un_can_wrap un.Neg = true
un_can_wrap un.Flip = false

-- the node itself can trap
abbrev pub can_trap_here : Expr-F Expr → Bool
can_trap_here (Expr-F.Read t base len index) = not (is_one_cell len index)
can_trap_here (Expr-F.Bin o t left right) = op_can_trap o
can_trap_here _ = false

-- the node itself can overflow
abbrev pub can_wrap_here : Expr-F Expr → Bool
can_wrap_here (Expr-F.Un o t arg) = is_signed t && un_can_wrap o
can_wrap_here (Expr-F.Bin o t left right) = is_signed t && op_can_wrap o
can_wrap_here _ = false

-- no node of the expression, evaluated or not, passes the test
abbrev pub NoNode : (Expr-F Expr → Bool) → Expr → Type 0
NoNode test = every-Expr (λ node. test node ≡ false)
