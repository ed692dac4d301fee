-- The checks of an expression: expressions that do not trap, and are nonzero exactly where its
-- evaluation traps (C11 6.5.2.1, 6.5.5, 6.5.7), or overflows (C11 6.5p5). A part is looked at only
-- where it is evaluated (C11 6.5.13 to 6.5.15), and the left one of two operands first.
use Rattle.std.specs.Prelude.{ℕ, ◌-◌, ℤ, pos, negsuc, nat_lt, if◌then◌else◌, Option, None, Some}
use Rattle.std.specs.Prelude.{unwrap_or}
use Rattle.cpa_ints.specs.declared.integers.IntType.{IntType}
use Rattle.cpa_ints.specs.declared.integers.IntType.TheVariants as ty
use Rattle.cpa_ints.specs.Integers.{width, is_signed, least, greatest}
use Rattle.cpa_ints.specs.Conversions.{promoted}
use Rattle.cpa_expr.specs.declared.tree.UnOp.{UnOp}
use Rattle.cpa_expr.specs.declared.tree.BinOp.{BinOp}
use Rattle.cpa_expr.specs.declared.tree.CmpOp.{CmpOp}
use Rattle.cpa_expr.specs.declared.tree.UnOp.TheVariants as un
use Rattle.cpa_expr.specs.declared.tree.BinOp.TheVariants as bin
use Rattle.cpa_expr.specs.declared.tree.CmpOp.TheVariants as cmp
use Rattle.cpa_expr.specs.declared.tree.Expr.{Expr, roll-Expr}
use Rattle.cpa_expr.specs.declared.tree.Expr.TheVariants.{Const, Bin, Cmp, Cast, And, Or, Not, Cond}
use Rattle.cpa_expr.specs.declared.tree.Expr.TheOpen.{Expr-F}
use Rattle.cpa_expr.specs.declared.tree.Expr.TheFolds.{fold-Expr, map-Expr}
use Rattle.cpa_expr.specs.Shape.{type_of}
use Rattle.cpa_trap_checks.specs.Nodes.{is_one_cell}

-- a check; None stands for one that is never nonzero
abbrev pub Check : Type 0
Check = Option Expr

-- ---- checks of checks

-- one check, or else another
abbrev pub either : Check → Check → Check
either None b = b
either (Some a) None = Some a
either (Some a) (Some b) = Some (Or a b)

-- a check that counts where the expression is nonzero
abbrev pub where_nonzero : Expr → Check → Check
where_nonzero e None = None
where_nonzero e (Some c) = Some (And e c)

-- a check that counts where another one is zero
abbrev pub unless : Check → Check → Check
unless None c = c
unless (Some d) c = where_nonzero (Not d) c

-- the check as an expression
abbrev pub as_expr : Check → Expr
as_expr c = unwrap_or c (Const ty.I32 (pos 0))

-- one of two checks, picked by the expression
abbrev pub picked : Expr → Check → Check → Check
picked e None None = None
picked e first second = Some (Cond ty.I32 e (as_expr first) (as_expr second))

-- ---- a node's own test of a trap

-- whether the value of e compares so with a number of the type
abbrev pub compared : CmpOp → IntType → Expr → ℤ → Expr
compared o t e n = Cmp o t e (Const t n)

-- e after the integer promotions (C11 6.3.1.1)
abbrev pub promotion : Expr → Expr
promotion e = if nat_lt (width (type_of e)) (width ty.I32) then Cast ty.I32 e else e

-- whether the value of e, of type t, does not lie from 0 to most
abbrev pub outside_at : IntType → Expr → ℕ → Expr
outside_at t e most =
    if is_signed t then Or (compared cmp.Lt t e (pos 0)) (compared cmp.Gt t e (pos most))
    else compared cmp.Gt t e (pos most)

abbrev pub outside : Expr → ℕ → Expr
outside e most = outside_at (promoted (type_of e)) (promotion e) most

-- whether the operator has no value where its right operand has the value of b
abbrev pub own_trap : BinOp → IntType → Expr → Check
own_trap bin.Div t b = Some (compared cmp.Eq t b (pos 0))
own_trap bin.Rem t b = Some (compared cmp.Eq t b (pos 0))
own_trap bin.Shl t b = Some (outside b (width t - 1))
own_trap bin.Shr t b = Some (outside b (width t - 1))
own_trap _ t b = None

-- whether the index names none of len elements
abbrev pub index_trap : ℕ → Expr → Check
index_trap len index = if is_one_cell len index then None else Some (outside index (len - 1))

-- ---- a node's own test of an overflow

-- a is past what is left beside b of an end of the type: a > end - b, for one
abbrev pub is_past : CmpOp → BinOp → ℤ → IntType → Expr → Expr → Expr
is_past past o end t a b = Cmp past t a (Bin o t (Const t end) b)

abbrev pub add_wraps : IntType → Expr → Expr → Expr
add_wraps t a b =
    Or (And (compared cmp.Gt t b (pos 0)) (is_past cmp.Gt bin.Sub (greatest t) t a b))
    (And (compared cmp.Lt t b (pos 0)) (is_past cmp.Lt bin.Sub (least t) t a b))

abbrev pub sub_wraps : IntType → Expr → Expr → Expr
sub_wraps t a b =
    Or (And (compared cmp.Lt t b (pos 0)) (is_past cmp.Gt bin.Add (greatest t) t a b))
    (And (compared cmp.Gt t b (pos 0)) (is_past cmp.Lt bin.Add (least t) t a b))

-- a is not had back where an operator is undone by another one
abbrev pub is_lost : BinOp → BinOp → IntType → Expr → Expr → Expr
is_lost o back t a b = Cmp cmp.Ne t (Bin back t (Bin o t a b) b) a

abbrev pub mul_wraps : IntType → Expr → Expr → Expr
mul_wraps t a b =
    Or (And (compared cmp.Eq t b (negsuc 0)) (compared cmp.Eq t a (least t)))
    (And (And (compared cmp.Ne t b (pos 0)) (compared cmp.Ne t b (negsuc 0)))
    (is_lost bin.Mul bin.Div t a b))

abbrev pub div_wraps : IntType → Expr → Expr → Expr
div_wraps t a b = And (compared cmp.Eq t a (least t)) (compared cmp.Eq t b (negsuc 0))

abbrev pub shl_wraps : IntType → Expr → Expr → Expr
shl_wraps t a b = And (Not (outside b (width t - 1))) (is_lost bin.Shl bin.Shr t a b)

-- whether the operator overflows where its operands have the values of a and b
abbrev pub signed_wraps : BinOp → IntType → Expr → Expr → Check
signed_wraps bin.Add t a b = Some (add_wraps t a b)
signed_wraps bin.Sub t a b = Some (sub_wraps t a b)
signed_wraps bin.Mul t a b = Some (mul_wraps t a b)
signed_wraps bin.Div t a b = Some (div_wraps t a b)
signed_wraps bin.Shl t a b = Some (shl_wraps t a b)
signed_wraps _ t a b = None

abbrev pub bin_wraps : BinOp → IntType → Expr → Expr → Check
bin_wraps o t a b = if is_signed t then signed_wraps o t a b else None

abbrev pub un_wraps : UnOp → IntType → Expr → Check
un_wraps un.Neg t a = if is_signed t then Some (compared cmp.Eq t a (least t)) else None
un_wraps un.Flip t a = None

-- ---- the checks of an expression

-- an expression and its two checks
pub record Checked : Type 0 where
  pub whole : Expr
  pub trap : Check
  pub over : Check

-- of a node, where its parts and their checks stand in their places
abbrev pub trap_node : Expr-F Checked → Check
trap_node (Expr-F.Const t n) = None
trap_node (Expr-F.Read t base len index) = either index.trap (index_trap len index.whole)
trap_node (Expr-F.Un o t arg) = arg.trap
trap_node (Expr-F.Bin o t left right) =
    either left.trap (either right.trap (own_trap o t right.whole))
trap_node (Expr-F.Cmp o t left right) = either left.trap right.trap
trap_node (Expr-F.Cast t arg) = arg.trap
trap_node (Expr-F.And left right) = either left.trap (where_nonzero left.whole right.trap)
trap_node (Expr-F.Or left right) = either left.trap (where_nonzero (Not left.whole) right.trap)
trap_node (Expr-F.Not arg) = arg.trap
trap_node (Expr-F.Cond t test first second) =
    either test.trap (picked test.whole first.trap second.trap)

-- an overflow of the part, or else, where it does not trap, a later one
abbrev pub over_then : Checked → Check → Check
over_then part later = either part.over (unless part.trap later)

abbrev pub over_node : Expr-F Checked → Check
over_node (Expr-F.Const t n) = None
over_node (Expr-F.Read t base len index) = index.over
over_node (Expr-F.Un o t arg) = over_then arg (un_wraps o t arg.whole)
over_node (Expr-F.Bin o t left right) =
    over_then left (over_then right (bin_wraps o t left.whole right.whole))
over_node (Expr-F.Cmp o t left right) = over_then left right.over
over_node (Expr-F.Cast t arg) = arg.over
over_node (Expr-F.And left right) = over_then left (where_nonzero left.whole right.over)
over_node (Expr-F.Or left right) = over_then left (where_nonzero (Not left.whole) right.over)
over_node (Expr-F.Not arg) = arg.over
over_node (Expr-F.Cond t test first second) =
    over_then test (picked test.whole first.over second.over)

abbrev pub checked_step : Expr-F Checked → Checked
checked_step node = record {
  whole = roll-Expr (map-Expr Checked Expr (λ part. part.whole) node);
  trap = trap_node node;
  over = over_node node;
}

-- whether the evaluation of the expression traps
abbrev pub trap_check : Expr → Check
trap_check e = (fold-Expr Checked checked_step e).trap

-- whether it overflows, up to its trap if it traps
abbrev pub over_check : Expr → Check
over_check e = (fold-Expr Checked checked_step e).over

abbrev pub checked : Expr → Checked
checked e = record { whole = e; trap = trap_check e; over = over_check e }

-- ---- the checks of a write of a value into one of len elements: the index comes first

abbrev pub write_trap : ℕ → Expr → Expr → Check
write_trap len index value =
    either (either (trap_check index) (index_trap len index)) (trap_check value)

abbrev pub write_over : Expr → Expr → Check
write_over index value = over_then (checked index) (over_check value)
