-- The values of operators and conversions, over values that are pure already (C11 6.3.1, 6.5.3.3,
-- 6.5.4 to 6.5.14; results wrap, this project's profile).
use Rattle.std.specs.Prelude.{ℕ, pos, Bool, true, false, if◌then◌else◌}
use Rattle.cpa_ints.specs.declared.integers.IntType.{IntType}
use Rattle.cpa_ints.specs.declared.integers.IntType.TheVariants as ty
use Rattle.cpa_ints.specs.Conversions.{promoted, common_type}
use Rattle.cpa_expr.specs.declared.tree.UnOp.TheVariants as un
use Rattle.cpa_expr.specs.declared.tree.BinOp.TheVariants as bin
use Rattle.cpa_expr.specs.declared.tree.CmpOp.TheVariants as cmp
use Rattle.cpa_expr.specs.declared.tree.Expr.{Expr, out-Expr}
use Rattle.cpa_expr.specs.declared.tree.Expr.TheOpen.{Expr-F}
use Rattle.cpa_expr.specs.declared.tree.Expr.TheVariants.{Const, Read, Un, Bin, Cmp, Cast}
use Rattle.cpa_expr.specs.declared.tree.Expr.TheVariants.{And, Or, Not, Cond}
use Rattle.cpa_expr.specs.Shape.{type_of}
use Rattle.cpa_expr.specs.Equality.{same_type}
use Rattle.c_grammar_symbols.specs.declared.operators.BinaryOperator.{BinaryOperator}
use Rattle.c_grammar_symbols.specs.declared.operators.BinaryOperator.TheVariants as binary
use Rattle.c_grammar_tree.specs.declared.expression.UnaryOperator.{UnaryOperator}
use Rattle.c_grammar_tree.specs.declared.expression.UnaryOperator.TheVariants as unary
use Rattle.c_core_rules.specs.declared.tree.Location.{Location}
use Rattle.c_types_rules.specs.Tables.{is_shift}

-- v converted to the type t (6.3.1): v itself where it has the type
abbrev pub conv : Expr → IntType → Expr
conv v t = if same_type (type_of v) t then v else Cast t v

-- v with its type promoted (6.3.1.1p2)
abbrev pub promote : Expr → Expr
promote v = conv v (promoted (type_of v))

-- `left operator right` where each operand has the type t; of a shift the right one may have
-- another (6.5.5 to 6.5.14)
abbrev pub node_of : BinaryOperator → IntType → Expr → Expr → Expr
node_of binary.LogicalOr t left right = Or left right
node_of binary.LogicalAnd t left right = And left right
node_of binary.BitOr t left right = Bin bin.BitOr t left right
node_of binary.BitXor t left right = Bin bin.BitXor t left right
node_of binary.BitAnd t left right = Bin bin.BitAnd t left right
node_of binary.Equal t left right = Cmp cmp.Eq t left right
node_of binary.NotEqual t left right = Cmp cmp.Ne t left right
node_of binary.Less t left right = Cmp cmp.Lt t left right
node_of binary.Greater t left right = Cmp cmp.Gt t left right
node_of binary.LessEqual t left right = Cmp cmp.Le t left right
node_of binary.GreaterEqual t left right = Cmp cmp.Ge t left right
node_of binary.ShiftLeft t left right = Bin bin.Shl t left right
node_of binary.ShiftRight t left right = Bin bin.Shr t left right
node_of binary.Add t left right = Bin bin.Add t left right
node_of binary.Subtract t left right = Bin bin.Sub t left right
node_of binary.Multiply t left right = Bin bin.Mul t left right
node_of binary.Divide t left right = Bin bin.Div t left right
node_of binary.Remainder t left right = Bin bin.Rem t left right

-- a shift promotes each operand by itself (6.5.7p3); every other operator converts both to their
-- common type (6.3.1.8)
abbrev pub operator_value : BinaryOperator → Expr → Expr → Expr
operator_value operator left right =
    if is_shift operator
    then node_of operator (promoted (type_of left)) (promote left) (promote right)
    else let t = common_type (type_of left) (type_of right) in
    node_of operator t (conv left t) (conv right t)

-- + - ~ ! (6.5.3.3)
abbrev pub signed_value : UnaryOperator → Expr → Expr
signed_value unary.Plus v = promote v
signed_value unary.Minus v = Un un.Neg (promoted (type_of v)) (promote v)
signed_value unary.Complement v = Un un.Flip (promoted (type_of v)) (promote v)
signed_value unary.Not v = Not v

-- test ? first : second (6.5.15p5)
abbrev pub chosen_value : Expr → Expr → Expr → Expr
chosen_value test first second =
    let t = common_type (type_of first) (type_of second) in
    Cond t test (conv first t) (conv second t)

-- 1 where v is nonzero, else 0
abbrev pub truth_of : Expr → Expr
truth_of v = Not (Not v)

abbrev pub int : ℕ → Expr
int n = Const ty.I32 (pos n)

-- the index of a scalar
abbrev pub first_index : Expr
first_index = int 0

-- a place that is read
abbrev pub element : Location → Expr → Expr
element place index = Read place.ty place.base place.len index

abbrev pub scalar : Location → Expr
scalar place = element place first_index

-- one cell of this type
abbrev pub cell_at : IntType → ℕ → Location
cell_at t n = record { ty = t; base = n; len = 1 }

abbrev pub is_constant_node : {A : Type 0} → Expr-F A → Bool
is_constant_node (Expr-F.Const t n) = true
is_constant_node _ = false

abbrev pub is_constant : Expr → Bool
is_constant v = is_constant_node (out-Expr v)
