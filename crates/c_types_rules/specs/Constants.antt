-- Constant expressions and their values (C11 6.6), by the operators of pure expressions.
use Rattle.std.specs.Prelude.{ℤ, pos, Bool, true, false, ◌||◌, List}
use Rattle.std.specs.Prelude.{[], ◌∷◌, Option, None, Some, option_map, option_and_then}
use Rattle.std.specs.List.{list_any}
use Rattle.cpa_ints.specs.declared.integers.IntType.{IntType}
use Rattle.cpa_ints.specs.declared.integers.IntType.TheVariants as ty
use Rattle.cpa_ints.specs.Conversions.{promoted, common_type}
use Rattle.cpa_ints.specs.Wrapping.{wrapped}
use Rattle.cpa_expr.specs.declared.tree.UnOp.TheVariants as un
use Rattle.cpa_expr.specs.declared.tree.BinOp.{BinOp}
use Rattle.cpa_expr.specs.declared.tree.BinOp.TheVariants as bin
use Rattle.cpa_expr.specs.declared.tree.CmpOp.{CmpOp}
use Rattle.cpa_expr.specs.declared.tree.CmpOp.TheVariants as cmp
use Rattle.cpa_expr.specs.Values.{un_value, bin_value, compares, truth, evaluated, logical_and}
use Rattle.cpa_expr.specs.Values.{logical_or, logical_not, conditional}
use Rattle.c_grammar_symbols.specs.declared.operators.BinaryOperator.{BinaryOperator}
use Rattle.c_grammar_symbols.specs.declared.operators.BinaryOperator.TheVariants as binary
use Rattle.c_grammar_tree.specs.declared.expression.UnaryOperator.{UnaryOperator}
use Rattle.c_grammar_tree.specs.declared.expression.UnaryOperator.TheVariants as unary
use Rattle.c_types_rules.specs.declared.meaning.Constant.{Constant}
use Rattle.c_types_rules.specs.declared.meaning.Kind.{Kind}
use Rattle.c_types_rules.specs.declared.meaning.Kind.TheVariants.{Void, Value}
use Rattle.c_types_rules.specs.declared.meaning.Meaning.{Meaning}
use Rattle.c_types_rules.specs.declared.meaning.Meaning.TheVariants as meaning
use Rattle.c_types_rules.specs.declared.typed.TypedExpression.{TypedExpression}
use Rattle.c_types_rules.specs.declared.typed.TypedExpression.TheOpen.{TypedExpression-F}
use Rattle.c_types_rules.specs.declared.typed.TypedExpression.TheOpen.{TypedSuffix-F}
use Rattle.c_types_rules.specs.declared.typed.TypedExpression.TheFolds.{fold-TypedExpression}
use Rattle.c_types_rules.specs.Types.{value_kind, binary_type}

-- the value of an arithmetic operator, operands converted to the common type (C11 6.5.5, 6.5.6,
-- 6.5.10 to 6.5.12)
abbrev pub arithmetic : BinOp → IntType → ℤ → IntType → ℤ → Option ℤ
arithmetic operator t a u b =
    bin_value operator (common_type t u) (wrapped (common_type t u) a) (wrapped (common_type t u) b)

-- of a shift, each operand promoted by itself (C11 6.5.7)
abbrev pub shifted : BinOp → IntType → ℤ → IntType → ℤ → Option ℤ
shifted operator t a u b =
    bin_value operator (promoted t) (wrapped (promoted t) a) (wrapped (promoted u) b)

-- of a comparison, operands converted to the common type (C11 6.5.8 and 6.5.9)
abbrev pub compared : CmpOp → IntType → ℤ → IntType → ℤ → Option ℤ
compared operator t a u b =
    Some (truth (compares operator (wrapped (common_type t u) a) (wrapped (common_type t u) b)))

-- the value of `a operator b`, numbers of these types; none where it traps
abbrev pub binary_value : BinaryOperator → IntType → ℤ → IntType → ℤ → Option ℤ
binary_value binary.LogicalOr t a u b = logical_or (Some a) (Some b)
binary_value binary.LogicalAnd t a u b = logical_and (Some a) (Some b)
binary_value binary.BitOr t a u b = arithmetic bin.BitOr t a u b
binary_value binary.BitXor t a u b = arithmetic bin.BitXor t a u b
binary_value binary.BitAnd t a u b = arithmetic bin.BitAnd t a u b
binary_value binary.Equal t a u b = compared cmp.Eq t a u b
binary_value binary.NotEqual t a u b = compared cmp.Ne t a u b
binary_value binary.Less t a u b = compared cmp.Lt t a u b
binary_value binary.Greater t a u b = compared cmp.Gt t a u b
binary_value binary.LessEqual t a u b = compared cmp.Le t a u b
binary_value binary.GreaterEqual t a u b = compared cmp.Ge t a u b
binary_value binary.ShiftLeft t a u b = shifted bin.Shl t a u b
binary_value binary.ShiftRight t a u b = shifted bin.Shr t a u b
binary_value binary.Add t a u b = arithmetic bin.Add t a u b
binary_value binary.Subtract t a u b = arithmetic bin.Sub t a u b
binary_value binary.Multiply t a u b = arithmetic bin.Mul t a u b
binary_value binary.Divide t a u b = arithmetic bin.Div t a u b
binary_value binary.Remainder t a u b = arithmetic bin.Rem t a u b

-- the value of `operator a`, a number of this type
abbrev pub unary_value : UnaryOperator → IntType → ℤ → Option ℤ
unary_value unary.Not t a = logical_not (Some a)
unary_value unary.Plus t a = Some (wrapped (promoted t) a)
unary_value unary.Minus t a = Some (un_value un.Neg (promoted t) (wrapped (promoted t) a))
unary_value unary.Complement t a = Some (un_value un.Flip (promoted t) (wrapped (promoted t) a))

-- something of a type, where there is one
abbrev pub with_type : {T : Type 0} → Option IntType → (IntType → Option T) → Option T
with_type ty f = option_and_then f ty

-- the right operand of && and || is evaluated only where the left one does not decide
abbrev pub joined_value : BinaryOperator → Constant → Constant → Option ℤ
joined_value binary.LogicalOr left right = logical_or left.value right.value
joined_value binary.LogicalAnd left right = logical_and left.value right.value
joined_value operator left right =
    with_type left.ty (λ t. with_type right.ty (λ u. evaluated
    (λ a b. binary_value operator t a u b) left.value right.value))

-- two operands and an operator
abbrev pub joined : Constant → BinaryOperator × Constant → Constant
joined left (operator, right) = record {
  is_impure = left.is_impure || right.is_impure;
  ty = with_type left.ty (λ t. option_map (λ u. binary_type operator t u) right.ty);
  value = joined_value operator left right;
}

-- operands from the left
abbrev pub chained : Constant → List (BinaryOperator × Constant) → Constant
chained left [] = left
chained left (link ∷ links) = chained (joined left link) links

-- a number converted to a type; void counts as 0
abbrev pub converted : Option Kind → ℤ → Option ℤ
converted None a = None
converted (Some Void) a = Some (pos 0)
converted (Some (Value t)) a = Some (wrapped t a)

-- one after the other, of which the last has the value
abbrev pub last_value : Option ℤ → List Constant → Option ℤ
last_value before [] = before
last_value before (item ∷ items) = last_value (option_and_then (λ a. item.value) before) items

abbrev pub comma_value : List Constant → Option ℤ
comma_value [] = None
comma_value (item ∷ items) = last_value item.value items

-- what a name stands for is an object
abbrev pub is_object : Option Meaning → Bool
is_object (Some (meaning.Object object)) = true
is_object _ = false

-- a name as a constant: that of an enumerator is one (C11 6.7.2.2p3)
abbrev pub named_constant : Option Meaning → Constant
named_constant (Some (meaning.Enumerator n)) =
    record { is_impure = false; ty = Some ty.I32; value = Some n }
named_constant meaning = record { is_impure = is_object meaning; ty = None; value = None }

-- no constant
abbrev pub impure : Constant
impure = record { is_impure = true; ty = None; value = None }

-- a suffix with a constant for each expression in it: whether it calls, assigns or holds what does
abbrev pub suffix_step : TypedSuffix-F Constant Bool → Bool
suffix_step (TypedSuffix-F.Index index kind place) = index.is_impure
suffix_step _ = true

-- an expression with a constant for each part of it
abbrev pub constant_step : TypedExpression-F Constant Bool → Constant
constant_step (TypedExpression-F.Name meaning place) = named_constant meaning
constant_step (TypedExpression-F.Number t n place) =
    record { is_impure = false; ty = Some t; value = Some n }
constant_step (TypedExpression-F.Character n place) =
    record { is_impure = false; ty = Some ty.I32; value = Some n }
constant_step (TypedExpression-F.Bracketed inner place) = inner
constant_step (TypedExpression-F.Postfix base suffixes place) = record {
  is_impure = base.is_impure || list_any (λ is_impure. is_impure) suffixes;
  ty = None;
  value = None;
}
constant_step (TypedExpression-F.PrefixStep operator operand kind place) = impure
constant_step (TypedExpression-F.Unary operator operand kind place) = record {
  is_impure = operand.is_impure;
  ty = value_kind kind;
  value = with_type operand.ty (λ t. option_and_then (λ a. unary_value operator t a) operand.value);
}
constant_step (TypedExpression-F.Cast operand kind place) = record {
  is_impure = operand.is_impure;
  ty = value_kind kind;
  value = option_and_then (λ a. converted kind a) operand.value;
}
constant_step (TypedExpression-F.Chain first rest kind place) = chained first rest
constant_step (TypedExpression-F.Conditional test first second kind place) = record {
  is_impure = test.is_impure || first.is_impure || second.is_impure;
  ty = value_kind kind;
  value = option_and_then (λ a. converted kind a) (conditional test.value first.value second.value);
}
constant_step (TypedExpression-F.Assignment left operator right kind place) = impure
constant_step (TypedExpression-F.Comma items kind place) = record {
  is_impure = list_any (λ item. item.is_impure) items;
  ty = value_kind kind;
  value = comma_value items;
}

-- a typed expression as a constant
unfoldable pub constant : TypedExpression → Constant
constant = fold-TypedExpression Constant Bool constant_step suffix_step
