-- The constants of the parts of a typed expression (`Constants.antt` of `c_types_rules`).
use Rattle.std.specs.Prelude.{ℤ, Bool, ◌||◌, List, Option}
use Rattle.std.specs.Prelude.{option_map, option_and_then}
use Rattle.std.specs.List.{list_any}
use Rattle.cpa_ints.specs.declared.integers.IntType.{IntType}
use Rattle.cpa_expr.specs.Values.{evaluated, conditional}
use Rattle.c_grammar_symbols.specs.declared.operators.BinaryOperator.{BinaryOperator}
use Rattle.c_grammar_tree.specs.declared.expression.UnaryOperator.{UnaryOperator}
use Rattle.c_types_rules.specs.declared.meaning.Constant.{Constant}
use Rattle.c_types_rules.specs.declared.meaning.Kind.{Kind}
use Rattle.c_types_rules.specs.declared.typed.TypedExpression.{TypedExpression}
use Rattle.c_types_rules.specs.declared.typed.TypedExpression.TheFolds.{fold-TypedSuffix}
use Rattle.c_types_rules.specs.declared.typed.TypedSuffix.{TypedSuffix}
use Rattle.c_types_rules.specs.Constants.{constant, constant_step, suffix_step, with_type}
use Rattle.c_types_rules.specs.Constants.{binary_value}
use Rattle.c_types_rules.specs.Constants.{unary_value, converted, comma_value}
use Rattle.c_types_rules.specs.Types.{value_kind, binary_type}

-- an operator that takes the values of both operands
abbrev pub both_value : Constant → BinaryOperator → Constant → Option ℤ
both_value left operator right = with_type left.ty (λ t. with_type right.ty
    (λ u. evaluated (λ a b. binary_value operator t a u b) left.value right.value))

-- a link of a chain
abbrev pub link_constant : BinaryOperator × TypedExpression → BinaryOperator × Constant
link_constant link = (link.0, constant link.1)

-- a suffix makes its expression no constant
unfoldable pub suffix_impure : TypedSuffix → Bool
suffix_impure = fold-TypedSuffix Constant Bool constant_step suffix_step

-- the type of an operator between operands of these types
abbrev pub joined_type : Option IntType → BinaryOperator → Option IntType → Option IntType
joined_type left operator right =
    with_type left (λ t. option_map (λ u. binary_type operator t u) right)

-- an operator before an operand
abbrev pub signed : UnaryOperator → Constant → Option Kind → Constant
signed operator operand kind = record {
  is_impure = operand.is_impure;
  ty = value_kind kind;
  value = with_type operand.ty (λ t. option_and_then (λ a. unary_value operator t a) operand.value);
}

-- an operand converted to a type
abbrev pub cast : Constant → Option Kind → Constant
cast operand kind = record {
  is_impure = operand.is_impure;
  ty = value_kind kind;
  value = option_and_then (λ a. converted kind a) operand.value;
}

-- a conditional
abbrev pub chosen : Constant → Constant → Constant → Option Kind → Constant
chosen test first second kind = record {
  is_impure = test.is_impure || first.is_impure || second.is_impure;
  ty = value_kind kind;
  value = option_and_then (λ a. converted kind a) (conditional test.value first.value second.value);
}

-- items of a comma expression
abbrev pub comma_constant : Option Kind → List Constant → Constant
comma_constant kind items = record {
  is_impure = list_any (λ item. item.is_impure) items;
  ty = value_kind kind;
  value = comma_value items;
}
