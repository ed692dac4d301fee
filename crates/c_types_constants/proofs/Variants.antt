-- The constant of each variant of a typed expression, from those of its parts (`opened`).
use Rattle.std.proofs.Common.{◌≡◌, ℕ, ℤ, Bool, true, false, ◌||◌}
use Rattle.std.proofs.Common.{List, [], ◌∷◌, map, Option, None, Some}
use Rattle.std.proofs.Common.{◌≤◌, length, pos, refl, ap, sym, ◌∙◌, arith}
use Rattle.std.specs.List.{list_any}
use Rattle.cpa_ints.specs.declared.integers.IntType.{IntType}
use Rattle.cpa_ints.specs.declared.integers.IntType.TheVariants as ty
use Rattle.c_grammar_symbols.specs.declared.operators.BinaryOperator.{BinaryOperator}
use Rattle.c_grammar_symbols.specs.declared.operators.AssignmentOperator.{AssignmentOperator}
use Rattle.c_grammar_symbols.specs.declared.operators.StepOperator.{StepOperator}
use Rattle.c_grammar_tree.specs.declared.expression.UnaryOperator.{UnaryOperator}
use Rattle.c_types_rules.specs.declared.meaning.Constant.{Constant}
use Rattle.c_types_rules.specs.declared.meaning.Kind.{Kind}
use Rattle.c_types_rules.specs.declared.meaning.Meaning.{Meaning}
use Rattle.c_types_rules.specs.declared.typed.TypedExpression.{TypedExpression}
use Rattle.c_types_rules.specs.declared.typed.TypedExpression.{roll-TypedExpression}
use Rattle.c_types_rules.specs.declared.typed.TypedExpression.TheVariants as tree
use Rattle.c_types_rules.specs.declared.typed.TypedExpression.TheOpen.{TypedExpression-F}
use Rattle.c_types_rules.specs.declared.typed.TypedExpression.TheOpen.{TypedSuffix-F}
use Rattle.c_types_rules.specs.declared.typed.TypedExpression.TheFolds.{fold-TypedExpression}
use Rattle.c_types_rules.specs.declared.typed.TypedExpression.TheFolds.{fold-TypedSuffix}
use Rattle.c_types_rules.specs.declared.typed.TypedExpression.TheFolds.{map-TypedExpression}
use Rattle.c_types_rules.specs.declared.typed.TypedExpression.TheFolds.{map-TypedSuffix}
use Rattle.c_types_rules.specs.declared.typed.TypedExpression.TheFolds.{fold-roll-TypedExpression}
use Rattle.c_types_rules.specs.declared.typed.TypedExpression.TheFolds.{fold-roll-TypedSuffix}
use Rattle.c_types_rules.specs.declared.typed.TypedSuffix.{TypedSuffix, roll-TypedSuffix}
use Rattle.c_types_rules.specs.declared.typed.TypedSuffix.TheVariants as behind
use Rattle.c_types_rules.specs.Constants.{constant, constant_step, suffix_step}
use Rattle.c_types_rules.specs.Constants.{named_constant, impure, chained, last_value, comma_value}
use Rattle.c_types_constants.specs.Links.{link_constant, suffix_impure, signed}
use Rattle.c_types_constants.specs.Links.{cast, chosen, comma_constant}

opened : (e : TypedExpression) (x : TypedExpression-F TypedExpression TypedSuffix) →
    roll-TypedExpression x ≡ e → constant e ≡ constant_step
    (map-TypedExpression TypedExpression TypedSuffix Constant Bool constant suffix_impure x)
unfolding constant suffix_impure
opened e x is = ap (fold-TypedExpression Constant Bool constant_step suffix_step) (sym is)
    ∙ fold-roll-TypedExpression Constant Bool constant_step suffix_step x

opened_suffix : (s : TypedSuffix) (x : TypedSuffix-F TypedExpression TypedSuffix) →
    roll-TypedSuffix x ≡ s → suffix_impure s ≡ suffix_step
    (map-TypedSuffix TypedExpression TypedSuffix Constant Bool constant suffix_impure x)
unfolding constant suffix_impure
opened_suffix s x is = ap (fold-TypedSuffix Constant Bool constant_step suffix_step) (sym is)
    ∙ fold-roll-TypedSuffix Constant Bool constant_step suffix_step x

any_map : (xs : List TypedSuffix) →
    list_any (λ is_impure. is_impure) (map suffix_impure xs) ≡ list_any suffix_impure xs
any_map [] = refl
any_map (x ∷ xs) = ap (λ b. suffix_impure x || b) (any_map xs)

-- before the first of some items the value may be any number
pub any_start : (items : List TypedExpression) → 1 ≤ length items →
    last_value (Some (pos 0)) (map constant items) ≡ comma_value (map constant items)
any_start [] h = absurd (omega arith)
any_start (item ∷ items) h = refl

pub constant_Name : (found : Option Meaning) (place : ℕ) →
    constant (tree.Name found place) ≡ named_constant found
constant_Name found place =
    opened (tree.Name found place)
    (TypedExpression-F.Name found place)
    (tree.rolls-Name found place)

pub constant_Number : (t : IntType) (n : ℤ) (place : ℕ) →
    constant (tree.Number t n place) ≡ record { is_impure = false; ty = Some t; value = Some n }
constant_Number t n place =
    opened (tree.Number t n place)
    (TypedExpression-F.Number t n place)
    (tree.rolls-Number t n place)

pub constant_Character : (n : ℤ) (place : ℕ) →
    constant (tree.Character n place)
    ≡ record { is_impure = false; ty = Some ty.I32; value = Some n }
constant_Character n place =
    opened (tree.Character n place)
    (TypedExpression-F.Character n place)
    (tree.rolls-Character n place)

pub constant_Bracketed : (inside : TypedExpression) (place : ℕ) →
    constant (tree.Bracketed inside place) ≡ constant inside
constant_Bracketed inside place =
    opened (tree.Bracketed inside place)
    (TypedExpression-F.Bracketed inside place)
    (tree.rolls-Bracketed inside place)

pub constant_Postfix : (base : TypedExpression) (suffixes : List TypedSuffix) (place : ℕ) →
    constant (tree.Postfix base suffixes place) ≡ record {
      is_impure = (constant base).is_impure || list_any suffix_impure suffixes;
      ty = None;
      value = None;
    }
constant_Postfix base suffixes place =
    opened (tree.Postfix base suffixes place)
    (TypedExpression-F.Postfix base suffixes place)
    (tree.rolls-Postfix base suffixes place)
    ∙ ap (λ (b : Bool). record {
      is_impure = (constant base).is_impure || b;
      ty = None;
      value = None;
    }) (any_map suffixes)

pub constant_PrefixStep : (operator : StepOperator) (operand : TypedExpression)
    (kind : Option Kind) (place : ℕ) →
    constant (tree.PrefixStep operator operand kind place) ≡ impure
constant_PrefixStep operator operand kind place =
    opened (tree.PrefixStep operator operand kind place)
    (TypedExpression-F.PrefixStep operator operand kind place)
    (tree.rolls-PrefixStep operator operand kind place)

pub constant_Unary : (operator : UnaryOperator) (operand : TypedExpression) (kind : Option Kind)
    (place : ℕ) →
    constant (tree.Unary operator operand kind place) ≡ signed operator (constant operand) kind
constant_Unary operator operand kind place =
    opened (tree.Unary operator operand kind place)
    (TypedExpression-F.Unary operator operand kind place)
    (tree.rolls-Unary operator operand kind place)

pub constant_Cast : (operand : TypedExpression) (kind : Option Kind) (place : ℕ) →
    constant (tree.Cast operand kind place) ≡ cast (constant operand) kind
constant_Cast operand kind place =
    opened (tree.Cast operand kind place)
    (TypedExpression-F.Cast operand kind place)
    (tree.rolls-Cast operand kind place)

pub constant_Chain : (first : TypedExpression) (rest : List (BinaryOperator × TypedExpression))
    (kind : Option Kind) (place : ℕ) →
    constant (tree.Chain first rest kind place) ≡ chained (constant first) (map link_constant rest)
constant_Chain first rest kind place =
    opened (tree.Chain first rest kind place)
    (TypedExpression-F.Chain first rest kind place)
    (tree.rolls-Chain first rest kind place)

pub constant_Conditional : (test : TypedExpression) (first : TypedExpression)
    (second : TypedExpression) (kind : Option Kind) (place : ℕ) →
    constant (tree.Conditional test first second kind place)
    ≡ chosen (constant test) (constant first) (constant second) kind
constant_Conditional test first second kind place =
    opened (tree.Conditional test first second kind place)
    (TypedExpression-F.Conditional test first second kind place)
    (tree.rolls-Conditional test first second kind place)

pub constant_Assignment : (left : TypedExpression) (operator : AssignmentOperator)
    (right : TypedExpression) (kind : Option Kind) (place : ℕ) →
    constant (tree.Assignment left operator right kind place) ≡ impure
constant_Assignment left operator right kind place =
    opened (tree.Assignment left operator right kind place)
    (TypedExpression-F.Assignment left operator right kind place)
    (tree.rolls-Assignment left operator right kind place)

pub constant_Comma : (items : List TypedExpression) (kind : Option Kind) (place : ℕ) →
    constant (tree.Comma items kind place) ≡ comma_constant kind (map constant items)
constant_Comma items kind place =
    opened (tree.Comma items kind place)
    (TypedExpression-F.Comma items kind place)
    (tree.rolls-Comma items kind place)

pub impure_Index : (index : TypedExpression) (kind : Option Kind) (place : ℕ) →
    suffix_impure (behind.Index index kind place) ≡ (constant index).is_impure
impure_Index index kind place =
    opened_suffix (behind.Index index kind place)
    (TypedSuffix-F.Index index kind place)
    (behind.rolls-Index index kind place)

pub impure_Call : (arguments : List TypedExpression) (kind : Option Kind) (place : ℕ) →
    suffix_impure (behind.Call arguments kind place) ≡ true
impure_Call arguments kind place =
    opened_suffix (behind.Call arguments kind place)
    (TypedSuffix-F.Call arguments kind place)
    (behind.rolls-Call arguments kind place)

pub impure_Step : (operator : StepOperator) (kind : Option Kind) (place : ℕ) →
    suffix_impure (behind.Step operator kind place) ≡ true
impure_Step operator kind place =
    opened_suffix (behind.Step operator kind place)
    (TypedSuffix-F.Step operator kind place)
    (behind.rolls-Step operator kind place)

pub impure_Skipped : (kind : Option Kind) (place : ℕ) →
    suffix_impure (behind.Skipped kind place) ≡ true
impure_Skipped kind place =
    opened_suffix (behind.Skipped kind place)
    (TypedSuffix-F.Skipped kind place)
    (behind.rolls-Skipped kind place)

-- what `is_impure_suffix` of src/evaluate.rt proves by
pub ruleset is_impure_suffix_rules = (impure_Index, impure_Call, impure_Step, impure_Skipped)

-- what `constant` of src/evaluate.rt proves by
pub ruleset constant_rules = (
  constant_Name,
  constant_Number,
  constant_Character,
  constant_Bracketed,
  constant_Postfix,
  constant_PrefixStep,
  constant_Unary,
  constant_Cast,
  constant_Chain,
  constant_Conditional,
  constant_Assignment,
  constant_Comma,
)
