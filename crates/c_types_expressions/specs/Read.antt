-- What is read of an expression and of its parts, by `reading` of c_types_rules.
use Rattle.std.specs.Prelude.{◌≡◌, refl, ℕ, List, [], ◌∷◌, map, Option, None, Some}
use Rattle.std.specs.List.{flat_map}
use Rattle.cpa_ints.specs.declared.integers.IntType.{IntType}
use Rattle.c_lexer.specs.declared.fault.TextFault.{TextFault}
use Rattle.c_grammar_symbols.specs.declared.operators.BinaryOperator.{BinaryOperator}
use Rattle.c_grammar_tree.specs.declared.expression.UnaryOperator.{UnaryOperator}
use Rattle.c_grammar_tree.specs.declared.expression.Expression.{Expression}
use Rattle.c_grammar_tree.specs.declared.expression.Expression.TheFolds.{fold-Suffix}
use Rattle.c_grammar_tree.specs.declared.expression.Suffix.{Suffix}
use Rattle.c_types_rules.specs.Items.{Call}
use Rattle.c_types_rules.specs.declared.meaning.Kind.{Kind}
use Rattle.c_types_rules.specs.declared.meaning.Kind.TheVariants.{Void}
use Rattle.c_types_rules.specs.declared.meaning.Entry.{Entry}
use Rattle.c_types_rules.specs.declared.meaning.Form.{Form}
use Rattle.c_types_rules.specs.declared.meaning.Form.TheVariants.{Bare}
use Rattle.c_types_rules.specs.declared.meaning.Part.{Part}
use Rattle.c_types_rules.specs.declared.meaning.Role.{Role}
use Rattle.c_types_rules.specs.declared.meaning.Role.TheVariants.{Valued}
use Rattle.c_types_rules.specs.declared.typed.TypedExpression.{TypedExpression}
use Rattle.c_types_rules.specs.declared.typed.TypedSuffix.{TypedSuffix}
use Rattle.c_types_rules.specs.Names.{Text}
use Rattle.c_types_rules.specs.Types.{value_kind}
use Rattle.c_types_rules.specs.Parts.{unary_type}
use Rattle.c_types_rules.specs.Expressions.{Use, used, Reading, ReadSuffix, reading, reading_step}
use Rattle.c_types_rules.specs.Expressions.{read_suffix, suffix_part, suffix_uses, suffix_typed}
use Rattle.c_types_rules.specs.Expressions.{Suffixed, suffixed}
use Rattle.c_types_rules.specs.ExpressionRules.{uses_faults}
use Rattle.c_types_rules.specs.Items.{called_body, use_calls}

-- the calls of these uses, in the body of this number
unfoldable pub uses_calls : ℕ → List Use → List Call
uses_calls caller uses = flat_map (use_calls caller) uses

-- as the rules of a whole text have them
pub calls_are : (caller : ℕ) (uses : List Use) →
    uses_calls caller uses ≡ flat_map (use_calls caller) uses
unfolding uses_calls
calls_are caller uses = refl

-- the call of what stands before brackets
abbrev pub form_calls : ℕ → Form → List Call
form_calls caller (Bare place found) = called_body caller place found
form_calls caller _ = []

-- what the rules see of an expression, its typed tree, its faults and its calls
abbrev pub part_of : Text → List Entry → Expression → Part
part_of text names e = (reading text names e).part

abbrev pub typed_of : Text → List Entry → Expression → TypedExpression
typed_of text names e = (reading text names e).typed

abbrev pub faults_of : Text → List Entry → Expression → List TextFault
faults_of text names e = uses_faults (reading text names e).uses

abbrev pub calls_of : Text → List Entry → ℕ → Expression → List Call
calls_of text names caller e = uses_calls caller (reading text names e).uses

-- its faults and its calls in a role
abbrev pub role_faults : Text → List Entry → Role → Expression → List TextFault
role_faults text names role e = uses_faults (used role (reading text names e))

abbrev pub role_calls : Text → List Entry → ℕ → Role → Expression → List Call
role_calls text names caller role e = uses_calls caller (used role (reading text names e))

-- a link of a chain
abbrev pub link_part : Text → List Entry → BinaryOperator × Expression → BinaryOperator × Part
link_part text names link = (link.0, part_of text names link.1)

abbrev pub link_typed : Text → List Entry → BinaryOperator × Expression
    → BinaryOperator × TypedExpression
link_typed text names link = (link.0, typed_of text names link.1)

abbrev pub link_faults : Text → List Entry → BinaryOperator × Expression → List TextFault
link_faults text names link = role_faults text names Valued link.1

abbrev pub link_calls : Text → List Entry → ℕ → BinaryOperator × Expression → List Call
link_calls text names caller link = role_calls text names caller Valued link.1

-- a suffix, with a reading for each expression in it
unfoldable pub suffix_of : Text → List Entry → Suffix → ReadSuffix
suffix_of text names = fold-Suffix Reading ReadSuffix (reading_step text names) read_suffix

-- what the rules see of an expression that ends with a suffix behind a part, the typed suffix, its
-- faults and its calls
abbrev pub part_behind : Text → List Entry → Part → Suffix → Part
part_behind text names base suffix = suffix_part base (suffix_of text names suffix)

abbrev pub typed_behind : Text → List Entry → Part → Suffix → TypedSuffix
typed_behind text names base suffix = suffix_typed base (suffix_of text names suffix)

abbrev pub faults_behind : Text → List Entry → Part → Suffix → List TextFault
faults_behind text names base suffix =
    uses_faults (suffix_uses base (suffix_of text names suffix))

abbrev pub calls_behind : Text → List Entry → ℕ → Part → Suffix → List Call
calls_behind text names caller base suffix =
    uses_calls caller (suffix_uses base (suffix_of text names suffix))

-- suffixes behind a part
abbrev pub suffixed_of : Text → List Entry → Part → List Suffix → Suffixed
suffixed_of text names base suffixes = suffixed base (map (suffix_of text names) suffixes)

-- the type before the first of these items, which any type will do for
abbrev pub kind_before : List Expression → Option Kind
kind_before [] = None
kind_before (item ∷ items) = Some Void

-- the type of an operator before an operand of this type
abbrev pub unary_value_type : UnaryOperator → Option Kind → Option IntType
unary_value_type operator kind =
    elim (value_kind kind) [ None ↦ None | Some t ↦ Some (unary_type operator t) ]
