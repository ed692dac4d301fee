-- What the rules see of an expression: its type, and how it stands for an object or a function (C11
-- 6.5).
use Rattle.std.specs.Prelude.{Bool, true, false, not, ◌&&◌, List, []}
use Rattle.std.specs.Prelude.{◌∷◌, Option, None, Some, option_map}
use Rattle.std.specs.Prelude.{option_and_then, is_some}
use Rattle.cpa_ints.specs.declared.integers.IntType.{IntType}
use Rattle.cpa_ints.specs.declared.integers.IntType.TheVariants as ty
use Rattle.cpa_ints.specs.Conversions.{promoted, common_type}
use Rattle.c_grammar_symbols.specs.declared.operators.BinaryOperator.{BinaryOperator}
use Rattle.c_grammar_tree.specs.declared.expression.UnaryOperator.{UnaryOperator}
use Rattle.c_grammar_tree.specs.declared.expression.UnaryOperator.TheVariants as unary
use Rattle.c_types_rules.specs.declared.meaning.Kind.{Kind}
use Rattle.c_types_rules.specs.declared.meaning.Kind.TheVariants.{Void, Value}
use Rattle.c_types_rules.specs.declared.meaning.Meaning.{Meaning}
use Rattle.c_types_rules.specs.declared.meaning.Meaning.TheVariants as meaning
use Rattle.c_types_rules.specs.declared.meaning.Form.{Form}
use Rattle.c_types_rules.specs.declared.meaning.Form.TheVariants.{Bare, Element, Plain}
use Rattle.c_types_rules.specs.declared.meaning.Part.{Part}
use Rattle.c_types_rules.specs.Types.{value_kind, binary_type}
use Rattle.c_types_rules.specs.Known.{known_result}

-- an integer type, as the type of an expression
abbrev pub value : Option IntType → Option Kind
value = option_map (λ t. Value t)

-- the first where the second is a value too
abbrev pub with_value : {T : Type 0} → Option T → Option Kind → Option T
with_value x other = option_and_then (λ t. x) (value_kind other)

-- the first where the others are values too
abbrev pub with_values : {T : Type 0} → Option T → List Part → Option T
with_values x [] = x
with_values x (part ∷ parts) = with_value (with_values x parts) part.kind

-- the type of what a name stands for: that of a scalar object, or int of an enumerator (C11
-- 6.7.2.2p3)
abbrev pub named_kind : Option Meaning → Option Kind
named_kind (Some (meaning.Object object)) =
    elim object.length [ None ↦ Some (Value object.ty) | Some n ↦ None ]
named_kind (Some (meaning.Enumerator n)) = Some (Value ty.I32)
named_kind _ = None

-- the type of the elements of what a name stands for (C11 6.5.2.1)
abbrev pub element_kind : Option Meaning → Option Kind
element_kind (Some (meaning.Object object)) =
    elim object.length [ None ↦ None | Some n ↦ Some (Value object.ty) ]
element_kind _ = None

-- the type of a call of what a name stands for (C11 6.5.2.2)
abbrev pub result_kind : Option Meaning → Option Kind
result_kind (Some (meaning.Function function)) = Some function.result
result_kind (Some (meaning.Known function)) = Some (known_result function)
result_kind _ = None

-- what the brackets of an index stand behind, as a form
abbrev pub element_form : Form → Form
element_form (Bare place meaning) = Element meaning
element_form _ = Plain

abbrev pub element_of : Form → Option Kind
element_of (Bare place meaning) = element_kind meaning
element_of _ = None

abbrev pub result_of : Form → Option Kind
result_of (Bare place meaning) = result_kind meaning
result_of _ = None

-- a scalar object, or an element of an array, that is not const: what can be assigned to (C11
-- 6.3.2.1 and 6.5.16)
abbrev pub is_changeable_by : Bool → Option Meaning → Bool
is_changeable_by of_array (Some (meaning.Object object)) =
    not object.is_const && elim of_array [
      | true ↦ is_some object.length
      | false
          ↦ not (is_some object.length)
    ]
is_changeable_by of_array _ = false

abbrev pub is_changeable : Form → Bool
is_changeable (Bare place meaning) = is_changeable_by false meaning
is_changeable (Element meaning) = is_changeable_by true meaning
is_changeable Plain = false

-- the type of an assignment to a part, also where it can't be assigned to: its own, where that is
-- no void (C11 6.5.16p3)
abbrev pub changed_kind : Part → Option Kind
changed_kind part = value (value_kind part.kind)

-- the type of `operator operand` (C11 6.5.3.3)
abbrev pub unary_type : UnaryOperator → IntType → IntType
unary_type unary.Not t = ty.I32
unary_type unary.Plus t = promoted t
unary_type unary.Minus t = promoted t
unary_type unary.Complement t = promoted t

-- the type of a cast to a type (C11 6.5.4)
abbrev pub cast_kind : Kind → Option Kind → Option Kind
cast_kind to None = None
cast_kind Void (Some kind) = Some Void
cast_kind (Value t) (Some Void) = None
cast_kind (Value t) (Some (Value u)) = Some (Value t)

-- the type of `left operator right`
abbrev pub joined_type : Option IntType → BinaryOperator × Part → Option IntType
joined_type left (operator, right) =
    option_and_then (λ t. option_map (λ u. binary_type operator t u) (value_kind right.kind)) left

-- the type of a chain, which belongs together from the left
abbrev pub chain_type : Option IntType → List (BinaryOperator × Part) → Option IntType
chain_type left [] = left
chain_type left (link ∷ links) = chain_type (joined_type left link) links

-- the type of a conditional with these ends: void of two void ends (C11 6.5.15)
abbrev pub ends_kind : Option Kind → Option Kind → Option Kind
ends_kind (Some Void) (Some Void) = Some Void
ends_kind (Some (Value t)) (Some (Value u)) = Some (Value (common_type t u))
ends_kind _ _ = None

-- the type of a comma expression: that of the last item, where each has one (C11 6.5.17)
abbrev pub last_kind : Option Kind → List Part → Option Kind
last_kind before [] = before
last_kind before (part ∷ parts) = last_kind (option_and_then (λ kind. part.kind) before) parts

abbrev pub comma_kind : List Part → Option Kind
comma_kind [] = None
comma_kind (part ∷ parts) = last_kind part.kind parts
