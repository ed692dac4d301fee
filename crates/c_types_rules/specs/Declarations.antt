-- What a declaration of an object declares, and the rules of its type and length (C11 6.7).
use Rattle.std.specs.Prelude.{ℕ, ℤ, pos, int_le, int_lt, Bool, true, false, not}
use Rattle.std.specs.Prelude.{◌&&◌, ◌||◌, if◌then◌else◌, List, [], ◌∷◌, ◌++◌, length, map}
use Rattle.std.specs.Prelude.{Option, None, Some, is_some, unwrap_or, option_map, option_and_then}
use Rattle.std.specs.List.{list_any}
use Rattle.std.specs.Ordering.{int_eq}
use Rattle.std.specs.Str.{bytes_eq}
use Rattle.cpa_ints.specs.declared.integers.IntType.TheVariants as ty
use Rattle.cpa_ints.specs.declared.data_model.DataModel.{DataModel}
use Rattle.cpa_ints.specs.Wrapping.{wrapped}
use Rattle.c_grammar_symbols.specs.declared.words.TypeWord.TheVariants as word
use Rattle.c_grammar_tree.specs.declared.expression.Expression.{Expression}
use Rattle.c_grammar_tree.specs.declared.declaration.Specifier.{Specifier}
use Rattle.c_grammar_tree.specs.declared.declaration.SpecifierKind.TheVariants as word_kind
use Rattle.c_grammar_tree.specs.declared.declaration.Enumerator.{Enumerator}
use Rattle.c_grammar_tree.specs.declared.declaration.Specifiers.{Specifiers}
use Rattle.c_grammar_tree.specs.declared.declaration.Initializer.{Initializer}
use Rattle.c_grammar_tree.specs.declared.declaration.Initializer.TheVariants as initializer
use Rattle.c_grammar_tree.specs.declared.declaration.Declarator.{Declarator}
use Rattle.c_grammar_tree.specs.declared.item.Parameter.{Parameter}
use Rattle.c_grammar_tree.specs.Parts.{type_words, named_among, have_const}
use Rattle.c_types_rules.specs.declared.TheConstants.{MAX_ELEMENTS}
use Rattle.c_types_rules.specs.declared.meaning.Constant.{Constant}
use Rattle.c_types_rules.specs.declared.meaning.Kind.{Kind}
use Rattle.c_types_rules.specs.declared.meaning.Kind.TheVariants.{Void, Value}
use Rattle.c_types_rules.specs.declared.meaning.Object.{Object}
use Rattle.c_types_rules.specs.declared.meaning.Part.{Part}
use Rattle.c_types_rules.specs.declared.meaning.ParameterType.{ParameterType}
use Rattle.c_types_rules.specs.declared.meaning.Declared.TheVariants as declared
use Rattle.c_types_rules.specs.declared.meaning.Entry.{Entry}
use Rattle.c_types_rules.specs.declared.typed.TypedDeclarator.{TypedDeclarator}
use Rattle.c_types_rules.specs.declared.typed.TypedInitializer.{TypedInitializer}
use Rattle.c_types_rules.specs.declared.typed.TypedInitializer.TheVariants as typed_initializer
use Rattle.c_types_rules.specs.Types.{kind_of_words, type_of_named, object_type, value_kind}
use Rattle.c_types_rules.specs.declared.meaning.Role.TheVariants.{Valued}
use Rattle.c_types_rules.specs.Names.{Text, tag_key}
use Rattle.c_types_rules.specs.Expressions.{reading, Use, used}
use Rattle.c_types_rules.specs.ExpressionRules.{at_if}
use Rattle.c_types_rules.specs.Constants.{constant}

-- the word is void
abbrev pub is_void_word : Specifier → Bool
is_void_word found = elim found.kind [
  | word_kind.Storage w ↦ false
  | word_kind.Other w ↦ false
  | word_kind.TypeWord w ↦ elim w [ word.Void ↦ true | _ ↦ false ]
  | word_kind.TypedefName named ↦ false
  | word_kind.Enum ↦ false
]

-- the type that these words name in a data model: that of the typedef name among them, or of the
-- words of a type; with enum, which stands beside no word of a type, int (C11 6.7.2, 6.7.2.2 and
-- 6.7.8)
abbrev pub kind_by : DataModel → List Specifier → Kind
kind_by model words = elim (named_among words) [
  | None ↦ kind_of_words model (type_words words)
  | Some named ↦ Value (type_of_named model named)
]

-- the type that specifiers of a text name
abbrev pub kind_of : Text → Specifiers → Kind
kind_of text specifiers = kind_by text.model specifiers.words

-- they make const what is declared with them (C11 6.7.3)
abbrev pub has_const : Specifiers → Bool
has_const specifiers = have_const specifiers.words

abbrev pub is_void_kind : Kind → Bool
is_void_kind Void = true
is_void_kind (Value t) = false

-- the expressions of an initializer
abbrev pub items_of : Option Initializer → List Expression
items_of None = []
items_of (Some (initializer.Scalar value)) = value ∷ []
items_of (Some (initializer.List items place)) = items

-- the value of what is to be constant, of which the constant and the type are known
abbrev pub number_by : Constant → Option Kind → Option ℤ
number_by found kind =
    if found.is_impure then None else option_and_then (λ t. found.value) (value_kind kind)

-- the value of an expression that is to be constant, if no rule is broken in it
abbrev pub constant_number : Text → List Entry → Expression → Option ℤ
constant_number text names expression =
    let read = reading text names expression in number_by (constant read.typed) read.part.kind

-- a part that is to be constant (C11 6.6p3 and 6.6p4) and of which the constant is known reads an
-- object, calls or assigns, or its value traps: its first token
abbrev pub inconstant_by : Constant → Part → List ℕ
inconstant_by found part = at_if (found.is_impure || (is_some (value_kind part.kind)
    && not (is_some found.value))) part.place

abbrev pub inconstant : Text → List Entry → Expression → List ℕ
inconstant text names expression =
    let read = reading text names expression in inconstant_by (constant read.typed) read.part

-- how many elements an object has by its declarator: as many as its length says, or as its list
-- has; 0 where its length has no value; of a scalar nothing is said (C11 6.7.6.2 and 6.7.9p22)
abbrev pub length_of : Text → List Entry → Declarator → Option ℤ
length_of text names declarator = elim declarator.array [
  | None ↦ None
  | Some array ↦ elim array.length [
    | None ↦ Some (pos (length (items_of declarator.initializer)))
    | Some expression ↦ Some (unwrap_or (constant_number text names expression) (pos 0))
  ]
]

-- a number of elements that an array can have (C11 6.7.6.2p5; the greatest one is this project's
-- own)
abbrev pub is_length : ℤ → Bool
is_length n = int_le (pos 1) n && int_le n (pos MAX_ELEMENTS)

-- more items than the object has elements
abbrev pub is_longer : ℤ → Declarator → Bool
is_longer n declarator =
    is_some declarator.initializer && int_lt n (pos (length (items_of declarator.initializer)))

-- a length that has this value, if it has one, is no number of elements: this place. More items
-- than elements (C11 6.7.9p2): the name
abbrev pub misfit : Option ℤ → ℕ → Declarator → List ℕ
misfit number place declarator = elim number [
  | None ↦ []
  | Some n ↦ at_if (not (is_length n)) place ++ at_if (is_longer n declarator) declarator.name.place
]

-- a length that is there: no constant, or no number of elements: its first token
abbrev pub given_length_faults : Text → List Entry → Declarator → Expression → List ℕ
given_length_faults text names declarator expression =
    inconstant text names expression ++ misfit (constant_number text names expression)
    (reading text names expression).part.place declarator

-- N12: of an array's length (6.6, 6.7.6.2p1 and p5; without a length as many elements as its list
-- has); more items than the object has elements
abbrev pub length_faults : Text → List Entry → Declarator → List ℕ
length_faults text names declarator = elim declarator.array [
  | None ↦ at_if (is_longer (pos 1) declarator) declarator.name.place
  | Some array ↦ elim array.length [
    | None ↦ at_if (not (is_length (pos (length (items_of declarator.initializer)))))
        declarator.name.place
    | Some expression ↦ given_length_faults text names declarator expression
  ]
]

-- how the length uses names
abbrev pub length_uses : Text → List Entry → Declarator → List Use
length_uses text names declarator = elim declarator.array [
  | None ↦ []
  | Some array ↦ elim array.length [
    | None ↦ []
    | Some expression
        ↦ used Valued (reading text names expression)
  ]
]

-- N5: an object is declared with the type void (6.7p7 and 6.2.5p19): its name
abbrev pub void_object : Kind → Declarator → List ℕ
void_object kind declarator = at_if (is_void_kind kind) declarator.name.place

-- the object of this number that a declarator declares, of this type and const or not; its length
-- sees the names declared before it (C11 6.2.1p7)
abbrev pub object_of : Text → List Entry → ℕ → Kind → Bool → Declarator → Object
object_of text names number kind is_const declarator = record {
  number = number;
  ty = object_type kind;
  length = length_of text names declarator;
  is_const = is_const;
  place = Some declarator.name.place;
}

-- the declared name of an object in a function
abbrev pub local_entry : List ℕ → Object → Entry
local_entry name object = record { name = name; declared = declared.Object object false }

-- the names behind a declarator in a function
abbrev pub names_behind : Text → List Entry → ℕ → Kind → Bool → Declarator → List Entry
names_behind text names number kind is_const declarator = names
    ++ local_entry declarator.name.bytes (object_of text names number kind is_const declarator) ∷ []

-- a value of type int
abbrev pub is_int : ℤ → Bool
is_int n = int_eq (wrapped ty.I32 n) n

-- the value that an enumerator is given, the next one being this: what its expression says, or the
-- next (C11 6.7.2.2p3)
abbrev pub given_number : Text → List Entry → ℤ → Enumerator → ℤ
given_number text names next one = elim one.value [
  | None ↦ next
  | Some value ↦ unwrap_or (constant_number text names value) (pos 0)
]

-- the value for which it stands: 0 where that is no int, beside the fault
abbrev pub enumerator_number : Text → List Entry → ℤ → Enumerator → ℤ
enumerator_number text names next one =
    if is_int (given_number text names next one) then given_number text names next one else pos 0

-- N12: an enumerator's expression is no constant (6.7.2.2p2): its first token; its value is outside
-- int: the first token of the expression, or else the name
abbrev pub enumerator_faults : Text → List Entry → ℤ → Enumerator → List ℕ
enumerator_faults text names next one = elim one.value [
  | None ↦ at_if (not (is_int next)) one.name.place
  | Some value ↦ inconstant text names value ++ elim (constant_number text names value) [
    | None ↦ []
    | Some n ↦ at_if (not (is_int n)) (reading text names value).part.place
  ]
]

-- how its expression uses names
abbrev pub enumerator_uses : Text → List Entry → Enumerator → List Use
enumerator_uses text names one = elim one.value [
  | None ↦ []
  | Some value ↦ used Valued (reading text names value)
]

-- the declared name of an enumerator of this value, and of a tag
abbrev pub enumerator_entry : List ℕ → ℤ → Entry
enumerator_entry name n = record { name = name; declared = declared.Enumerator n }

abbrev pub tag_entry : List ℕ → Entry
tag_entry tag = record { name = tag_key tag; declared = declared.Tag }

-- the name is among these
abbrev pub is_declared_among : List Entry → List ℕ → Bool
is_declared_among names name = list_any (λ entry. bytes_eq entry.name name) names

-- the typed initializer, where these names are declared
abbrev pub typed_items : Text → List Entry → Initializer → TypedInitializer
typed_items text names (initializer.Scalar value) =
    typed_initializer.Scalar (reading text names value).typed
typed_items text names (initializer.List items place) =
    typed_initializer.List (map (λ item. (reading text names item).typed) items)

-- the typed declarator in a function; its initializer sees its own name (C11 6.2.1p7)
abbrev pub typed_local : Text → List Entry → ℕ → Kind → Bool → Declarator → TypedDeclarator
typed_local text names number kind is_const declarator = record {
  object = object_of text names number kind is_const declarator;
  initializer = option_map (typed_items text
      (names_behind text names number kind is_const declarator)) declarator.initializer;
  place = declarator.name.place;
}

-- the type of a parameter, one of type void counts as an int
abbrev pub parameter_type : Text → Parameter → ParameterType
parameter_type text parameter = record {
  ty = object_type (kind_of text parameter.specifiers);
  is_pointer = parameter.is_pointer;
}

-- the object of this number that a parameter is
abbrev pub parameter_object : Text → ℕ → Parameter → Object
parameter_object text number parameter = record {
  number = number;
  ty = object_type (kind_of text parameter.specifiers);
  length = None;
  is_const = has_const parameter.specifiers;
  place = option_map (λ name. name.place) parameter.name;
}

-- the place of the word void, the first of these
abbrev pub void_places : List Specifier → List ℕ
void_places [] = []
void_places (found ∷ more) =
    elim (is_void_word found) [ true ↦ found.place ∷ [] | false ↦ void_places more ]

-- N5: a parameter is declared with this type, void (6.7.6.3p4 and p10): its name, or else the word
-- void
abbrev pub void_by : Kind → Parameter → List ℕ
void_by kind parameter = elim (is_void_kind kind) [
  | true ↦ elim parameter.name [
    | Some name ↦ name.place ∷ []
    | None
        ↦ void_places parameter.specifiers.words
  ]
  | false ↦ []
]

abbrev pub void_parameter : Text → Parameter → List ℕ
void_parameter text parameter = void_by (kind_of text parameter.specifiers) parameter
