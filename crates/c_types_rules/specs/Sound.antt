-- The typed tree of a text, the rules of names and types that a text can break without that of its
-- size (C11 6.2.1, 6.5 to 6.9), and the order of what breaks them.
use Rattle.std.specs.Prelude.{◌≡◌, ◌⊎◌, ℕ, ◌<◌, ◌≤◌, ℤ, pos, Bool, true, false, not, ◌&&◌}
use Rattle.std.specs.Prelude.{if◌then◌else◌, List, [], ◌∷◌, ◌++◌, map}
use Rattle.std.specs.Prelude.{find, codes, Option, None, Some, unwrap_or, option_map}
use Rattle.std.specs.List.{flat_map, list_any}
use Rattle.std.specs.Str.{bytes_eq}
use Rattle.cpa_ints.specs.declared.integers.IntType.{IntType}
use Rattle.cpa_ints.specs.declared.integers.IntType.TheVariants as ty
use Rattle.cpa_ints.specs.Wrapping.{wrapped}
use Rattle.c_lexer.specs.Rules.{rule_number}
use Rattle.c_lexer.specs.declared.fault.Rule.TheVariants as rule
use Rattle.c_lexer.specs.declared.fault.TextFault.{TextFault}
use Rattle.c_grammar_tree.specs.declared.expression.Expression.{Expression}
use Rattle.c_grammar_tree.specs.declared.declaration.Declarator.{Declarator}
use Rattle.c_grammar_tree.specs.declared.item.Parameters.{Parameters}
use Rattle.c_grammar_tree.specs.declared.item.Parameters.TheVariants as parameters
use Rattle.c_grammar_tree.specs.declared.item.Body.TheVariants as body
use Rattle.c_grammar_tree.specs.declared.item.Item.{Item}
use Rattle.c_grammar_tree.specs.declared.item.Item.TheVariants as item
use Rattle.c_grammar_tree.specs.declared.item.Unit.{Unit as UnitTree}
use Rattle.c_types_rules.specs.declared.meaning.Kind.{Kind}
use Rattle.c_types_rules.specs.declared.meaning.Kind.TheVariants.{Value}
use Rattle.c_types_rules.specs.declared.meaning.Object.{Object}
use Rattle.c_types_rules.specs.declared.meaning.Declared.{Declared}
use Rattle.c_types_rules.specs.declared.meaning.Declared.TheVariants as declared
use Rattle.c_types_rules.specs.declared.meaning.Entry.{Entry}
use Rattle.c_types_rules.specs.declared.typed.TypedFunction.{TypedFunction}
use Rattle.c_types_rules.specs.declared.typed.Global.{Global}
use Rattle.c_types_rules.specs.Names.{Text, declared_as}
use Rattle.c_types_rules.specs.Types.{object_type}
use Rattle.c_types_rules.specs.Declarations.{kind_of, has_const, items_of, constant_number}
use Rattle.c_types_rules.specs.Items.{Call, Before, text_in, same_kind, global_behind}
use Rattle.c_types_rules.specs.Items.{enumeration_behind, item_behind, items_faults, items_calls}
use Rattle.c_types_rules.specs.Items.{nothing_before}
use Rattle.c_types_rules.specs.Recursion.{Among, LeadsBack}
use Rattle.c_types_rules.specs.TypedStatements.{typed_function}
use Rattle.cpa_ints.specs.declared.data_model.DataModel.{DataModel}

-- what is known behind items
abbrev pub items_behind : Text → List Item → Before → Before
items_behind text [] before = before
items_behind text (one ∷ more) before = items_behind text more (item_behind text one before)

-- the functions with a body, in order
abbrev pub item_function : Text → Item → Before → List TypedFunction
item_function text (item.Function specifiers declarator (body.Block items place end)) before =
    typed_function text before specifiers declarator items place end ∷ []
item_function text _ before = []

abbrev pub functions_of : Text → List Item → Before → List TypedFunction
functions_of text [] before = []
functions_of text (one ∷ more) before =
    item_function text one before ++ functions_of text more (item_behind text one before)

-- the values of an initializer in file scope: of its name, those of its items, converted to the
-- object's type (C11 6.7.9p11)
pub record Start : Type 0 where
  pub name : List ℕ
  pub values : List ℤ

-- these values, of the declared object if it is initialized
abbrev pub start_with : Declarator → List ℤ → List Start
start_with declarator values = elim declarator.initializer [
  | None ↦ []
  | Some given ↦ record { name = declarator.name.bytes; values = values } ∷ []
]

-- the value that a cell of this type starts at
abbrev pub start_value : Text → List Entry → IntType → Expression → ℤ
start_value text names t item = wrapped t (unwrap_or (constant_number text names item) (pos 0))

abbrev pub start_of : Text → Before → Kind → Bool → Declarator → List Start
start_of text before kind is_const declarator =
    start_with declarator (map (start_value text
    (global_behind text kind is_const declarator before).names (object_type kind))
    (items_of declarator.initializer))

abbrev pub starts_in : Text → Kind → Bool → List Declarator → Before → List Start
starts_in text kind is_const [] before = []
starts_in text kind is_const (declarator ∷ more) before =
    start_of text before kind is_const declarator
    ++ starts_in text kind is_const more (global_behind text kind is_const declarator before)

abbrev pub item_starts : Text → Item → Before → List Start
item_starts text (item.Objects declaration) before =
    starts_in text (kind_of text declaration.specifiers) (has_const declaration.specifiers)
    declaration.declarators (enumeration_behind text declaration.specifiers before)
item_starts text _ before = []

abbrev pub starts_of : Text → List Item → Before → List Start
starts_of text [] before = []
starts_of text (one ∷ more) before =
    item_starts text one before ++ starts_of text more (item_behind text one before)

-- the names of objects among these, each once, in order of first declaration
abbrev pub is_object_entry : Entry → Bool
is_object_entry entry = elim entry.declared [
  | declared.Object object initialized ↦ true
  | declared.Function result parameters defined ↦ false
  | declared.Enumerator value ↦ false
  | declared.Tag ↦ false
]

abbrev pub object_names : List (List ℕ) → List Entry → List (List ℕ)
object_names seen [] = []
object_names seen (entry ∷ entries) =
    elim (is_object_entry entry && not (list_any (bytes_eq entry.name) seen)) [
      | true ↦ entry.name ∷ object_names (entry.name ∷ seen) entries
      | false ↦ object_names seen entries
    ]

-- an object of file scope, by the last of these declarations
abbrev pub object_in : Option Declared → List Object
object_in (Some (declared.Object object initialized)) = object ∷ []
object_in _ = []

abbrev pub start_values : List Start → List ℕ → List ℤ
start_values starts name =
    unwrap_or (option_map (λ start. start.values) (find
    (λ start. bytes_eq start.name name) starts)) []

abbrev pub global_named : List Entry → List Start → List ℕ → List Global
global_named names starts name =
    map (λ object. record { object = object; starts = start_values starts name }) (object_in
    (declared_as names name))

abbrev pub globals_of : List Entry → List Start → List Global
globals_of names starts = flat_map (global_named names starts) (object_names [] names)

-- the name main (C11 5.1.2.2.1)
abbrev pub main_name : List ℕ
main_name = codes "main"

-- the typed tree of a text: its objects of file scope, and its functions with a body
abbrev pub unit_globals : DataModel → UnitTree → List Global
unit_globals model unit = globals_of (items_behind (text_in model unit.items) unit.items
    nothing_before).names
    (starts_of (text_in model unit.items) unit.items nothing_before)

abbrev pub unit_functions : DataModel → UnitTree → List TypedFunction
unit_functions model unit = functions_of (text_in model unit.items) unit.items nothing_before

-- no parameters
abbrev pub has_no_parameters : Parameters → Bool
has_no_parameters parameters.Unspecified = true
has_no_parameters parameters.Void = true
has_no_parameters (parameters.Listed all) = false

-- a main without parameters that returns int and has a body
abbrev pub is_main : Text → Item → Bool
is_main text (item.Function specifiers declarator (body.Block items place end)) =
    bytes_eq declarator.name.bytes main_name && same_kind (kind_of text specifiers) (Value ty.I32)
    && has_no_parameters declarator.parameters
is_main text _ = false

-- N11: there is no such main (5.1.2.2.1p1, without parameters of main): the text's end
abbrev pub without_main : DataModel → UnitTree → List TextFault
without_main model unit =
    if list_any (is_main (text_in model unit.items)) unit.items then []
    else (record { rule = rule.N11; place = unit.length } ∷ [])

-- the faults that are found item by item, and that of a text without main
unfoldable pub unit_faults : DataModel → UnitTree → List TextFault
unit_faults model unit = items_faults (text_in model unit.items) unit.items nothing_before
    ++ without_main model unit

-- the calls in its bodies
unfoldable pub unit_calls : DataModel → UnitTree → List Call
unit_calls model unit = items_calls (text_in model unit.items) unit.items nothing_before

-- N10: a call whose called function reaches, by calls in bodies, the function in which the call
-- stands (this project's own): the called name
pub record IsRecursive (model : DataModel) (unit : UnitTree) (fault : TextFault) : Type 0 where
  pub rule : fault.rule ≡ rule.N10
  pub back : LeadsBack (unit_calls model unit) fault.place

-- a rule other than N13 is broken at this place
abbrev pub BreaksTree : DataModel → UnitTree → TextFault → Type 0
BreaksTree model unit fault = Among fault (unit_faults model unit) ⊎ IsRecursive model unit fault

-- at a lesser place, or at the same place by no higher rule
abbrev pub NotBehind : TextFault → TextFault → Type 0
NotBehind fault other =
    (fault.place < other.place) ⊎ ((fault.place ≡ other.place) ×
    (rule_number fault.rule ≤ rule_number other.rule))
