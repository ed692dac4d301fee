-- The items of a text: what they declare, the rules that they can break, and the calls in their
-- bodies (C11 6.7 and 6.9).
use Rattle.std.specs.Prelude.{ℕ, ◌+◌, ℤ, pos, Bool, true, false, not, ◌&&◌, ◌||◌, List, [], ◌∷◌}
use Rattle.std.specs.Prelude.{◌++◌, length, map, find, Option, None, Some, is_some, option_map}
use Rattle.std.specs.List.{flat_map, filter_map}
use Rattle.std.specs.Ordering.{int_eq}
use Rattle.std.specs.Str.{bytes_eq}
use Rattle.cpa_expr.specs.Equality.{same_type}
use Rattle.c_lexer.specs.declared.fault.Rule.TheVariants as rule
use Rattle.c_lexer.specs.declared.fault.TextFault.{TextFault}
use Rattle.cpa_ints.specs.declared.integers.IntType.{IntType}
use Rattle.cpa_ints.specs.declared.data_model.DataModel.{DataModel}
use Rattle.c_grammar_tree.specs.declared.name.Name.{Name}
use Rattle.c_grammar_tree.specs.declared.expression.Expression.{Expression}
use Rattle.c_grammar_tree.specs.declared.declaration.Specifiers.{Specifiers}
use Rattle.c_grammar_tree.specs.declared.declaration.Declarator.{Declarator}
use Rattle.c_grammar_tree.specs.declared.statement.BlockItem.{BlockItem}
use Rattle.c_grammar_tree.specs.declared.item.Parameter.{Parameter}
use Rattle.c_grammar_tree.specs.declared.item.Parameters.{Parameters}
use Rattle.c_grammar_tree.specs.declared.item.Parameters.TheVariants as parameters
use Rattle.c_grammar_tree.specs.declared.item.FunctionDeclarator.{FunctionDeclarator}
use Rattle.c_grammar_tree.specs.declared.item.Body.{Body}
use Rattle.c_grammar_tree.specs.declared.item.Body.TheVariants as body
use Rattle.c_grammar_tree.specs.declared.item.Item.{Item}
use Rattle.c_grammar_tree.specs.declared.item.Item.TheVariants as item
use Rattle.c_types_rules.specs.declared.meaning.Kind.{Kind}
use Rattle.c_types_rules.specs.declared.meaning.Kind.TheVariants.{Void, Value}
use Rattle.c_types_rules.specs.declared.meaning.Object.{Object}
use Rattle.c_types_rules.specs.declared.meaning.ParameterType.{ParameterType}
use Rattle.c_types_rules.specs.declared.meaning.Declared.{Declared}
use Rattle.c_types_rules.specs.declared.meaning.Declared.TheVariants as declared
use Rattle.c_types_rules.specs.declared.meaning.Entry.{Entry}
use Rattle.c_types_rules.specs.declared.meaning.Meaning.{Meaning}
use Rattle.c_types_rules.specs.declared.meaning.Meaning.TheVariants as meaning
use Rattle.c_types_rules.specs.declared.meaning.Form.TheVariants.{Bare}
use Rattle.c_types_rules.specs.declared.meaning.Role.TheVariants.{Valued}
use Rattle.c_types_rules.specs.Types.{object_type}
use Rattle.c_types_rules.specs.Names.{Text, declared_as, or_else}
use Rattle.c_types_rules.specs.Expressions.{reading, Use, given, used}
use Rattle.c_types_rules.specs.ExpressionRules.{broken, at_if, uses_faults}
use Rattle.c_types_rules.specs.Declarations.{kind_of, has_const, items_of, inconstant}
use Rattle.c_types_rules.specs.Declarations.{length_faults, length_uses}
use Rattle.c_types_rules.specs.Declarations.{void_object, object_of, parameter_type, void_parameter}
use Rattle.c_types_rules.specs.Statements.{Around, Site, Walk, followed, in_order, receiving}
use Rattle.c_types_rules.specs.Statements.{enumeration_walk, walk_of, labels_of}
use Rattle.c_types_rules.specs.StatementRules.{act_uses, site_faults, jump_faults}

-- the parameters that a declarator lists
abbrev pub listed : Parameters → List Parameter
listed parameters.Unspecified = []
listed parameters.Void = []
listed (parameters.Listed all) = all

-- the parameters that a declaration gives its function: `()` says nothing of them, but in a
-- definition that there are none (C11 6.7.6.3p14)
abbrev pub given_parameters : Bool → Parameters → Option (List Parameter)
given_parameters false parameters.Unspecified = None
given_parameters defines all = Some (listed all)

-- the types of the parameters that a declaration gives its function
abbrev pub parameter_types : Text → Bool → Parameters → Option (List ParameterType)
parameter_types text defines all =
    option_map (λ found. map (parameter_type text) found) (given_parameters defines all)

-- what the whole text says of its functions
abbrev pub body_name : Item → Option (List ℕ)
body_name (item.Function specifiers declarator (body.Block items place end)) =
    Some declarator.name.bytes
body_name _ = None

abbrev pub named_arity : List ℕ → Option (List Parameter) → Option (List ℕ × ℕ)
named_arity name found = option_map (λ all. (name, length all)) found

abbrev pub item_arity : Item → Option (List ℕ × ℕ)
item_arity (item.Prototype specifiers declarator) =
    named_arity declarator.name.bytes (given_parameters false declarator.parameters)
item_arity (item.Function specifiers declarator body) =
    named_arity declarator.name.bytes (given_parameters true declarator.parameters)
item_arity _ = None

abbrev pub text_in : DataModel → List Item → Text
text_in model items = record {
  model = model;
  bodies = filter_map body_name items;
  arities = filter_map item_arity items;
}

-- what is known where an item stands: the names of objects and functions that are declared so far,
-- the typedef names and their types, how many objects, and how many bodies stand before it
pub record Before : Type 0 where
  pub names : List Entry
  pub types : List (List ℕ × IntType)
  pub objects : ℕ
  pub bodies : ℕ

-- in file scope, as where something stands in a function
abbrev pub around_item : Before → Around
around_item before = record {
  names = before.names;
  outer = 0;
  objects = before.objects;
  in_loop = false;
  break_to = None;
  switch = None;
  choices = [];
  otherwise = None;
  result = Void;
  labels = [];
  passed = 0;
}

-- what the enumerated type of specifiers declares in file scope, and its faults
abbrev pub enumeration_behind : Text → Specifiers → Before → Before
enumeration_behind text specifiers before = record before {
  names = ((enumeration_walk text specifiers.enumeration).behind (around_item before)).names;
}

abbrev pub enumeration_faults : Text → Specifiers → Before → List TextFault
enumeration_faults text specifiers before = flat_map (site_faults text)
    ((enumeration_walk text specifiers.enumeration).sites (around_item before))

-- two objects of file scope have one type (C11 6.7p4): a length of 0, which is none, is that of
-- each array
abbrev pub same_length : Option ℤ → Option ℤ → Bool
same_length None None = true
same_length (Some n) (Some m) = int_eq n m || int_eq n (pos 0) || int_eq m (pos 0)
same_length _ _ = false

abbrev pub one_type : Object → Object → Bool
one_type old fresh = same_type old.ty fresh.ty && same_length old.length fresh.length

-- what a name is declared as where an object of it is declared in file scope: the object of the
-- first declaration, which is const from the first one that says so
abbrev pub merged_object : Option Declared → Object → Bool → Declared
merged_object (Some (declared.Object old initialized)) fresh initializes =
    elim (one_type old fresh) [
      | true ↦
          declared.Object (record old { is_const = old.is_const || fresh.is_const })
          (initialized || initializes)
      | false ↦ declared.Object fresh initializes
    ]
merged_object _ fresh initializes = declared.Object fresh initializes

-- the name is declared already, and not as an object of this type, at most one of them initialized
-- (C11 6.7p4 and 6.9.2p1 and p2)
abbrev pub redeclares_object : Option Declared → Object → Bool → Bool
redeclares_object None fresh initializes = false
redeclares_object (Some (declared.Object old initialized)) fresh initializes =
    not (one_type old fresh) || (initialized && initializes)
redeclares_object (Some (declared.Function result parameters defined)) fresh initializes = true
redeclares_object (Some (declared.Enumerator value)) fresh initializes = true
redeclares_object (Some declared.Tag) fresh initializes = true

-- what is known behind a declarator of file scope that declares this object
abbrev pub with_global : Object → Declarator → Before → Before
with_global global declarator before = record before {
  names = before.names ++ record {
    name = declarator.name.bytes;
    declared = merged_object (declared_as before.names declarator.name.bytes) global
        (is_some declarator.initializer);
  } ∷ [];
  objects = before.objects + 1;
}

-- N2 in file scope: the later name
abbrev pub redeclared_object : Object → Declarator → Before → List ℕ
redeclared_object global declarator before =
    at_if (redeclares_object (declared_as before.names declarator.name.bytes) global (is_some
    declarator.initializer)) declarator.name.place

-- the object that a declarator declares in file scope, of this type and const or not
abbrev pub global_of : Text → Before → Kind → Bool → Declarator → Object
global_of text before kind is_const declarator =
    object_of text before.names before.objects kind is_const declarator

abbrev pub global_behind : Text → Kind → Bool → Declarator → Before → Before
global_behind text kind is_const declarator before =
    with_global (global_of text before kind is_const declarator) declarator before

-- the faults of the type and the length of an object
abbrev pub object_faults : Text → List Entry → Kind → Declarator → List TextFault
object_faults text names kind declarator =
    broken rule.N5 (void_object kind declarator)
    ++ broken rule.N12 (length_faults text names declarator)
    ++ uses_faults (length_uses text names declarator)

-- the faults of an item of a file-scope initializer, which is to be constant (N12, C11 6.7.9p4)
abbrev pub start_faults : Text → List Entry → Expression → List TextFault
start_faults text names expression =
    uses_faults (used Valued (reading text names expression))
    ++ broken rule.N12 (inconstant text names expression)

abbrev pub global_faults : Text → Before → Kind → Bool → Declarator → List TextFault
global_faults text before kind is_const declarator =
    broken rule.N2 (redeclared_object (global_of text before kind is_const declarator) declarator
    before)
    ++ object_faults text before.names kind declarator
    ++ flat_map (start_faults text (global_behind text kind is_const declarator before).names)
    (items_of declarator.initializer)

-- declarators of file scope in order
abbrev pub globals_behind : Text → Kind → Bool → List Declarator → Before → Before
globals_behind text kind is_const [] before = before
globals_behind text kind is_const (declarator ∷ more) before =
    globals_behind text kind is_const more (global_behind text kind is_const declarator before)

abbrev pub globals_faults : Text → Kind → Bool → List Declarator → Before → List TextFault
globals_faults text kind is_const [] before = []
globals_faults text kind is_const (declarator ∷ more) before =
    global_faults text before kind is_const declarator
    ++ globals_faults text kind is_const more (global_behind text kind is_const declarator before)

abbrev pub same_kind : Kind → Kind → Bool
same_kind Void Void = true
same_kind (Value t) (Value u) = same_type t u
same_kind _ _ = false

abbrev pub same_flag : Bool → Bool → Bool
same_flag true b = b
same_flag false b = not b

-- parameters of the same types in order (C11 6.7.6.3p15)
abbrev pub same_parameters : List ParameterType → List ParameterType → Bool
same_parameters [] [] = true
same_parameters (p ∷ ps) (q ∷ qs) =
    same_type p.ty q.ty && same_flag p.is_pointer q.is_pointer && same_parameters ps qs
same_parameters _ _ = false

abbrev pub agreeing_parameters : Option (List ParameterType) → Option (List ParameterType) → Bool
agreeing_parameters (Some old) (Some fresh) = same_parameters old fresh
agreeing_parameters _ _ = true

-- what a name is declared as where a function of it is declared
abbrev pub merged_function : Option Declared → Kind → Option (List ParameterType) → Bool → Declared
merged_function (Some (declared.Function kind old defined)) result fresh defines =
    declared.Function kind (or_else old fresh) (defined || defines)
merged_function _ result fresh defines = declared.Function result fresh defines

-- the name is declared already, and not as a function of this type, at most one of them with a body
-- (C11 6.7p3 and p4, 6.9p3)
abbrev pub redeclares_function : Option Declared → Kind → Option (List ParameterType) → Bool → Bool
redeclares_function None result fresh defines = false
redeclares_function (Some (declared.Object object initialized)) result fresh defines = true
redeclares_function (Some (declared.Enumerator value)) result fresh defines = true
redeclares_function (Some declared.Tag) result fresh defines = true
redeclares_function (Some (declared.Function kind old defined)) result fresh defines =
    not (same_kind kind result) || not (agreeing_parameters old fresh) || (defined && defines)

-- N2 of a function: the later name
abbrev pub redeclared_function : Text → Before → Bool → Specifiers → FunctionDeclarator → List ℕ
redeclared_function text before defines specifiers declarator =
    at_if (redeclares_function (declared_as before.names declarator.name.bytes)
    (kind_of text specifiers) (parameter_types text defines declarator.parameters) defines)
    declarator.name.place

-- a function's name stands from its declarator on (C11 6.2.1p7)
abbrev pub function_behind : Text → Bool → Specifiers → FunctionDeclarator → Before → Before
function_behind text defines specifiers declarator before = record before {
  names = before.names ++ record {
    name = declarator.name.bytes;
    declared = merged_function (declared_as before.names declarator.name.bytes)
        (kind_of text specifiers) (parameter_types text defines declarator.parameters) defines;
  } ∷ [];
}

-- N1 too, of the tags in the types of the result and of the parameters
abbrev pub head_faults : Text → Before → Bool → Specifiers → FunctionDeclarator → List TextFault
head_faults text before defines specifiers declarator =
    enumeration_faults text specifiers before
    ++ broken rule.N2 (redeclared_function text before defines specifiers declarator)
    ++ broken rule.N5 (flat_map (void_parameter text) (listed declarator.parameters))
    ++ flat_map (λ parameter. enumeration_faults text parameter.specifiers before)
    (listed declarator.parameters)

-- what is known at the beginning of a body; the parameters and the names declared directly in the
-- body stand in one scope (C11 6.2.1p4)
abbrev pub around_body : Text → Before → Specifiers → List BlockItem → Around
around_body text before specifiers items = record {
  names = before.names;
  outer = length before.names;
  objects = before.objects;
  in_loop = false;
  break_to = None;
  switch = None;
  choices = [];
  otherwise = None;
  result = kind_of text specifiers;
  labels = map (λ name. name.bytes) (flat_map labels_of items);
  passed = 0;
}

abbrev pub body_walk : Text → Parameters → List BlockItem → Walk
body_walk text all items =
    followed (in_order (map (receiving text) (listed all))) (in_order (map (walk_of text) items))

-- the items of a body; a body that is skipped has none
abbrev pub items_in : Body → List BlockItem
items_in body.Skipped = []
items_in (body.Block items place end) = items

-- the acts of a function with this body, its parameters first
abbrev pub body_sites : Text → Before → Specifiers → FunctionDeclarator → Body → List Site
body_sites text before specifiers declarator made =
    (body_walk text declarator.parameters (items_in made)).sites
    (around_body text (function_behind text true specifiers declarator before) specifiers
    (items_in made))

abbrev pub body_faults : Text → List Site → List TextFault
body_faults text sites = flat_map (site_faults text) sites ++ jump_faults sites

abbrev pub body_behind : Text → Specifiers → FunctionDeclarator → Body → Before → Before
body_behind text specifiers declarator body.Skipped before = before
body_behind text specifiers declarator (body.Block items place end) before = record before {
  objects = ((body_walk text declarator.parameters items).behind
      (around_body text before specifiers items)).objects;
  bodies = before.bodies + 1;
}

-- the type of a typedef name
abbrev pub typedef_type : List (List ℕ × IntType) → List ℕ → Option IntType
typedef_type types name = option_map (λ row. row.1) (find (λ row. bytes_eq name row.0) types)

-- the name is declared already, and not as a name of this type (C11 6.7p3). Behind a typedef its
-- names are no identifiers, so nothing but a typedef comes to declare one again
abbrev pub redeclares_type : Before → List ℕ → IntType → Bool
redeclares_type before name t = is_some (declared_as before.names name)
    || elim (typedef_type before.types name) [ None ↦ false | Some old ↦ not (same_type old t) ]

-- N2 of a typedef: the later name
abbrev pub typedef_faults : IntType → Name → Before → List TextFault
typedef_faults t name before =
    broken rule.N2 (at_if (redeclares_type before name.bytes t) name.place)

-- the names of a typedef in order
abbrev pub typedefs_behind : IntType → List Name → Before → Before
typedefs_behind t names before =
    record before { types = before.types ++ map (λ name. (name.bytes, t)) names }

abbrev pub typedefs_faults : IntType → List Name → Before → List TextFault
typedefs_faults t [] before = []
typedefs_faults t (name ∷ more) before =
    typedef_faults t name before
    ++ typedefs_faults t more (typedefs_behind t (name ∷ []) before)

-- a call in a body: the number of the body in which it stands, that of the called function's body,
-- and the called name's place
pub record Call : Type 0 where
  pub caller : ℕ
  pub callee : ℕ
  pub place : ℕ

abbrev pub called_body : ℕ → ℕ → Option Meaning → List Call
called_body caller place (Some (meaning.Function function)) = elim function.body [
  | None ↦ []
  | Some callee ↦ record { caller = caller; callee = callee; place = place } ∷ []
]
called_body caller place _ = []

abbrev pub use_calls : ℕ → Use → List Call
use_calls caller (given (Bare place found) handed) = called_body caller place found
use_calls caller _ = []

abbrev pub site_calls : Text → ℕ → Site → List Call
site_calls text caller site = flat_map (use_calls caller) (act_uses text site.around site.act)

-- items in order: what is known behind each, its faults and its calls
abbrev pub item_behind : Text → Item → Before → Before
item_behind text (item.Empty place) before = before
item_behind text (item.Typedef specifiers names place) before =
    typedefs_behind (object_type (kind_of text specifiers)) names
    (enumeration_behind text specifiers before)
item_behind text (item.Objects declaration) before =
    globals_behind text (kind_of text declaration.specifiers) (has_const declaration.specifiers)
    declaration.declarators (enumeration_behind text declaration.specifiers before)
item_behind text (item.Prototype specifiers declarator) before =
    function_behind text false specifiers declarator before
item_behind text (item.Function specifiers declarator made) before =
    body_behind text specifiers declarator made
    (function_behind text true specifiers declarator before)

abbrev pub item_faults : Text → Item → Before → List TextFault
item_faults text (item.Empty place) before = []
item_faults text (item.Typedef specifiers names place) before =
    enumeration_faults text specifiers before
    ++ typedefs_faults (object_type (kind_of text specifiers)) names
    (enumeration_behind text specifiers before)
item_faults text (item.Objects declaration) before =
    enumeration_faults text declaration.specifiers before
    ++ globals_faults text (kind_of text declaration.specifiers) (has_const declaration.specifiers)
    declaration.declarators (enumeration_behind text declaration.specifiers before)
item_faults text (item.Prototype specifiers declarator) before =
    head_faults text before false specifiers declarator
item_faults text (item.Function specifiers declarator made) before =
    head_faults text before true specifiers declarator
    ++ body_faults text (body_sites text before specifiers declarator made)

abbrev pub item_calls : Text → Item → Before → List Call
item_calls text (item.Function specifiers declarator made) before =
    flat_map (site_calls text before.bodies) (body_sites text before specifiers declarator made)
item_calls text _ before = []

abbrev pub items_faults : Text → List Item → Before → List TextFault
items_faults text [] before = []
items_faults text (one ∷ more) before =
    item_faults text one before ++ items_faults text more (item_behind text one before)

abbrev pub items_calls : Text → List Item → Before → List Call
items_calls text [] before = []
items_calls text (one ∷ more) before =
    item_calls text one before ++ items_calls text more (item_behind text one before)

-- what is known at the beginning of a text
abbrev pub nothing_before : Before
nothing_before = record { names = []; types = []; objects = 0; bodies = 0 }
