-- What the objects of file scope of a sound text start at lies in the ranges of their types.
use Rattle.std.proofs.Common.{◌≡◌, ℕ, Bool, true, false, ◌&&◌, ◌||◌, not, List, [], ◌∷◌, ◌++◌, map}
use Rattle.std.proofs.Common.{Option, None, Some, refl, ap, sym, ◌∙◌, subst, ℤ, ◌+ℤ◌, pos}
use Rattle.std.specs.Prelude.{unwrap_or, option_map, is_some, find, cond}
use Rattle.std.specs.List.{AllByRecursion, flat_map}
use Rattle.std.specs.Str.{bytes_eq}
use Rattle.std.specs.Cmp.Lexicographic.{bytes_decides}
use Rattle.cpa_ints.specs.declared.integers.IntType.{IntType}
use Rattle.cpa_ints.specs.Integers.{IsInRange}
use Rattle.cpa_ints.specs.Wrapping.{wrapped}
use Rattle.cpa_ints.specs.lemmas.Arithmetic.{wrapped_in_range}
use Rattle.cpa_expr.specs.Equality.{same_type}
use Rattle.c_lexer.specs.declared.fault.Rule.TheVariants as rule
use Rattle.c_lexer.specs.declared.fault.TextFault.{TextFault}
use Rattle.c_grammar_tree.specs.declared.expression.Expression.{Expression}
use Rattle.c_grammar_tree.specs.declared.declaration.Enumerator.{Enumerator}
use Rattle.c_grammar_tree.specs.declared.declaration.Enumeration.{Enumeration}
use Rattle.c_grammar_tree.specs.declared.declaration.Enumeration.TheVariants as enumeration
use Rattle.c_grammar_tree.specs.declared.declaration.Specifiers.{Specifiers}
use Rattle.c_grammar_tree.specs.declared.declaration.Declarator.{Declarator}
use Rattle.c_grammar_tree.specs.declared.declaration.Initializer.{Initializer}
use Rattle.c_grammar_tree.specs.declared.item.Parameter.{Parameter}
use Rattle.c_grammar_tree.specs.declared.item.FunctionDeclarator.{FunctionDeclarator}
use Rattle.c_grammar_tree.specs.declared.item.Body.{Body}
use Rattle.c_grammar_tree.specs.declared.item.Body.TheVariants as body
use Rattle.c_grammar_tree.specs.declared.item.Item.{Item}
use Rattle.c_grammar_tree.specs.declared.item.Item.TheVariants as item
use Rattle.c_grammar_tree.specs.declared.item.Unit.{Unit as UnitTree}
use Rattle.c_types_rules.specs.declared.meaning.Kind.{Kind}
use Rattle.c_types_rules.specs.declared.meaning.Object.{Object}
use Rattle.c_types_rules.specs.declared.meaning.Declared.{Declared}
use Rattle.c_types_rules.specs.declared.meaning.Declared.TheVariants as declared
use Rattle.c_types_rules.specs.declared.meaning.Entry.{Entry}
use Rattle.c_types_rules.specs.declared.typed.Global.{Global}
use Rattle.c_types_rules.specs.Names.{Text, declared_as}
use Rattle.c_types_rules.specs.Types.{object_type}
use Rattle.c_types_rules.specs.ExpressionRules.{broken}
use Rattle.c_types_rules.specs.Declarations.{kind_of, has_const, items_of, constant_number}
use Rattle.c_types_rules.specs.Declarations.{void_parameter}
use Rattle.c_types_rules.specs.Declarations.{tag_entry, enumerator_entry, enumerator_number}
use Rattle.c_types_rules.specs.Statements.{Around, enumerates, tags, enumerating, naming}
use Rattle.c_types_rules.specs.Statements.{enumeration_walk}
use Rattle.c_types_rules.specs.StatementRules.{site_faults}
use Rattle.c_types_rules.specs.Items.{Before, text_in, one_type, merged_object, redeclares_object}
use Rattle.c_types_rules.specs.Items.{global_of, global_behind, redeclared_object, start_faults}
use Rattle.c_types_rules.specs.Items.{object_faults, global_faults, globals_behind, globals_faults}
use Rattle.c_types_rules.specs.Items.{merged_function}
use Rattle.c_types_rules.specs.Items.{redeclares_function, redeclared_function, function_behind}
use Rattle.c_types_rules.specs.Items.{head_faults, parameter_types, body_sites, body_faults}
use Rattle.c_types_rules.specs.Items.{body_behind, around_item, enumeration_behind}
use Rattle.c_types_rules.specs.Items.{enumeration_faults, typedefs_faults}
use Rattle.c_types_rules.specs.Items.{item_behind, item_faults, items_faults, nothing_before}
use Rattle.c_types_rules.specs.Items.{listed}
use Rattle.c_types_rules.specs.Items.{same_length}
use Rattle.c_types_rules.specs.Sound.{Start, start_of, starts_in, item_starts, starts_of}
use Rattle.c_types_rules.specs.Sound.{items_behind, object_names, object_in, start_values}
use Rattle.c_types_rules.specs.Sound.{global_named}
use Rattle.c_types_rules.specs.Sound.{unit_globals}
use Rattle.c_core_checked.specs.Sound.{Sound}
use Rattle.c_core_laws.specs.lemmas.Faults.{NoFaults, none_left, none_right, not_broken, no_fault}
use Rattle.c_core_laws.specs.lemmas.Entries.{push_named, push_other, same_object}
use Rattle.c_core_laws.specs.lemmas.Enumerations.{fresh_enumerator, fresh_tag}
use Rattle.c_core_laws.specs.lemmas.MadeValues.{type_same}
use Rattle.cpa_ints.specs.declared.data_model.DataModel.{DataModel}

first_of_three : (a b c : List TextFault) → NoFaults (a ++ b ++ c) → NoFaults a
first_of_three a b c none = none_left a b (none_left (a ++ b) c none)

-- the name is declared as an object of this type
record IsObject (t : IntType) (name : List ℕ) (names : List Entry) : Type 0 where
  object : Object
  initialized : Bool
  is : declared_as names name ≡ Some (declared.Object object initialized)
  type : object.ty ≡ t

record MergedType (t : IntType) (made : Declared) : Type 0 where
  object : Object
  initialized : Bool
  is : made ≡ declared.Object object initialized
  type : object.ty ≡ t

both_hold : (a b : Bool) → (a && b) ≡ true → a ≡ true
both_hold true b h = refl
both_hold false b h = absurd (cc)

merged_by : (b : Bool) (old fresh : Object) (initialized initializes : Bool) →
    (b ≡ true → old.ty ≡ fresh.ty) →
    MergedType fresh.ty (elim b [
      | true ↦ declared.Object (record old { is_const = old.is_const || fresh.is_const })
          (initialized || initializes)
      | false ↦ declared.Object fresh initializes
    ])
merged_by true old fresh initialized initializes same = record {
  object = record old { is_const = old.is_const || fresh.is_const };
  initialized = initialized || initializes;
  is = refl;
  type = same refl;
}
merged_by false old fresh initialized initializes same =
    record { object = fresh; initialized = initializes; is = refl; type = refl }

merged_type : (before : Option Declared) (fresh : Object) (initializes : Bool) →
    MergedType fresh.ty (merged_object before fresh initializes)
merged_type None fresh initializes =
    record { object = fresh; initialized = initializes; is = refl; type = refl }
merged_type (Some (declared.Object old initialized)) fresh initializes =
    merged_by (one_type old fresh) old fresh initialized initializes
    (λ one. type_same old.ty fresh.ty
    (both_hold (same_type old.ty fresh.ty) (same_length old.length fresh.length) one))
merged_type (Some (declared.Function result parameters defined)) fresh initializes =
    record { object = fresh; initialized = initializes; is = refl; type = refl }
merged_type (Some (declared.Enumerator value)) fresh initializes =
    record { object = fresh; initialized = initializes; is = refl; type = refl }
merged_type (Some declared.Tag) fresh initializes =
    record { object = fresh; initialized = initializes; is = refl; type = refl }

first_false : (a b : Bool) → (not a || b) ≡ false → a ≡ true
first_false true b h = refl
first_false false b h = absurd (cc)

-- an object that is declared again has its type still
again_type : (old fresh : Object) (initialized initializes : Bool) →
    redeclares_object (Some (declared.Object old initialized)) fresh initializes ≡ false →
    MergedType old.ty (merged_object (Some (declared.Object old initialized)) fresh initializes)
again_type old fresh initialized initializes h =
    let one : one_type old fresh ≡ true =
    first_false (one_type old fresh) (initialized && initializes) h in
    let same : old.ty ≡ fresh.ty = type_same old.ty fresh.ty
    (both_hold (same_type old.ty fresh.ty) (same_length old.length fresh.length) one) in
    let m = merged_type (Some (declared.Object old initialized)) fresh initializes in
    record {
      object = m.object;
      initialized = m.initialized;
      is = m.is;
      type = m.type ∙ sym same;
    }

-- a declarator of file scope declares an object of its type
declares : (text : Text) (before : Before) (kind : Kind) (is_const : Bool) (declarator : Declarator)
    → IsObject (global_of text before kind is_const declarator).ty declarator.name.bytes
    (global_behind text kind is_const declarator before).names
declares text before kind is_const declarator =
    let name = declarator.name.bytes in
    let fresh = global_of text before kind is_const declarator in
    let made = merged_object (declared_as before.names name) fresh
    (is_some declarator.initializer) in
    let m : MergedType fresh.ty made =
    merged_type (declared_as before.names name) fresh (is_some declarator.initializer) in
    record {
      object = m.object;
      initialized = m.initialized;
      is = push_named before.names (record { name = name; declared = made }) name
          ((bytes_decides name name).1 refl) ∙ ap (λ d. Some d) m.is;
      type = m.type;
    }

-- and leaves an object that is declared already of its type

kept_by : (b : Bool) (text : Text) (before : Before) (kind : Kind) (is_const : Bool)
    (declarator : Declarator) (t : IntType) (name : List ℕ) →
    bytes_eq declarator.name.bytes name ≡ b →
    NoFaults (global_faults text before kind is_const declarator) → IsObject t name before.names →
    IsObject t name (global_behind text kind is_const declarator before).names
kept_by false text before kind is_const declarator t name other none h =
    let made = merged_object (declared_as before.names declarator.name.bytes)
    (global_of text before kind is_const declarator) (is_some declarator.initializer) in
    record {
      object = h.object;
      initialized = h.initialized;
      is = push_other before.names (record { name = declarator.name.bytes; declared = made }) name
          other ∙ h.is;
      type = h.type;
    }
kept_by true text before kind is_const declarator t name same none h =
    let fresh = global_of text before kind is_const declarator in
    let own = declarator.name.bytes in
    let starts = is_some declarator.initializer in
    let one : own ≡ name = (bytes_decides own name).0 same in
    let now : declared_as before.names own ≡ Some (declared.Object h.object h.initialized) =
    ap (declared_as before.names) one ∙ h.is in
    let n2 = broken rule.N2 (redeclared_object
    (global_of text before kind is_const declarator) declarator before) in
    let free : redeclares_object (declared_as before.names own) fresh starts ≡ false =
    not_broken rule.N2 (redeclares_object (declared_as before.names own) fresh starts)
    declarator.name.place (first_of_three n2 (object_faults text before.names kind declarator)
    (flat_map (start_faults text (global_behind text kind is_const declarator before).names)
    (items_of declarator.initializer)) none) in
    let m : MergedType h.object.ty (merged_object
    (Some (declared.Object h.object h.initialized)) fresh starts) =
    again_type h.object fresh h.initialized starts
    (ap (λ d. redeclares_object d fresh starts) (sym now) ∙ free) in
    let made = merged_object (declared_as before.names own) fresh starts in
    record {
      object = m.object;
      initialized = m.initialized;
      is = push_named before.names (record { name = own; declared = made }) name same
          ∙ ap (λ d. Some (merged_object d fresh starts)) now
          ∙ ap (λ d. Some d) m.is;
      type = m.type ∙ h.type;
    }

kept : (text : Text) (before : Before) (kind : Kind) (is_const : Bool) (declarator : Declarator)
    (t : IntType) (name : List ℕ) → NoFaults (global_faults text before kind is_const declarator) →
    IsObject t name before.names →
    IsObject t name (global_behind text kind is_const declarator before).names
kept text before kind is_const declarator t name none h =
    kept_by (bytes_eq declarator.name.bytes name) text before kind is_const declarator t name refl
    none h

all_kept : (text : Text) (kind : Kind) (is_const : Bool) (declarators : List Declarator)
    (before : Before) (t : IntType) (name : List ℕ) →
    NoFaults (globals_faults text kind is_const declarators before) →
    IsObject t name before.names →
    IsObject t name (globals_behind text kind is_const declarators before).names
all_kept text kind is_const [] before t name none h = h
all_kept text kind is_const (declarator ∷ more) before t name none h =
    let behind = global_behind text kind is_const declarator before in
    let first = global_faults text before kind is_const declarator in
    let rest = globals_faults text kind is_const more behind in
    all_kept text kind is_const more behind t name (none_right first rest none)
    (kept text before kind is_const declarator t name (none_left first rest none) h)

-- so does an enumerated type, whose names are not declared before

naming_by : (b : Bool) (names : List Entry) (entry : Entry) (t : IntType) (name : List ℕ) →
    bytes_eq entry.name name ≡ b → declared_as names entry.name ≡ None →
    IsObject t name names → IsObject t name (names ++ entry ∷ [])
naming_by false names entry t name other free h = record {
  object = h.object;
  initialized = h.initialized;
  is = push_other names entry name other ∙ h.is;
  type = h.type;
}
naming_by true names entry t name same free h =
    let one : entry.name ≡ name = (bytes_decides entry.name name).0 same in
    let none : declared_as names name ≡ None = ap (declared_as names) (sym one) ∙ free in
    let some : declared_as names name ≡ Some (declared.Object h.object h.initialized) = h.is in
    absurd (cc)

naming_kept : (around : Around) (entry : Entry) (t : IntType) (name : List ℕ) →
    declared_as around.names entry.name ≡ None → IsObject t name around.names →
    IsObject t name (naming entry around).names
naming_kept around entry t name free h =
    naming_by (bytes_eq entry.name name) around.names entry t name refl free h

enumerating_kept : (text : Text) (next : ℤ) (found : List Enumerator) (around : Around)
    (t : IntType) (name : List ℕ) → around.outer ≡ 0 →
    NoFaults (flat_map (site_faults text) ((enumerating text next found).sites around)) →
    IsObject t name around.names →
    IsObject t name ((enumerating text next found).behind around).names
enumerating_kept text next [] around t name outer none h = h
enumerating_kept text next (one ∷ more) around t name outer none h =
    let n = enumerator_number text around.names next one in
    let entry = enumerator_entry one.name.bytes n in
    let behind = naming entry around in
    let own = site_faults text (record { around = around; act = enumerates next one }) in
    let rest = flat_map (site_faults text)
    ((enumerating text (n +ℤ pos 1) more).sites behind) in
    enumerating_kept text (n +ℤ pos 1) more behind t name outer (none_right own rest none)
    (naming_kept around entry t name
    (fresh_enumerator text around next one outer (none_left own rest none)) h)

enumeration_kept : (text : Text) (found : Option Enumeration) (around : Around) (t : IntType)
    (name : List ℕ) → around.outer ≡ 0 →
    NoFaults (flat_map (site_faults text) ((enumeration_walk text found).sites around)) →
    IsObject t name around.names →
    IsObject t name ((enumeration_walk text found).behind around).names
enumeration_kept text None around t name outer none h = h
enumeration_kept text (Some (enumeration.Tag tag)) around t name outer none h = h
enumeration_kept text (Some (enumeration.Listed None found)) around t name outer none h =
    enumerating_kept text (pos 0) found around t name outer none h
enumeration_kept text (Some (enumeration.Listed (Some tag) found)) around t name outer none h =
    let entry = tag_entry tag.bytes in
    let behind = naming entry around in
    let own = site_faults text (record { around = around; act = tags tag }) in
    let rest = flat_map (site_faults text) ((enumerating text (pos 0) found).sites behind) in
    enumerating_kept text (pos 0) found behind t name outer (none_right own rest none)
    (naming_kept around entry t name
    (fresh_tag text around tag outer (none_left own rest none)) h)

specifiers_kept : (text : Text) (specifiers : Specifiers) (before : Before) (t : IntType)
    (name : List ℕ) → NoFaults (enumeration_faults text specifiers before) →
    IsObject t name before.names →
    IsObject t name (enumeration_behind text specifiers before).names
specifiers_kept text specifiers before t name none h =
    enumeration_kept text specifiers.enumeration (around_item before) t name refl none h

-- so does a function

-- that it is not declared yet, of the faults of its head
head_free : (text : Text) (before : Before) (defines : Bool) (specifiers : Specifiers)
    (declarator : FunctionDeclarator) →
    NoFaults (head_faults text before defines specifiers declarator) →
    NoFaults (broken rule.N2 (redeclared_function text before defines specifiers declarator))
head_free text before defines specifiers declarator none =
    let front = enumeration_faults text specifiers before in
    let n2 = broken rule.N2 (redeclared_function text before defines specifiers declarator) in
    let more = broken rule.N5 (flat_map (void_parameter text) (listed declarator.parameters)) in
    let others = flat_map (λ (parameter : Parameter).
    enumeration_faults text parameter.specifiers before) (listed declarator.parameters) in
    none_right front n2 (none_left (front ++ n2) more (none_left (front ++ n2 ++ more) others none))

function_by : (b : Bool) (text : Text) (before : Before) (defines : Bool)
    (specifiers : Specifiers) (declarator : FunctionDeclarator) (t : IntType) (name : List ℕ) →
    bytes_eq declarator.name.bytes name ≡ b →
    NoFaults (head_faults text before defines specifiers declarator) →
    IsObject t name before.names →
    IsObject t name (function_behind text defines specifiers declarator before).names
function_by false text before defines specifiers declarator t name other none h =
    let made = merged_function (declared_as before.names declarator.name.bytes)
    (kind_of text specifiers) (parameter_types text defines declarator.parameters) defines in
    record {
      object = h.object;
      initialized = h.initialized;
      is = push_other before.names (record { name = declarator.name.bytes; declared = made }) name
          other ∙ h.is;
      type = h.type;
    }
function_by true text before defines specifiers declarator t name same none h =
    let own = declarator.name.bytes in
    let kind = kind_of text specifiers in
    let types = parameter_types text defines declarator.parameters in
    let one : own ≡ name = (bytes_decides own name).0 same in
    let now : declared_as before.names own ≡ Some (declared.Object h.object h.initialized) =
    ap (declared_as before.names) one ∙ h.is in
    let free : redeclares_function (declared_as before.names own) kind types defines ≡ false =
    not_broken rule.N2 (redeclares_function (declared_as before.names own) kind types defines)
    declarator.name.place (head_free text before defines specifiers declarator none) in
    let taken : redeclares_function (declared_as before.names own) kind types defines ≡ true =
    ap (λ d. redeclares_function d kind types defines) now in
    absurd (cc)

function_kept : (text : Text) (before : Before) (defines : Bool) (specifiers : Specifiers)
    (declarator : FunctionDeclarator) (t : IntType) (name : List ℕ) →
    NoFaults (head_faults text before defines specifiers declarator) →
    IsObject t name before.names →
    IsObject t name (function_behind text defines specifiers declarator before).names
function_kept text before defines specifiers declarator t name none h =
    function_by (bytes_eq declarator.name.bytes name) text before defines specifiers declarator t
    name refl none h

body_kept : (text : Text) (specifiers : Specifiers) (declarator : FunctionDeclarator)
    (made : Body) (before : Before) (t : IntType) (name : List ℕ) →
    IsObject t name before.names →
    IsObject t name (body_behind text specifiers declarator made before).names
body_kept text specifiers declarator body.Skipped before t name h = h
body_kept text specifiers declarator (body.Block items place end) before t name h = h

item_kept : (text : Text) (one : Item) (before : Before) (t : IntType) (name : List ℕ) →
    NoFaults (item_faults text one before) → IsObject t name before.names →
    IsObject t name (item_behind text one before).names
item_kept text (item.Empty place) before t name none h = h
item_kept text (item.Typedef specifiers names place) before t name none h =
    specifiers_kept text specifiers before t name
    (none_left (enumeration_faults text specifiers before)
    (typedefs_faults (object_type (kind_of text specifiers)) names
    (enumeration_behind text specifiers before)) none) h
item_kept text (item.Objects declaration) before t name none h =
    let specifiers = declaration.specifiers in
    let front = enumeration_faults text specifiers before in
    let behind = enumeration_behind text specifiers before in
    let kind = kind_of text specifiers in
    let is_const = has_const specifiers in
    let rest = globals_faults text kind is_const declaration.declarators behind in
    all_kept text kind is_const declaration.declarators behind t name (none_right front rest none)
    (specifiers_kept text specifiers before t name (none_left front rest none) h)
item_kept text (item.Prototype specifiers declarator) before t name none h =
    function_kept text before false specifiers declarator t name none h
item_kept text (item.Function specifiers declarator made) before t name none h =
    body_kept text specifiers declarator made (function_behind text true specifiers declarator
    before) t
    name
    (function_kept text before true specifiers declarator t name
    (none_left (head_faults text before true specifiers declarator)
    (body_faults text (body_sites text before specifiers declarator made)) none) h)

items_kept : (text : Text) (items : List Item) (before : Before) (t : IntType) (name : List ℕ) →
    NoFaults (items_faults text items before) → IsObject t name before.names →
    IsObject t name (items_behind text items before).names
items_kept text [] before t name none h = h
items_kept text (one ∷ more) before t name none h =
    let behind = item_behind text one before in
    let first = item_faults text one before in
    let rest = items_faults text more behind in
    items_kept text more behind t name (none_right first rest none)
    (item_kept text one before t name (none_left first rest none) h)

-- the values of initializers

record Fits (names : List Entry) (s : Start) : Type 0 where
  type : IntType
  object : IsObject type s.name names
  values : AllByRecursion (IsInRange type) s.values

all_wrapped : (t : IntType) (value : Expression → ℤ) (items : List Expression) →
    AllByRecursion (IsInRange t) (map (λ one. wrapped t (value one)) items)
all_wrapped t value [] = tt
all_wrapped t value (one ∷ items) = (wrapped_in_range t (value one), all_wrapped t value items)

one_start : (o : Option Initializer) (names : List Entry) (s : Start) → Fits names s →
    AllByRecursion (Fits names) (elim o as (λ x. List Start) [ None ↦ [] | Some given ↦ s ∷ [] ])
one_start None names s h = tt
one_start (Some given) names s h = (h, tt)

append_fits : (names : List Entry) (a b : List Start) → AllByRecursion (Fits names) a →
    AllByRecursion (Fits names) b → AllByRecursion (Fits names) (a ++ b)
append_fits names [] b h k = k
append_fits names (s ∷ a) b h k = (h.0, append_fits names a b h.1 k)

declarator_fits : (text : Text) (before : Before) (kind : Kind) (is_const : Bool)
    (declarator : Declarator) →
    AllByRecursion (Fits (global_behind text kind is_const declarator before).names)
    (start_of text before kind is_const declarator)
declarator_fits text before kind is_const declarator =
    let names = (global_behind text kind is_const declarator before).names in
    let t = (global_of text before kind is_const declarator).ty in
    let value = λ (one : Expression).
    unwrap_or (constant_number text names one) (pos 0) in
    one_start declarator.initializer names (record {
      name = declarator.name.bytes;
      values = map (λ one. wrapped t (value one)) (items_of declarator.initializer);
    }) (record {
      type = t;
      object = declares text before kind is_const declarator;
      values = all_wrapped t value (items_of declarator.initializer);
    })

more_names : (text : Text) (kind : Kind) (is_const : Bool) (declarators : List Declarator)
    (before : Before) → NoFaults (globals_faults text kind is_const declarators before) →
    (starts : List Start) → AllByRecursion (Fits before.names) starts →
    AllByRecursion (Fits (globals_behind text kind is_const declarators before).names) starts
more_names text kind is_const declarators before none [] h = tt
more_names text kind is_const declarators before none (s ∷ starts) h = (
  record {
    type = h.0.type;
    object = all_kept text kind is_const declarators before h.0.type s.name none h.0.object;
    values = h.0.values;
  },
  more_names text kind is_const declarators before none starts h.1,
)

declarators_fit : (text : Text) (kind : Kind) (is_const : Bool) (declarators : List Declarator)
    (before : Before) → NoFaults (globals_faults text kind is_const declarators before) →
    AllByRecursion (Fits (globals_behind text kind is_const declarators before).names)
    (starts_in text kind is_const declarators before)
declarators_fit text kind is_const [] before none = tt
declarators_fit text kind is_const (declarator ∷ more) before none =
    let behind = global_behind text kind is_const declarator before in
    let rest = globals_faults text kind is_const more behind in
    let others = none_right (global_faults text before kind is_const declarator) rest none in
    append_fits (globals_behind text kind is_const more behind).names
    (start_of text before kind is_const declarator) (starts_in text kind is_const more behind)
    (more_names text kind is_const more behind others
    (start_of text before kind is_const declarator)
    (declarator_fits text before kind is_const declarator))
    (declarators_fit text kind is_const more behind others)

item_fits : (text : Text) (one : Item) (before : Before) →
    NoFaults (item_faults text one before) →
    AllByRecursion (Fits (item_behind text one before).names) (item_starts text one before)
item_fits text (item.Empty place) before none = tt
item_fits text (item.Typedef specifiers names place) before none = tt
item_fits text (item.Objects declaration) before none =
    let behind = enumeration_behind text declaration.specifiers before in
    let kind = kind_of text declaration.specifiers in
    let is_const = has_const declaration.specifiers in
    declarators_fit text kind is_const declaration.declarators behind
    (none_right (enumeration_faults text declaration.specifiers before)
    (globals_faults text kind is_const declaration.declarators behind) none)
item_fits text (item.Prototype specifiers declarator) before none = tt
item_fits text (item.Function specifiers declarator made) before none = tt

later_names : (text : Text) (items : List Item) (before : Before) →
    NoFaults (items_faults text items before) → (starts : List Start) →
    AllByRecursion (Fits before.names) starts →
    AllByRecursion (Fits (items_behind text items before).names) starts
later_names text items before none [] h = tt
later_names text items before none (s ∷ starts) h = (
  record {
    type = h.0.type;
    object = items_kept text items before h.0.type s.name none h.0.object;
    values = h.0.values;
  },
  later_names text items before none starts h.1,
)

items_fit : (text : Text) (items : List Item) (before : Before) →
    NoFaults (items_faults text items before) →
    AllByRecursion (Fits (items_behind text items before).names) (starts_of text items before)
items_fit text [] before none = tt
items_fit text (one ∷ more) before none =
    let behind = item_behind text one before in
    let rest = items_faults text more behind in
    let others = none_right (item_faults text one before) rest none in
    append_fits (items_behind text more behind).names (item_starts text one before)
    (starts_of text more behind)
    (later_names text more behind others (item_starts text one before)
    (item_fits text one before (none_left (item_faults text one before) rest none)))
    (items_fit text more behind others)

-- what an object starts at

abbrev pub InRange : Global → Type 0
InRange global = AllByRecursion (IsInRange global.object.ty) global.starts

abbrev FoundFits : List Entry → List ℕ → Option Start → Type 0
FoundFits names name o =
    (object : Object) (initialized : Bool)
    → declared_as names name ≡ Some (declared.Object object initialized)
    → AllByRecursion (IsInRange object.ty) (unwrap_or (option_map (λ (s : Start). s.values) o) [])

found_by : (b : Bool) (names : List Entry) (name : List ℕ) (s : Start) (rest : Option Start) →
    bytes_eq s.name name ≡ b → Fits names s → FoundFits names name rest →
    FoundFits names name (cond b (Some s) rest)
found_by true names name s rest same fits more = λ object initialized is.
    let one : s.name ≡ name = (bytes_decides s.name name).0 same in
    let objects : object ≡ fits.object.object =
    same_object object fits.object.object initialized fits.object.initialized
    (sym is ∙ ap (declared_as names) (sym one) ∙ fits.object.is) in
    subst (λ t. AllByRecursion (IsInRange t) s.values)
    (sym (ap (λ (o : Object). o.ty) objects ∙ fits.object.type)) fits.values
found_by false names name s rest other fits more = more

found_fits : (names : List Entry) (name : List ℕ) (starts : List Start) →
    AllByRecursion (Fits names) starts →
    FoundFits names name (find (λ s. bytes_eq s.name name) starts)
found_fits names name [] h = λ object initialized is. tt
found_fits names name (s ∷ starts) h =
    found_by (bytes_eq s.name name) names name s (find (λ one. bytes_eq one.name name) starts) refl
    h.0 (found_fits names name starts h.1)

named_fits : (names : List Entry) (starts : List Start) (name : List ℕ) (o : Option Declared) →
    declared_as names name ≡ o → AllByRecursion (Fits names) starts →
    AllByRecursion InRange
    (map (λ object. record { object = object; starts = start_values starts name }) (object_in o))
named_fits names starts name None is h = tt
named_fits names starts name (Some (declared.Function result parameters defined)) is h = tt
named_fits names starts name (Some (declared.Enumerator value)) is h = tt
named_fits names starts name (Some declared.Tag) is h = tt
named_fits names starts name (Some (declared.Object object initialized)) is h =
    (found_fits names name starts h object initialized is, tt)

append_globals : (a b : List Global) → AllByRecursion InRange a → AllByRecursion InRange b →
    AllByRecursion InRange (a ++ b)
append_globals [] b h k = k
append_globals (g ∷ a) b h k = (h.0, append_globals a b h.1 k)

all_named : (names : List Entry) (starts : List Start) (all : List (List ℕ)) →
    AllByRecursion (Fits names) starts →
    AllByRecursion InRange (flat_map (global_named names starts) all)
all_named names starts [] h = tt
all_named names starts (name ∷ all) h =
    append_globals (global_named names starts name) (flat_map (global_named names starts) all)
    (named_fits names starts name (declared_as names name) refl h) (all_named names starts all h)

pub globals_fit : (model : DataModel) (tree : UnitTree) → Sound model tree →
    AllByRecursion InRange (unit_globals model tree)
globals_fit model tree sound =
    let text = text_in model tree.items in
    let names = (items_behind text tree.items nothing_before).names in
    all_named names (starts_of text tree.items nothing_before) (object_names [] names)
    (items_fit text tree.items nothing_before (no_fault model tree sound))
