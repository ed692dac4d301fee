-- What the names of file scope are declared as, from item to item of a text in which no rule is
-- broken.
use Rattle.std.proofs.Common.{◌≡◌, ℕ, ◌+◌, ◌≤◌, ℤ, ◌+ℤ◌, pos, Bool, true, false, not, ◌&&◌, ◌||◌}
use Rattle.std.proofs.Common.{List, []}
use Rattle.std.proofs.Common.{◌∷◌, ◌++◌, length, Option, None, Some, refl, ap, sym, ◌∙◌, subst}
use Rattle.std.proofs.Common.{arith}
use Rattle.std.specs.Prelude.{is_some, unsigned_abs}
use Rattle.std.specs.List.{flat_map}
use Rattle.std.specs.Str.{bytes_eq}
use Rattle.std.specs.Cmp.Lexicographic.{bytes_decides}
use Rattle.std.proofs.lemmas.Option.{same_Some}
use Rattle.cpa_ints.specs.declared.integers.IntType.TheVariants as ty
use Rattle.cpa_ints.specs.Integers.{IsInRange}
use Rattle.c_lexer.specs.declared.fault.Rule.TheVariants as rule
use Rattle.c_lexer.specs.declared.fault.TextFault.{TextFault}
use Rattle.c_grammar_tree.specs.declared.declaration.Enumerator.{Enumerator}
use Rattle.c_grammar_tree.specs.declared.declaration.Enumeration.{Enumeration}
use Rattle.c_grammar_tree.specs.declared.declaration.Enumeration.TheVariants as enumeration
use Rattle.c_grammar_tree.specs.declared.item.Parameter.{Parameter}
use Rattle.c_grammar_tree.specs.declared.declaration.Specifiers.{Specifiers}
use Rattle.c_grammar_tree.specs.declared.declaration.Declarator.{Declarator}
use Rattle.c_grammar_tree.specs.declared.item.FunctionDeclarator.{FunctionDeclarator}
use Rattle.c_types_rules.specs.declared.meaning.Kind.{Kind}
use Rattle.c_types_rules.specs.declared.meaning.Kind.TheVariants.{Void, Value}
use Rattle.c_types_rules.specs.declared.meaning.Object.{Object}
use Rattle.c_types_rules.specs.declared.meaning.ParameterType.{ParameterType}
use Rattle.c_types_rules.specs.declared.meaning.Declared.{Declared}
use Rattle.c_types_rules.specs.declared.meaning.Declared.TheVariants as declared
use Rattle.c_types_rules.specs.declared.meaning.Entry.{Entry}
use Rattle.c_types_rules.specs.Names.{Text, declared_as, or_else}
use Rattle.c_types_rules.specs.Tables.{cells_of}
use Rattle.c_types_rules.specs.ExpressionRules.{broken, uses_faults}
use Rattle.c_types_rules.specs.Declarations.{kind_of, items_of, length_faults, length_uses}
use Rattle.c_types_rules.specs.Declarations.{void_object}
use Rattle.c_types_rules.specs.Declarations.{void_parameter, enumerator_number, enumerator_entry}
use Rattle.c_types_rules.specs.Declarations.{tag_entry}
use Rattle.c_types_rules.specs.Statements.{Around, enumerates, tags, naming, enumerating}
use Rattle.c_types_rules.specs.Statements.{enumeration_walk}
use Rattle.c_types_rules.specs.StatementRules.{site_faults}
use Rattle.c_types_rules.specs.Items.{Before, one_type, merged_object, redeclares_object, global_of}
use Rattle.c_types_rules.specs.Items.{global_behind, redeclared_object, start_faults, global_faults}
use Rattle.c_types_rules.specs.Items.{same_kind, merged_function, redeclares_function}
use Rattle.c_types_rules.specs.Items.{parameter_types}
use Rattle.c_types_rules.specs.Items.{redeclared_function, function_behind, head_faults, listed}
use Rattle.c_types_rules.specs.Items.{agreeing_parameters, around_item, enumeration_behind}
use Rattle.c_types_rules.specs.Items.{enumeration_faults, object_faults}
use Rattle.c_core_laws.specs.lemmas.Faults.{NoFaults, none_left, none_right, not_broken}
use Rattle.c_core_laws.specs.lemmas.Entries.{push_named, push_other}
use Rattle.c_core_laws.specs.lemmas.Enumerations.{fresh_enumerator, fresh_tag}
use Rattle.c_core_sound.specs.Whole.{whole_length}
use Rattle.c_core_laws.specs.lemmas.MadeValues.{type_same}
use Rattle.c_core_sound.proofs.Lengths.{enough}
use Rattle.c_core_sound.proofs.Entries.{pushed_by}
use Rattle.c_core_sound.proofs.Enumerating.{enumeration_grows}
use Rattle.c_core_sound.proofs.Running.{DeclaredBelow, Below, below_push, below_higher}

-- two declarations of one thing: the same object but for const, functions of one result, or the
-- same constant or tag
abbrev pub Alike : Declared → Declared → Type 0
Alike (declared.Object a i) (declared.Object b j) =
    (a.number ≡ b.number) × (a.ty ≡ b.ty) × (a.length ≡ b.length)
Alike (declared.Function r ps d) (declared.Function s qs e) = r ≡ s
Alike (declared.Enumerator n) e = declared.Enumerator n ≡ e
Alike declared.Tag e = declared.Tag ≡ e
Alike _ _ = ⊥

pub alike_self : (d : Declared) → Alike d d
alike_self (declared.Object a i) = (refl, refl, refl)
alike_self (declared.Function r ps d) = refl
alike_self (declared.Enumerator n) = refl
alike_self declared.Tag = refl

pub alike_both : (d e f : Declared) → Alike d e → Alike e f → Alike d f
alike_both (declared.Object a i) (declared.Object b j) (declared.Object c k) x y =
    (x.0 ∙ y.0, x.1 ∙ y.1, x.2 ∙ y.2)
alike_both (declared.Object a i) (declared.Object b j) (declared.Function r ps d) x y = absurd y
alike_both (declared.Object a i) (declared.Object b j) (declared.Enumerator n) x y = absurd y
alike_both (declared.Object a i) (declared.Object b j) declared.Tag x y = absurd y
alike_both (declared.Object a i) (declared.Function r ps d) f x y = absurd x
alike_both (declared.Object a i) (declared.Enumerator n) f x y = absurd x
alike_both (declared.Object a i) declared.Tag f x y = absurd x
alike_both (declared.Function r ps d) (declared.Object b j) f x y = absurd x
alike_both (declared.Function r ps d) (declared.Enumerator n) f x y = absurd x
alike_both (declared.Function r ps d) declared.Tag f x y = absurd x
alike_both (declared.Function r ps d) (declared.Function s qs e) (declared.Object c k) x y =
    absurd y
alike_both (declared.Function r ps d) (declared.Function s qs e) (declared.Enumerator n) x y =
    absurd y
alike_both (declared.Function r ps d) (declared.Function s qs e) declared.Tag x y = absurd y
alike_both (declared.Function r ps d) (declared.Function s qs e) (declared.Function t os f) x y =
    x ∙ y
alike_both (declared.Enumerator n) e f x y = subst (λ (d : Declared). Alike d f) (sym x) y
alike_both declared.Tag e f x y = subst (λ (d : Declared). Alike d f) (sym x) y

-- what is declared is declared alike among other names
pub record Lasting (later : List Entry) (name : List ℕ) (d : Declared) : Type 0 where
  pub now : Declared
  pub is : declared_as later name ≡ Some now
  pub alike : Alike d now

pub record Lasts (names later : List Entry) : Type 0 where
  pub at : (name : List ℕ) (d : Declared) → declared_as names name ≡ Some d → Lasting later name d

pub lasts_self : (names : List Entry) → Lasts names names
lasts_self names =
    record { at = λ name d is. record { now = d; is = is; alike = alike_self d } }

pub lasts_both : (a b c : List Entry) → Lasts a b → Lasts b c → Lasts a c
lasts_both a b c h k = record {
  at = λ name d is.
      let x = h.at name d is in
      let y = k.at name x.now x.is in
      record { now = y.now; is = y.is; alike = alike_both d x.now y.now x.alike y.alike };
}

-- behind one more declaration, that is alike where its name is declared already
lasts_push_by : (names : List Entry) (entry : Entry) (name : List ℕ) (d : Declared) (b : Bool) →
    bytes_eq entry.name name ≡ b → declared_as names name ≡ Some d →
    ((e : Declared) → declared_as names entry.name ≡ Some e → Alike e entry.declared) →
    Lasting (names ++ entry ∷ []) name d
lasts_push_by names entry name d true named is same =
    let one : entry.name ≡ name = (bytes_decides entry.name name).0 named in
    record {
      now = entry.declared;
      is = push_named names entry name named;
      alike = same d (ap (declared_as names) one ∙ is);
    }
lasts_push_by names entry name d false named is same =
    record { now = d; is = push_other names entry name named ∙ is; alike = alike_self d }

none_some : {A : Type 0} (x : A) → None ≡ Some x → ⊥
none_some x is = cc

lasts_push : (names : List Entry) (entry : Entry) →
    ((e : Declared) → declared_as names entry.name ≡ Some e → Alike e entry.declared) →
    Lasts names (names ++ entry ∷ [])
lasts_push names entry same = record {
  at = λ name d is.
      lasts_push_by names entry name d (bytes_eq entry.name name) refl is same;
}

-- an object of file scope that is declared once more

first_false : (a b : Bool) → (not a || b) ≡ false → a ≡ true
first_false true b h = refl
first_false false b h = absurd (cc)

either_false : (a b : Bool) → (a || b) ≡ false → a ≡ false
either_false true b h = absurd (cc)
either_false false b h = refl

-- which object a declaration makes: the old one, or a fresh one
pub data Makes (before : Option Declared) (fresh : Object) : Declared → Type 0 where
  makes_old : (old now : Object) (i j : Bool) → before ≡ Some (declared.Object old i)
      → now.number ≡ old.number → now.ty ≡ old.ty → now.length ≡ old.length
      → Makes before fresh (declared.Object now j)
  makes_fresh : (j : Bool) → Makes before fresh (declared.Object fresh j)

makes_by : (b : Bool) (old fresh : Object) (i j : Bool) →
    Makes (Some (declared.Object old i)) fresh (elim b [
      | true ↦ declared.Object (record old { is_const = old.is_const || fresh.is_const }) (i || j)
      | false ↦ declared.Object fresh j
    ])
makes_by true old fresh i j =
    makes_old old (record old { is_const = old.is_const || fresh.is_const }) i (i || j) refl refl
    refl
    refl
makes_by false old fresh i j = makes_fresh j

makes : (before : Option Declared) (fresh : Object) (j : Bool) →
    Makes before fresh (merged_object before fresh j)
makes None fresh j = makes_fresh j
makes (Some (declared.Object old i)) fresh j = makes_by (one_type old fresh) old fresh i j
makes (Some (declared.Function r ps d)) fresh j = makes_fresh j
makes (Some (declared.Enumerator n)) fresh j = makes_fresh j
makes (Some declared.Tag) fresh j = makes_fresh j

merged_alike_by : (b : Bool) (old fresh : Object) (i j : Bool) → b ≡ true →
    Alike (declared.Object old i) (elim b as (λ c. Declared) [
      | true ↦ declared.Object (record old { is_const = old.is_const || fresh.is_const }) (i || j)
      | false ↦ declared.Object fresh j
    ])
merged_alike_by true old fresh i j is = (refl, refl, refl)
merged_alike_by false old fresh i j is = absurd (cc)

-- where no rule is broken it is declared alike
merged_alike : (e : Declared) (fresh : Object) (j : Bool) →
    redeclares_object (Some e) fresh j ≡ false → Alike e (merged_object (Some e) fresh j)
merged_alike (declared.Object old i) fresh j h =
    merged_alike_by (one_type old fresh) old fresh i j (first_false (one_type old fresh) (i && j) h)
merged_alike (declared.Function r ps d) fresh j h = absurd (cc)
merged_alike (declared.Enumerator n) fresh j h = absurd (cc)
merged_alike declared.Tag fresh j h = absurd (cc)

abbrev global_entry : Text → Before → Kind → Bool → Declarator → Entry
global_entry text before kind is_const declarator = record {
  name = declarator.name.bytes;
  declared = merged_object (declared_as before.names declarator.name.bytes)
      (global_of text before kind is_const declarator) (is_some declarator.initializer);
}

pub global_lasts : (text : Text) (before : Before) (kind : Kind) (is_const : Bool)
    (declarator : Declarator) → NoFaults (global_faults text before kind is_const declarator) →
    Lasts before.names (global_behind text kind is_const declarator before).names
global_lasts text before kind is_const declarator none =
    let own = declarator.name.bytes in
    let fresh = global_of text before kind is_const declarator in
    let starts = is_some declarator.initializer in
    let o = declared_as before.names own in
    let a = broken rule.N2 (redeclared_object
    (global_of text before kind is_const declarator) declarator before) in
    let b = object_faults text before.names kind declarator in
    let v = flat_map (start_faults text (global_behind text kind is_const declarator before).names)
    (items_of declarator.initializer) in
    let free : redeclares_object o fresh starts ≡ false =
    not_broken rule.N2 (redeclares_object o fresh starts) declarator.name.place
    (none_left a b (none_left (a ++ b) v none)) in
    lasts_push before.names (global_entry text before kind is_const declarator)
    (λ e is. subst (λ (d : Option Declared). Alike e (merged_object d fresh starts)) (sym is)
    (merged_alike e fresh starts
    (ap (λ (d : Option Declared). redeclares_object d fresh starts) (sym is) ∙ free)))

-- enumerators and tags, which are not declared before

fresh_lasts : (names : List Entry) (entry : Entry) → declared_as names entry.name ≡ None →
    Lasts names (names ++ entry ∷ [])
fresh_lasts names entry free =
    lasts_push names entry (λ e is. absurd (none_some e (sym free ∙ is)))

enumerators_last : (text : Text) (next : ℤ) (found : List Enumerator) (around : Around) →
    around.outer ≡ 0 →
    NoFaults (flat_map (site_faults text) ((enumerating text next found).sites around)) →
    Lasts around.names ((enumerating text next found).behind around).names
enumerators_last text next [] around outer none = lasts_self around.names
enumerators_last text next (one ∷ more) around outer none =
    let n = enumerator_number text around.names next one in
    let entry = enumerator_entry one.name.bytes n in
    let behind = naming entry around in
    let own = site_faults text (record { around = around; act = enumerates next one }) in
    let rest = flat_map (site_faults text) ((enumerating text (n +ℤ pos 1) more).sites behind) in
    lasts_both around.names behind.names
    ((enumerating text (n +ℤ pos 1) more).behind behind).names
    (fresh_lasts around.names entry
    (fresh_enumerator text around next one outer (none_left own rest none)))
    (enumerators_last text (n +ℤ pos 1) more behind outer (none_right own rest none))

enumeration_last : (text : Text) (found : Option Enumeration) (around : Around) →
    around.outer ≡ 0 →
    NoFaults (flat_map (site_faults text) ((enumeration_walk text found).sites around)) →
    Lasts around.names ((enumeration_walk text found).behind around).names
enumeration_last text None around outer none = lasts_self around.names
enumeration_last text (Some (enumeration.Tag tag)) around outer none = lasts_self around.names
enumeration_last text (Some (enumeration.Listed None found)) around outer none =
    enumerators_last text (pos 0) found around outer none
enumeration_last text (Some (enumeration.Listed (Some tag) found)) around outer none =
    let behind = naming (tag_entry tag.bytes) around in
    let own = site_faults text (record { around = around; act = tags tag }) in
    let rest = flat_map (site_faults text) ((enumerating text (pos 0) found).sites behind) in
    lasts_both around.names behind.names ((enumerating text (pos 0) found).behind behind).names
    (fresh_lasts around.names (tag_entry tag.bytes)
    (fresh_tag text around tag outer (none_left own rest none)))
    (enumerators_last text (pos 0) found behind outer (none_right own rest none))

pub enumeration_lasts : (text : Text) (specifiers : Specifiers) (before : Before) →
    NoFaults (enumeration_faults text specifiers before) →
    Lasts before.names (enumeration_behind text specifiers before).names
enumeration_lasts text specifiers before none =
    enumeration_last text specifiers.enumeration (around_item before) refl none

-- functions

same_result : (r s : Kind) → same_kind r s ≡ true → r ≡ s
same_result Void Void h = refl
same_result (Value t) (Value u) h = ap (λ w. Value w) (type_same t u h)
same_result Void (Value u) h = absurd (cc)
same_result (Value t) Void h = absurd (cc)

function_alike : (e : Declared) (kind : Kind) (types : Option (List ParameterType))
    (defines : Bool) → redeclares_function (Some e) kind types defines ≡ false →
    Alike e (merged_function (Some e) kind types defines)
function_alike (declared.Object old i) kind types defines h = absurd (cc)
function_alike (declared.Enumerator n) kind types defines h = absurd (cc)
function_alike declared.Tag kind types defines h = absurd (cc)
function_alike (declared.Function r ps d) kind types defines h = refl

abbrev function_entry : Text → Bool → Specifiers → FunctionDeclarator → Before → Entry
function_entry text defines specifiers declarator before = record {
  name = declarator.name.bytes;
  declared = merged_function (declared_as before.names declarator.name.bytes)
      (kind_of text specifiers)
      (parameter_types text defines declarator.parameters) defines;
}

head_free : (e a b c : List TextFault) → NoFaults (e ++ a ++ b ++ c) → NoFaults a
head_free e a b c none = none_right e a (none_left (e ++ a) b (none_left (e ++ a ++ b) c none))

redeclared_free : (text : Text) (before : Before) (defines : Bool)
    (specifiers : Specifiers) (declarator : FunctionDeclarator) →
    NoFaults (head_faults text before defines specifiers declarator) →
    redeclares_function (declared_as before.names declarator.name.bytes) (kind_of text specifiers)
    (parameter_types text defines declarator.parameters) defines ≡ false
redeclared_free text before defines specifiers declarator none =
    not_broken rule.N2 (redeclares_function (declared_as before.names declarator.name.bytes)
    (kind_of text specifiers) (parameter_types text defines declarator.parameters) defines)
    declarator.name.place
    (head_free (enumeration_faults text specifiers before)
    (broken rule.N2 (redeclared_function text before defines specifiers declarator))
    (broken rule.N5 (flat_map (void_parameter text) (listed declarator.parameters)))
    (flat_map (λ (parameter : Parameter). enumeration_faults text parameter.specifiers before)
    (listed declarator.parameters)) none)

pub function_lasts : (text : Text) (before : Before) (defines : Bool)
    (specifiers : Specifiers) (declarator : FunctionDeclarator) →
    NoFaults (head_faults text before defines specifiers declarator) →
    Lasts before.names (function_behind text defines specifiers declarator before).names
function_lasts text before defines specifiers declarator none =
    let kind = kind_of text specifiers in
    let types = parameter_types text defines declarator.parameters in
    let free = redeclared_free text before defines specifiers declarator none in
    lasts_push before.names (function_entry text defines specifiers declarator before)
    (λ e is. subst (λ (d : Option Declared). Alike e (merged_function d kind types defines))
    (sym is) (function_alike e kind types defines
    (ap (λ (d : Option Declared). redeclares_function d kind types defines) (sym is) ∙ free)))

-- a name that is a function of this result
pub record IsFunction (result : Kind) (name : List ℕ) (names : List Entry) : Type 0 where
  pub parameters : Option (List ParameterType)
  pub defined : Bool
  pub is : declared_as names name ≡ Some (declared.Function result parameters defined)

merged_result : (o : Option Declared) (kind : Kind) (types : Option (List ParameterType))
    (defines : Bool) → redeclares_function o kind types defines ≡ false →
    (ps : Option (List ParameterType)) × (d : Bool)
    × (merged_function o kind types defines ≡ declared.Function kind ps d)
merged_result None kind types defines h = (types, defines, refl)
merged_result (Some (declared.Object old i)) kind types defines h = absurd (cc)
merged_result (Some (declared.Enumerator n)) kind types defines h = absurd (cc)
merged_result (Some declared.Tag) kind types defines h = absurd (cc)
merged_result (Some (declared.Function r ps d)) kind types defines h = (
  or_else ps types,
  d || defines,
  ap (λ (k : Kind). declared.Function k (or_else ps types)
      (d || defines)) (same_result r kind (first_false (same_kind r kind)
      (not (agreeing_parameters ps types))
      (either_false (not (same_kind r kind) || not (agreeing_parameters ps types)) (d && defines)
      h))),
)

pub declares_function : (text : Text) (before : Before) (defines : Bool)
    (specifiers : Specifiers) (declarator : FunctionDeclarator) →
    NoFaults (head_faults text before defines specifiers declarator) →
    IsFunction (kind_of text specifiers) declarator.name.bytes
    (function_behind text defines specifiers declarator before).names
declares_function text before defines specifiers declarator none =
    let own = declarator.name.bytes in
    let r = merged_result (declared_as before.names own) (kind_of text specifiers)
    (parameter_types text defines declarator.parameters) defines
    (redeclared_free text before defines specifiers declarator none) in
    record {
      parameters = r.0;
      defined = r.1;
      is = push_named before.names (function_entry text defines specifiers declarator before) own
          ((bytes_decides own own).1 refl) ∙ ap (λ d. Some d) r.2;
    }

-- the objects of file scope: each has a cell at least, a number below the next one, and a number of
-- its own; an enumerator is an int

abbrev pub DeclaredSome : Declared → Type 0
DeclaredSome (declared.Object object initialized) = 1 ≤ cells_of object
DeclaredSome (declared.Function result parameters defined) = Unit {0}
DeclaredSome (declared.Enumerator value) = IsInRange ty.I32 value
DeclaredSome declared.Tag = Unit {0}

abbrev pub HasNumber : Declared → ℕ → Type 0
HasNumber (declared.Object object initialized) n = object.number ≡ n
HasNumber (declared.Function result parameters defined) n = ⊥
HasNumber (declared.Enumerator value) n = ⊥
HasNumber declared.Tag n = ⊥

pub record FileScope (names : List Entry) (objects : ℕ) : Type 0 where
  pub some : (name : List ℕ) (d : Declared) → declared_as names name ≡ Some d → DeclaredSome d
  pub below : Below objects names
  pub one : (name other : List ℕ) (d e : Declared) → declared_as names name ≡ Some d →
      declared_as names other ≡ Some e → (n : ℕ) → HasNumber d n → HasNumber e n → name ≡ other

cells_same : (a b : Object) → a.length ≡ b.length → cells_of a ≡ cells_of b
cells_same a b is = ap (λ (o : Option ℤ). elim o [ None ↦ 1 | Some n ↦ unsigned_abs n ]) is

made_some : (before : Option Declared) (fresh : Object) (d : Declared) → Makes before fresh d →
    ((e : Declared) → before ≡ Some e → DeclaredSome e) → 1 ≤ cells_of fresh → DeclaredSome d
made_some before fresh d (makes_old old now i j is number type length) h own =
    subst (λ n. 1 ≤ n) (sym (cells_same now old length)) (h (declared.Object old i) is)
made_some before fresh d (makes_fresh j) h own = own

made_below : (before : Option Declared) (fresh : Object) (d : Declared) (objects : ℕ) →
    Makes before fresh d → ((e : Declared) → before ≡ Some e → DeclaredBelow objects e) →
    fresh.number ≡ objects → DeclaredBelow (objects + 1) d
made_below before fresh d objects (makes_old old now i j is number type length) h own =
    omega (arith, number, h (declared.Object old i) is)
made_below before fresh d objects (makes_fresh j) h own = omega (arith, own)

no_number : (d : Declared) (n : ℕ) → DeclaredBelow n d → HasNumber d n → ⊥
no_number (declared.Object object i) n below is = omega (arith, below, is)
no_number (declared.Function r ps d) n below is = is
no_number (declared.Enumerator value) n below is = is
no_number declared.Tag n below is = is

-- a name that shares the number of what is made shares it with what was declared before
shares : (before : Option Declared) (fresh : Object) (d e : Declared) (objects n : ℕ) →
    Makes before fresh d → fresh.number ≡ objects → DeclaredBelow objects e → HasNumber d n →
    HasNumber e n → (old : Declared) × (before ≡ Some old) × HasNumber old n
shares before fresh d e objects n (makes_old old now i j is number type length) own below x y =
    (declared.Object old i, is, sym number ∙ x)
shares before fresh d e objects n (makes_fresh j) own below x y =
    absurd (no_number e objects below (subst (HasNumber e) (sym x ∙ own) y))

one_by : (names : List Entry) (objects : ℕ) (entry : Entry) (fresh : Object) (a b : Bool)
    (name other : List ℕ) (d e : Declared) → FileScope names objects →
    Makes (declared_as names entry.name) fresh entry.declared → fresh.number ≡ objects →
    bytes_eq entry.name name ≡ a → bytes_eq entry.name other ≡ b →
    declared_as (names ++ entry ∷ []) name ≡ Some d →
    declared_as (names ++ entry ∷ []) other ≡ Some e → (n : ℕ) → HasNumber d n → HasNumber e n →
    name ≡ other
one_by names objects entry fresh true true name other d e f m own p q x y n u w =
    sym ((bytes_decides entry.name name).0 p) ∙ (bytes_decides entry.name other).0 q
one_by names objects entry fresh false false name other d e f m own p q x y n u w =
    f.one name other d e (sym (push_other names entry name p) ∙ x)
    (sym (push_other names entry other q) ∙ y) n u w
one_by names objects entry fresh true false name other d e f m own p q x y n u w =
    let made : entry.declared ≡ d =
    same_Some entry.declared d (sym (push_named names entry name p) ∙ x) in
    let there : declared_as names other ≡ Some e = sym (push_other names entry other q) ∙ y in
    let s = shares (declared_as names entry.name) fresh entry.declared e objects n m own
    (f.below.at other e there) (subst (λ (z : Declared). HasNumber z n) (sym made) u) w in
    sym ((bytes_decides entry.name name).0 p)
    ∙ f.one entry.name other s.0 e s.1 there n s.2 w
one_by names objects entry fresh false true name other d e f m own p q x y n u w =
    let made : entry.declared ≡ e =
    same_Some entry.declared e (sym (push_named names entry other q) ∙ y) in
    let there : declared_as names name ≡ Some d = sym (push_other names entry name p) ∙ x in
    let s = shares (declared_as names entry.name) fresh entry.declared d objects n m own
    (f.below.at name d there) (subst (λ (z : Declared). HasNumber z n) (sym made) w) u in
    f.one name entry.name d s.0 there s.1 n u s.2 ∙ (bytes_decides entry.name other).0 q

object_scope : (names : List Entry) (objects : ℕ) (entry : Entry) (fresh : Object) →
    FileScope names objects → Makes (declared_as names entry.name) fresh entry.declared →
    fresh.number ≡ objects → 1 ≤ cells_of fresh → FileScope (names ++ entry ∷ []) (objects + 1)
object_scope names objects entry fresh f m own some = record {
  some = pushed_by (λ name d. DeclaredSome d) names entry f.some
      (λ name is. made_some (declared_as names entry.name) fresh entry.declared m
      (λ e at. f.some entry.name e at) some);
  below = below_push (objects + 1) names entry
      (below_higher objects (objects + 1) names (omega arith) f.below)
      (made_below (declared_as names entry.name) fresh entry.declared objects m
      (λ e at. f.below.at entry.name e at) own);
  one = λ name other d e x y n u w.
      one_by names objects entry fresh (bytes_eq entry.name name) (bytes_eq entry.name other) name
      other d e f m own refl refl x y n u w;
}

pub global_scope : (text : Text) (before : Before) (kind : Kind) (is_const : Bool)
    (declarator : Declarator) → whole_length declarator.array ≡ true →
    NoFaults (global_faults text before kind is_const declarator) →
    FileScope before.names before.objects →
    FileScope (global_behind text kind is_const declarator before).names (before.objects + 1)
global_scope text before kind is_const declarator whole none f =
    let a = broken rule.N2 (redeclared_object
    (global_of text before kind is_const declarator) declarator before) in
    let object = object_faults text before.names kind declarator in
    let b = broken rule.N5 (void_object kind declarator) in
    let c = broken rule.N12 (length_faults text before.names declarator) in
    let u = uses_faults (length_uses text before.names declarator) in
    let v = flat_map (start_faults text (global_behind text kind is_const declarator before).names)
    (items_of declarator.initializer) in
    let own = none_right a object (none_left (a ++ object) v none) in
    let e = enough text before.names declarator whole (none_right (b ++ c) u own)
    (none_right b c (none_left (b ++ c) u own)) in
    object_scope before.names before.objects (global_entry text before kind is_const declarator)
    (global_of text before kind is_const declarator) f
    (makes (declared_as before.names declarator.name.bytes)
    (global_of text before kind is_const declarator) (is_some declarator.initializer)) refl e.0

-- a function has no number
function_number : (d : Declared) (r : Kind) (ps : Option (List ParameterType)) (b : Bool) →
    d ≡ declared.Function r ps b → (n : ℕ) → HasNumber d n → ⊥
function_number d r ps b is n h = subst (λ (z : Declared). HasNumber z n) is h

function_declared : (text : Text) (before : Before) (defines : Bool)
    (specifiers : Specifiers) (declarator : FunctionDeclarator) →
    NoFaults (head_faults text before defines specifiers declarator) →
    (r : Kind) × (ps : Option (List ParameterType)) × (d : Bool)
    × ((function_entry text defines specifiers declarator before).declared ≡ declared.Function r ps
    d)
function_declared text before defines specifiers declarator none =
    let r = merged_result (declared_as before.names declarator.name.bytes) (kind_of text specifiers)
    (parameter_types text defines declarator.parameters) defines
    (redeclared_free text before defines specifiers declarator none) in
    (kind_of text specifiers, r.0, r.1, r.2)

-- what holds of no function, enumerator and tag holds behind the name of one more
plain_one : (names : List Entry) (entry : Entry) (objects : ℕ) →
    ((n : ℕ) → HasNumber entry.declared n → ⊥) →
    FileScope names objects → (x y : Bool) (name other : List ℕ) (d e : Declared) →
    bytes_eq entry.name name ≡ x → bytes_eq entry.name other ≡ y →
    declared_as (names ++ entry ∷ []) name ≡ Some d →
    declared_as (names ++ entry ∷ []) other ≡ Some e → (n : ℕ) → HasNumber d n → HasNumber e n →
    name ≡ other
plain_one names entry objects none f true y name other d e p q at to n u w =
    let made : entry.declared ≡ d =
    same_Some entry.declared d (sym (push_named names entry name p) ∙ at) in
    absurd (none n (subst (λ (z : Declared). HasNumber z n) (sym made) u))
plain_one names entry objects none f false true name other d e p q at to n u w =
    let made : entry.declared ≡ e =
    same_Some entry.declared e (sym (push_named names entry other q) ∙ to) in
    absurd (none n (subst (λ (z : Declared). HasNumber z n) (sym made) w))
plain_one names entry objects none f false false name other d e p q at to n u w =
    f.one name other d e (sym (push_other names entry name p) ∙ at)
    (sym (push_other names entry other q) ∙ to) n u w

plain_scope : (names : List Entry) (entry : Entry) (objects : ℕ) →
    ((n : ℕ) → HasNumber entry.declared n → ⊥) → DeclaredSome entry.declared →
    DeclaredBelow objects entry.declared → FileScope names objects →
    FileScope (names ++ entry ∷ []) objects
plain_scope names entry objects none some below f = record {
  some = pushed_by (λ name d. DeclaredSome d) names entry f.some (λ name is. some);
  below = below_push objects names entry f.below below;
  one = λ name other d e x y n u w.
      plain_one names entry objects none f (bytes_eq entry.name name) (bytes_eq entry.name other)
      name other d e refl refl x y n u w;
}

pub enumeration_scope : (text : Text) (specifiers : Specifiers) (before : Before) →
    FileScope before.names before.objects →
    FileScope (enumeration_behind text specifiers before).names before.objects
enumeration_scope text specifiers before f =
    enumeration_grows text (λ names. FileScope names before.objects)
    (λ names name n range g. plain_scope names (enumerator_entry name n) before.objects
    (λ m h. h) range tt g)
    (λ names name g. plain_scope names (tag_entry name) before.objects (λ m h. h) tt tt g)
    specifiers.enumeration (around_item before) f

pub function_scope : (text : Text) (before : Before) (defines : Bool)
    (specifiers : Specifiers) (declarator : FunctionDeclarator) →
    NoFaults (head_faults text before defines specifiers declarator) →
    FileScope before.names before.objects →
    FileScope (function_behind text defines specifiers declarator before).names before.objects
function_scope text before defines specifiers declarator none f =
    let entry = function_entry text defines specifiers declarator before in
    let r = function_declared text before defines specifiers declarator none in
    plain_scope before.names entry before.objects
    (λ n h. function_number entry.declared r.0 r.1 r.2 r.3 n h) (subst DeclaredSome (sym r.3) tt)
    (subst (DeclaredBelow before.objects) (sym r.3) tt) f

-- where the objects of file scope begin: as behind the objects of file scope, so far
pub record Stay (first : ℕ → Option ℕ) (names : List Entry) (objects : ℕ)
    (starts : ℕ → Option ℕ) : Type 0 where
  pub same : (name : List ℕ) (d : Declared) → declared_as names name ≡ Some d → (n : ℕ) →
      HasNumber d n → starts n ≡ first n
  pub above : (n : ℕ) → objects ≤ n → starts n ≡ first n

made_same : (before : Option Declared) (fresh : Object) (d : Declared) (objects : ℕ)
    (first starts : ℕ → Option ℕ) → Makes before fresh d → fresh.number ≡ objects →
    ((e : Declared) → before ≡ Some e → (n : ℕ) → HasNumber e n → starts n ≡ first n) →
    ((n : ℕ) → objects ≤ n → starts n ≡ first n) → (n : ℕ) → HasNumber d n → starts n ≡ first n
made_same before fresh d objects first starts (makes_old old now i j is number type length) own
    old_is
    above n h = old_is (declared.Object old i) is n (sym number ∙ h)
made_same before fresh d objects first starts (makes_fresh j) own old_is above n h =
    above n (omega (arith, own, h))

pub global_stays : (text : Text) (before : Before) (kind : Kind) (is_const : Bool)
    (declarator : Declarator) (first starts : ℕ → Option ℕ) →
    Stay first before.names before.objects starts →
    Stay first (global_behind text kind is_const declarator before).names (before.objects + 1)
    starts
global_stays text before kind is_const declarator first starts h =
    let own = declarator.name.bytes in
    let fresh = global_of text before kind is_const declarator in
    let entry = global_entry text before kind is_const declarator in
    record {
      same = pushed_by (λ name d. (n : ℕ) → HasNumber d n → starts n ≡ first n) before.names entry
          h.same
          (λ name is n u. made_same (declared_as before.names own) fresh entry.declared
          before.objects first starts
          (makes (declared_as before.names own) fresh (is_some declarator.initializer)) refl
          (λ e at m w. h.same own e at m w) h.above n u);
      above = λ n le. h.above n (omega (arith, le));
    }

plain_stays : (first : ℕ → Option ℕ) (names : List Entry) (entry : Entry) (objects : ℕ)
    (starts : ℕ → Option ℕ) → ((n : ℕ) → HasNumber entry.declared n → ⊥) →
    Stay first names objects starts → Stay first (names ++ entry ∷ []) objects starts
plain_stays first names entry objects starts none h = record {
  same = pushed_by (λ name d. (n : ℕ) → HasNumber d n → starts n ≡ first n) names entry h.same
      (λ name is n u. absurd (none n u));
  above = h.above;
}

pub enumeration_stays : (text : Text) (specifiers : Specifiers) (before : Before)
    (first starts : ℕ → Option ℕ) → Stay first before.names before.objects starts →
    Stay first (enumeration_behind text specifiers before).names before.objects starts
enumeration_stays text specifiers before first starts h =
    enumeration_grows text (λ names. Stay first names before.objects starts)
    (λ names name n range g. plain_stays first names (enumerator_entry name n) before.objects
    starts (λ m u. u) g)
    (λ names name g. plain_stays first names (tag_entry name) before.objects starts (λ m u. u) g)
    specifiers.enumeration (around_item before) h

pub function_stays : (text : Text) (before : Before) (defines : Bool)
    (specifiers : Specifiers) (declarator : FunctionDeclarator) (first starts : ℕ → Option ℕ) →
    NoFaults (head_faults text before defines specifiers declarator) →
    Stay first before.names before.objects starts →
    Stay first (function_behind text defines specifiers declarator before).names before.objects
    starts
function_stays text before defines specifiers declarator first starts none h =
    let entry = function_entry text defines specifiers declarator before in
    let r = function_declared text before defines specifiers declarator none in
    plain_stays first before.names entry before.objects starts
    (λ n u. function_number entry.declared r.0 r.1 r.2 r.3 n u) h
