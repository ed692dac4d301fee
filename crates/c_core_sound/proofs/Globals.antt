-- The objects of file scope begin where their cells are taken.
use Rattle.std.proofs.Common.{◌≡◌, ℕ, ◌≤◌, ◌==◌, Bool, true, false, not, ◌&&◌, ◌||◌, List, [], ◌∷◌}
use Rattle.std.proofs.Common.{◌++◌, Option, None, Some, refl, ap, sym, ◌∙◌, subst, inl, inr, map}
use Rattle.std.proofs.Common.{length, if◌then◌else◌}
use Rattle.std.specs.Prelude.{◌⊎◌}
use Rattle.std.specs.List.{flat_map, list_any}
use Rattle.std.specs.Str.{bytes_eq}
use Rattle.std.specs.Cmp.Lexicographic.{bytes_decides}
use Rattle.std.proofs.lemmas.Bool.{eqb-true, eq-eqb}
use Rattle.std.proofs.lemmas.Option.{same_Some}
use Rattle.c_types_rules.specs.declared.meaning.Object.{Object}
use Rattle.c_types_rules.specs.declared.meaning.Declared.{Declared}
use Rattle.c_types_rules.specs.declared.meaning.Declared.TheVariants as declared
use Rattle.c_types_rules.specs.declared.meaning.Entry.{Entry}
use Rattle.c_types_rules.specs.declared.typed.Global.{Global}
use Rattle.c_types_rules.specs.Names.{declared_as, or_else}
use Rattle.c_types_rules.specs.Tables.{cells_of}
use Rattle.c_types_rules.specs.Sound.{Start, object_names, is_object_entry, object_in, start_values}
use Rattle.c_types_rules.specs.Sound.{global_named, globals_of}
use Rattle.c_core_rules.specs.Cells.{Taken, nothing_taken}
use Rattle.c_core_rules.specs.Cells as core
use Rattle.c_core_rules.specs.Statements.{receiving_globals}
use Rattle.c_core_sound.proofs.Fitting.{Ground, Extends, Within, within_before, extends_none}
use Rattle.c_core_sound.proofs.Fitting.{extends_both}
use Rattle.c_core_sound.proofs.FittingRows.{Begins}
use Rattle.c_core_sound.proofs.ReadParts.{no_two}
use Rattle.c_core_sound.proofs.RunDeclarations.{taken_extends, taken_begins}
use Rattle.c_core_sound.proofs.FileNames.{FileScope}
use Rattle.c_core_laws.specs.lemmas.Entries.{same_object}

globals_extend : (globals : List Global) (taken : Taken) →
    Extends taken (receiving_globals globals taken).taken
globals_extend [] taken = extends_none taken
globals_extend (global ∷ globals) taken =
    let next = (core.taking global.object global.starts taken).taken in
    extends_both taken next (receiving_globals globals next).taken
    (taken_extends global.object global.starts taken) (globals_extend globals next)

-- one of these is this object
abbrev Has : List Global → Object → Type 0
Has [] object = ⊥
Has (global ∷ globals) object = (global.object ≡ object) ⊎ Has globals object

-- no other one has its number
abbrev Only : List Global → Object → Type 0
Only [] object = Unit {0}
Only (global ∷ globals) object =
    (global.object.number ≡ object.number → global.object ≡ object) × Only globals object

apart_self : (n m : ℕ) → n ≡ m → (n == m) ≡ false → ⊥
apart_self n m is apart = no_two (n == m) (eq-eqb n m is) apart

same_begins : (G : Ground) (a b : Object) (starts : ℕ → Option ℕ) → a ≡ b →
    Begins G.cells a starts → Begins G.cells b starts
same_begins G a b starts is h = subst (λ (o : Object). Begins G.cells o starts) is h

kept_begins : (G : Ground) (object other : Object) (cell : ℕ) (starts : ℕ → Option ℕ) →
    (other.number == object.number) ≡ false → Begins G.cells object starts →
    Begins G.cells object (core.begun other.number cell starts)
kept_begins G object other cell starts apart h = record {
  some = h.some;
  base = h.base;
  is = ap (λ b. if b then Some cell else starts object.number) apart ∙ h.is;
  there = h.there;
}

still_has : (G : Ground) (object : Object) (global : Global) (globals : List Global)
    (taken : Taken) → (global.object.number == object.number) ≡ false →
    Has (global ∷ globals) object ⊎ Begins G.cells object taken.starts →
    Has globals object
    ⊎ Begins G.cells object (core.taking global.object global.starts taken).taken.starts
still_has G object global globals taken apart (inl (inl is)) =
    absurd (apart_self global.object.number object.number (ap (λ (o : Object). o.number) is) apart)
still_has G object global globals taken apart (inl (inr more)) = inl more
still_has G object global globals taken apart (inr begins) =
    inr (kept_begins G object global.object (length taken.cells) taken.starts apart begins)

-- where one more object has taken its cells
next_by : (G : Ground) (object : Object) (global : Global) (globals : List Global)
    (taken : Taken) → 1 ≤ cells_of object → (b : Bool) →
    (global.object.number == object.number) ≡ b →
    (global.object.number ≡ object.number → global.object ≡ object) →
    Has (global ∷ globals) object ⊎ Begins G.cells object taken.starts →
    Within G.cells (core.taking global.object global.starts taken).taken →
    Has globals object
    ⊎ Begins G.cells object (core.taking global.object global.starts taken).taken.starts
next_by G object global globals taken some true is only has w =
    let same : global.object ≡ object =
    only (eqb-true global.object.number object.number is) in
    inr (same_begins G global.object object
    (core.taking global.object global.starts taken).taken.starts same
    (taken_begins G global.object global.starts taken
    (subst (λ (o : Object). 1 ≤ cells_of o) (sym same) some) w))
next_by G object global globals taken some false is only has w =
    still_has G object global globals taken is has

begins_here : (G : Ground) (object : Object) (globals : List Global) (taken : Taken) →
    1 ≤ cells_of object → Only globals object →
    Has globals object ⊎ Begins G.cells object taken.starts →
    Within G.cells (receiving_globals globals taken).taken →
    Begins G.cells object (receiving_globals globals taken).taken.starts
begins_here G object [] taken some only (inl has) w = absurd has
begins_here G object [] taken some only (inr begins) w = begins
begins_here G object (global ∷ globals) taken some only has w =
    let next = (core.taking global.object global.starts taken).taken in
    begins_here G object globals next some only.1
    (next_by G object global globals taken some (global.object.number == object.number) refl only.0
    has (within_before G.cells next (receiving_globals globals next).taken
    (globals_extend globals next) w)) w

has_append : (a b : List Global) (object : Object) → Has a object ⊎ Has b object →
    Has (a ++ b) object
has_append [] b object (inl has) = absurd has
has_append [] b object (inr has) = has
has_append (g ∷ a) b object (inl (inl is)) = inl is
has_append (g ∷ a) b object (inl (inr more)) = inr (has_append a b object (inl more))
has_append (g ∷ a) b object (inr has) = inr (has_append a b object (inr has))

only_append : (a b : List Global) (object : Object) → Only a object → Only b object →
    Only (a ++ b) object
only_append [] b object h k = k
only_append (g ∷ a) b object h k = (h.0, only_append a b object h.1 k)

-- each of the globals of these names is what its name stands for
named_only : (names : List Entry) (objects : ℕ) (starts : List Start) (f : FileScope names objects)
    (name : List ℕ) (object : Object) (i : Bool) →
    declared_as names name ≡ Some (declared.Object object i) → (other : List ℕ)
    (o : Option Declared) → declared_as names other ≡ o →
    Only (map (λ (g : Object). record { object = g; starts = start_values starts other })
    (object_in o)) object
named_only names objects starts f name object i is other None at = tt
named_only names objects starts f name object i is other (Some (declared.Function r ps d)) at = tt
named_only names objects starts f name object i is other (Some (declared.Enumerator n)) at = tt
named_only names objects starts f name object i is other (Some declared.Tag) at = tt
named_only names objects starts f name object i is other (Some (declared.Object g j)) at = (
  λ number. same_object g object j i
      (sym at ∙ ap (declared_as names)
      (f.one other name (declared.Object g j) (declared.Object object i) at is object.number number
      refl) ∙ is),
  tt,
)

all_only : (names : List Entry) (objects : ℕ) (starts : List Start) (f : FileScope names objects)
    (name : List ℕ) (object : Object) (i : Bool) →
    declared_as names name ≡ Some (declared.Object object i) → (all : List (List ℕ)) →
    Only (flat_map (global_named names starts) all) object
all_only names objects starts f name object i is [] = tt
all_only names objects starts f name object i is (other ∷ all) =
    only_append (global_named names starts other) (flat_map (global_named names starts) all) object
    (named_only names objects starts f name object i is other (declared_as names other) refl)
    (all_only names objects starts f name object i is all)

named_has : (names : List Entry) (starts : List Start) (name : List ℕ) (object : Object) (i : Bool)
    (o : Option Declared) → o ≡ Some (declared.Object object i) →
    Has (map (λ (g : Object). record { object = g; starts = start_values starts name })
    (object_in o)) object
named_has names starts name object i None is = absurd (cc)
named_has names starts name object i (Some (declared.Function r ps d)) is = absurd (cc)
named_has names starts name object i (Some (declared.Enumerator n)) is = absurd (cc)
named_has names starts name object i (Some declared.Tag) is = absurd (cc)
named_has names starts name object i (Some (declared.Object g j)) is =
    inl (same_object g object j i is)

-- a name is among these
abbrev Listed : List (List ℕ) → List ℕ → Type 0
Listed [] name = ⊥
Listed (other ∷ all) name = (other ≡ name) ⊎ Listed all name

listed_has : (names : List Entry) (starts : List Start) (name : List ℕ) (object : Object)
    (i : Bool) → declared_as names name ≡ Some (declared.Object object i) →
    (all : List (List ℕ)) → Listed all name →
    Has (flat_map (global_named names starts) all) object
listed_has names starts name object i is [] listed = absurd listed
listed_has names starts name object i is (other ∷ all) (inl same) =
    has_append (global_named names starts other) (flat_map (global_named names starts) all) object
    (inl (named_has names starts other object i (declared_as names other)
    (ap (declared_as names) same ∙ is)))
listed_has names starts name object i is (other ∷ all) (inr more) =
    has_append (global_named names starts other) (flat_map (global_named names starts) all) object
    (inr (listed_has names starts name object i is all more))

-- the name of an object is listed, or seen already

own_or_seen : (b : Bool) (entry : Entry) (name : List ℕ) (seen : List (List ℕ))
    (entries : List Entry) → bytes_eq name entry.name ≡ b →
    (b || list_any (bytes_eq name) seen) ≡ true →
    Listed (entry.name ∷ object_names (entry.name ∷ seen) entries) name
    ⊎ (list_any (bytes_eq name) seen ≡ true)
own_or_seen true entry name seen entries is any =
    inl (inl (sym ((bytes_decides name entry.name).0 is)))
own_or_seen false entry name seen entries is any = inr any

seen_by : (b c : Bool) (entry : Entry) (name : List ℕ) (seen : List (List ℕ))
    (entries : List Entry) → is_object_entry entry ≡ b →
    list_any (bytes_eq entry.name) seen ≡ c →
    (Listed (object_names (entry.name ∷ seen) entries) name
    ⊎ (list_any (bytes_eq name) (entry.name ∷ seen) ≡ true)) →
    (Listed (object_names seen entries) name ⊎ (list_any (bytes_eq name) seen ≡ true)) →
    Listed (elim (b && not c) as (λ x. List (List ℕ)) [
      | true ↦ entry.name ∷ object_names (entry.name ∷ seen) entries
      | false ↦ object_names seen entries
    ]) name ⊎ (list_any (bytes_eq name) seen ≡ true)
seen_by true true entry name seen entries is at one two = two
seen_by false c entry name seen entries is at one two = two
seen_by true false entry name seen entries is at (inl listed) two = inl (inr listed)
seen_by true false entry name seen entries is at (inr any) two =
    own_or_seen (bytes_eq name entry.name) entry name seen entries refl any

-- an entry that declares the name itself
own_by : (b c : Bool) (entry : Entry) (name : List ℕ) (seen : List (List ℕ))
    (entries : List Entry) → b ≡ true → list_any (bytes_eq entry.name) seen ≡ c →
    entry.name ≡ name →
    Listed (elim (b && not c) as (λ x. List (List ℕ)) [
      | true ↦ entry.name ∷ object_names (entry.name ∷ seen) entries
      | false ↦ object_names seen entries
    ]) name ⊎ (list_any (bytes_eq name) seen ≡ true)
own_by true true entry name seen entries is at one =
    inr (ap (λ (n : List ℕ). list_any (bytes_eq n) seen) (sym one) ∙ at)
own_by true false entry name seen entries is at one = inl (inl one)
own_by false c entry name seen entries is at one = absurd (cc)

object_is : (entry : Entry) (object : Object) (i : Bool) →
    entry.declared ≡ declared.Object object i → is_object_entry entry ≡ true
object_is entry object i is =
    ap (λ (d : Declared). elim d as (λ x. Bool) [
      | declared.Object one initialized ↦ true
      | declared.Function result parameters defined ↦ false
      | declared.Enumerator value ↦ false
      | declared.Tag ↦ false
    ]) is

by_own_name : (b : Bool) (entry : Entry) (name : List ℕ) (object : Object) (i : Bool) →
    bytes_eq entry.name name ≡ b →
    elim b as (λ x. Option Declared) [ true ↦ Some entry.declared | false ↦ None ]
    ≡ Some (declared.Object object i) →
    (entry.name ≡ name) × (entry.declared ≡ declared.Object object i)
by_own_name true entry name object i named is = (
  (bytes_decides entry.name name).0 named,
  same_Some entry.declared (declared.Object object i)
      is,
)
by_own_name false entry name object i named is = absurd (cc)

listed_by : (rest : Option Declared) (entry : Entry) (entries : List Entry) (name : List ℕ)
    (object : Object) (i : Bool) (seen : List (List ℕ)) →
    (rest ≡ Some (declared.Object object i) → (all : List (List ℕ)) →
    Listed (object_names all entries) name ⊎ (list_any (bytes_eq name) all ≡ true)) →
    or_else rest (elim (bytes_eq entry.name name) as (λ x. Option Declared) [
      | true ↦ Some entry.declared
      | false ↦ None
    ]) ≡ Some (declared.Object object i) →
    Listed (object_names seen (entry ∷ entries)) name ⊎ (list_any (bytes_eq name) seen ≡ true)
listed_by None entry entries name object i seen more is =
    let own = by_own_name (bytes_eq entry.name name) entry name object i refl is in
    own_by (is_object_entry entry) (list_any (bytes_eq entry.name) seen) entry name seen entries
    (object_is entry object i own.1) refl own.0
listed_by (Some d) entry entries name object i seen more is =
    seen_by (is_object_entry entry) (list_any (bytes_eq entry.name) seen) entry name seen entries
    refl refl (more is (entry.name ∷ seen)) (more is seen)

listed_name : (entries : List Entry) (name : List ℕ) (object : Object) (i : Bool) →
    declared_as entries name ≡ Some (declared.Object object i) → (seen : List (List ℕ)) →
    Listed (object_names seen entries) name ⊎ (list_any (bytes_eq name) seen ≡ true)
listed_name [] name object i is seen = absurd (cc)
listed_name (entry ∷ entries) name object i is seen =
    listed_by (declared_as entries name) entry entries name object i seen
    (λ more all. listed_name entries name object i more all) is

first_listed : (all : List (List ℕ)) (name : List ℕ) →
    Listed all name ⊎ (list_any (bytes_eq name) [] ≡ true) → Listed all name
first_listed all name (inl listed) = listed
first_listed all name (inr none) = absurd (cc)

-- what a name of file scope stands for begins behind the objects of file scope
pub globals_begin : (G : Ground) (names : List Entry) (objects : ℕ) (starts : List Start) →
    FileScope names objects → (name : List ℕ) (object : Object) (i : Bool) →
    declared_as names name ≡ Some (declared.Object object i) →
    Within G.cells (receiving_globals (globals_of names starts) nothing_taken).taken →
    Begins G.cells object
    (receiving_globals (globals_of names starts) nothing_taken).taken.starts
globals_begin G names objects starts f name object i is w =
    let all = object_names [] names in
    begins_here G object (globals_of names starts) nothing_taken
    (f.some name (declared.Object object i) is)
    (all_only names objects starts f name object i is all)
    (inl (listed_has names starts name object i is all
    (first_listed all name (listed_name names name object i is [])))) w
