-- The bodies that the names of file scope stand for, and the whole of file scope.
use Rattle.std.proofs.Common.{◌≡◌, ℕ, zero, suc, ◌+◌, Bool, true, false, List, [], ◌∷◌, ◌++◌}
use Rattle.std.proofs.Common.{Option, None, Some, refl, ap, sym, ◌∙◌, subst, arith}
use Rattle.std.proofs.Common.{slice_get}
use Rattle.std.specs.Prelude.{option_map}
use Rattle.std.specs.List.{AllByRecursion, flat_map, filter_map}
use Rattle.std.specs.Str.{bytes_eq}
use Rattle.std.specs.Cmp.Lexicographic.{bytes_decides}
use Rattle.std.proofs.lemmas.Option.{same_Some}
use Rattle.cpa_ints.specs.declared.integers.IntType.{IntType}
use Rattle.c_grammar_tree.specs.declared.item.Parameter.{Parameter}
use Rattle.c_grammar_tree.specs.declared.item.Body.TheVariants as body
use Rattle.c_grammar_tree.specs.declared.item.Item.{Item}
use Rattle.c_grammar_tree.specs.declared.item.Item.TheVariants as item
use Rattle.c_types_rules.specs.declared.meaning.Kind.{Kind}
use Rattle.c_types_rules.specs.declared.meaning.Object.{Object}
use Rattle.c_types_rules.specs.declared.meaning.ParameterType.{ParameterType}
use Rattle.c_types_rules.specs.declared.meaning.Declared.{Declared}
use Rattle.c_types_rules.specs.declared.meaning.Declared.TheVariants as declared
use Rattle.c_types_rules.specs.declared.meaning.Entry.{Entry}
use Rattle.c_types_rules.specs.declared.typed.TypedFunction.{TypedFunction}
use Rattle.c_types_rules.specs.Names.{Text, declared_as, place_of}
use Rattle.c_types_rules.specs.Tables.{cells_of}
use Rattle.c_types_rules.specs.Declarations.{kind_of}
use Rattle.c_types_rules.specs.StatementRules.{site_faults, jump_faults}
use Rattle.c_types_rules.specs.TypedStatements.{typed_function, parameter_objects}
use Rattle.c_types_rules.specs.Items.{Before, listed, body_name, head_faults, body_sites}
use Rattle.c_types_rules.specs.Items.{item_behind, item_faults, items_faults}
use Rattle.c_types_rules.specs.Sound.{items_behind, functions_of}
use Rattle.c_core_rules.specs.declared.tree.Location.{Location}
use Rattle.c_core_rules.specs.Values.{cell_at}
use Rattle.c_core_rules.specs.Expressions.{Frame, Frames, frame_at, cells_from, behind_result}
use Rattle.c_core_rules.specs.Programs.{frames_of}
use Rattle.c_core_laws.specs.Starts.{AreScalars}
use Rattle.c_core_laws.specs.lemmas.Faults.{NoFaults, none_left, none_right}
use Rattle.c_core_sound.proofs.TypedValues.{PlaceFits, cell_fits}
use Rattle.c_core_sound.proofs.FileNames.{Lasts, Alike, IsFunction, declares_function}
use Rattle.c_core_sound.proofs.RunText.{items_last}

-- a function is one still among later names

function_now : (result r : Kind) (name : List ℕ) (later : List Entry) (now : Declared) →
    declared_as later name ≡ Some now → (ps : Option (List ParameterType)) (d : Bool) →
    Alike (declared.Function result ps d) now → IsFunction result name later
function_now result r name later (declared.Object object i) is ps d alike = absurd alike
function_now result r name later (declared.Enumerator n) is ps d alike = absurd alike
function_now result r name later declared.Tag is ps d alike = absurd alike
function_now result r name later (declared.Function s qs e) is ps d alike = record {
  parameters = qs;
  defined = e;
  is = is ∙ ap (λ (k : Kind). Some (declared.Function k qs e)) (sym alike);
}

later_function : (result : Kind) (name : List ℕ) (names later : List Entry) →
    IsFunction result name names → Lasts names later → IsFunction result name later
later_function result name names later f l =
    let x = l.at name (declared.Function result f.parameters f.defined) f.is in
    function_now result result name later x.now x.is f.parameters f.defined x.alike

-- the parameters of a function are scalars

parameters_scalar : (text : Text) (number : ℕ) (parameters : List Parameter) →
    AreScalars (parameter_objects text number parameters)
parameters_scalar text number [] = tt
parameters_scalar text number (parameter ∷ parameters) =
    (refl, parameters_scalar text (number + 1) parameters)

-- the function with the body of this number, as its name is declared
pub record FoundBody (functions : List TypedFunction) (names : List Entry) (name : List ℕ) (k : ℕ)
    : Type 0 where
  pub function : TypedFunction
  pub at : slice_get functions k ≡ Some function
  pub named : IsFunction function.result name names
  pub scalars : AreScalars function.parameters

one_further : (m : ℕ) → suc m ≡ m + 1
one_further m = omega arith

found_later : (function : TypedFunction) (functions : List TypedFunction) (names : List Entry)
    (name : List ℕ) (k : ℕ) → (o : Option ℕ) → option_map (λ n. n + 1) o ≡ Some k →
    ((m : ℕ) → o ≡ Some m → FoundBody functions names name m) →
    FoundBody (function ∷ functions) names name k
found_later function functions names name k None is more = absurd (cc)
found_later function functions names name k (Some m) is more =
    let f = more m refl in
    let further : suc m ≡ k = one_further m ∙ same_Some (m + 1) k is in
    subst (FoundBody (function ∷ functions) names name) further (record {
      function = f.function;
      at = f.at;
      named = f.named;
      scalars = f.scalars;
    })

found_by : (b : Bool) (own name : List ℕ) (function : TypedFunction)
    (functions : List TypedFunction) (names : List Entry) (k : ℕ) (o : Option ℕ) →
    bytes_eq name own ≡ b → IsFunction function.result own names →
    AreScalars function.parameters →
    elim b as (λ x. Option ℕ) [ true ↦ Some 0 | false ↦ option_map (λ n. n + 1) o ] ≡ Some k →
    ((m : ℕ) → o ≡ Some m → FoundBody functions names name m) →
    FoundBody (function ∷ functions) names name k
found_by true own name function functions names k o same named scalars is more =
    let one : name ≡ own = (bytes_decides name own).0 same in
    subst (FoundBody (function ∷ functions) names name) (same_Some 0 k is) (record {
      function = function;
      at = refl;
      named = subst (λ n. IsFunction function.result n names) (sym one) named;
      scalars = scalars;
    })
found_by false own name function functions names k o other named scalars is more =
    found_later function functions names name k o is more

pub found_body : (text : Text) (items : List Item) (before : Before) →
    NoFaults (items_faults text items before) → (name : List ℕ) (k : ℕ) →
    place_of (bytes_eq name) (filter_map body_name items) ≡ Some k →
    FoundBody (functions_of text items before) (items_behind text items before).names name k
found_body text [] before none name k is = absurd (cc)
found_body text (item.Empty place ∷ more) before none name k is =
    found_body text more before none name k is
found_body text (item.Typedef specifiers names place ∷ more) before none name k is =
    let one = item.Typedef specifiers names place in
    let next = item_behind text one before in
    found_body text more next
    (none_right (item_faults text one before) (items_faults text more next) none) name k is
found_body text (item.Objects declaration ∷ more) before none name k is =
    let next = item_behind text (item.Objects declaration) before in
    found_body text more next
    (none_right (item_faults text (item.Objects declaration) before) (items_faults text more next)
    none) name k is
found_body text (item.Prototype specifiers declarator ∷ more) before none name k is =
    let one = item.Prototype specifiers declarator in
    let next = item_behind text one before in
    found_body text more next
    (none_right (item_faults text one before) (items_faults text more next) none) name k is
found_body text (item.Function specifiers declarator body.Skipped ∷ more) before none name k is =
    let one = item.Function specifiers declarator body.Skipped in
    let next = item_behind text one before in
    found_body text more next
    (none_right (item_faults text one before) (items_faults text more next) none) name k is
found_body text (item.Function specifiers declarator (body.Block items place end) ∷ more) before
    none
    name k is =
    let one = item.Function specifiers declarator (body.Block items place end) in
    let next = item_behind text one before in
    let own = item_faults text one before in
    let rest = items_faults text more next in
    let head = head_faults text before true specifiers declarator in
    let sites = body_sites text before specifiers declarator (body.Block items place end) in
    let none_head = none_left head (flat_map (site_faults text) sites ++ jump_faults sites)
    (none_left own rest none) in
    let function = typed_function text before specifiers declarator items place end in
    found_by (bytes_eq name declarator.name.bytes) declarator.name.bytes name function
    (functions_of text more next) (items_behind text more next).names k
    (place_of (bytes_eq name) (filter_map body_name more)) refl
    (later_function (kind_of text specifiers) declarator.name.bytes next.names
    (items_behind text more next).names
    (declares_function text before true specifiers declarator none_head)
    (items_last text more next (none_right own rest none)))
    (parameters_scalar text before.objects (listed declarator.parameters)) is
    (λ m at. found_body text more next (none_right own rest none) name m at)

-- the places of parameters are single cells

abbrev pub Single : Location → Type 0
Single place = place ≡ cell_at place.ty place.base

cells_single : (n : ℕ) (objects : List Object) → AllByRecursion Single (cells_from n objects)
cells_single n [] = tt
cells_single n (object ∷ objects) = (refl, cells_single (n + cells_of object) objects)

none_single : (firsts : List ℕ) →
    AllByRecursion (λ (frame : Frame). AllByRecursion Single frame.parameters)
    (frames_of firsts [])
none_single [] = tt
none_single (first ∷ firsts) = tt

pub frames_single : (firsts : List ℕ) (functions : List TypedFunction) →
    AllByRecursion (λ (frame : Frame). AllByRecursion Single frame.parameters)
    (frames_of firsts functions)
frames_single firsts [] = none_single firsts
frames_single [] (function ∷ functions) = (
  cells_single (behind_result function.result 0) function.parameters,
  frames_single [] functions,
)
frames_single (first ∷ firsts) (function ∷ functions) = (
  cells_single (behind_result function.result first) function.parameters,
  frames_single firsts functions,
)

pub single_at : (frames : Frames) (k : ℕ) →
    AllByRecursion (λ (frame : Frame). AllByRecursion Single frame.parameters) frames →
    AllByRecursion Single (frame_at frames k).parameters
single_at [] k all = tt
single_at (frame ∷ frames) zero all = all.0
single_at (frame ∷ frames) (suc k) all = single_at frames k all.1

pub places_fit : (cells : List IntType) (places : List Location) → AllByRecursion Single places →
    AllByRecursion (λ (place : Location). slice_get cells place.base ≡ Some place.ty) places →
    AllByRecursion (PlaceFits cells) places
places_fit cells [] single there = tt
places_fit cells (place ∷ places) single there = (
  subst (PlaceFits cells) (sym single.0) (cell_fits cells place.ty place.base there.0),
  places_fit cells places single.1 there.1,
)
