-- Every function of a text in which no rule is broken makes a well typed tree (`text_runs`).
use Rattle.std.proofs.Common.{◌≡◌, ℕ, ◌+◌, ◌<◌, ◌≤◌, Bool, true, false, List, [], ◌∷◌, ◌++◌, map}
use Rattle.std.proofs.Common.{Option, None, Some, refl, ap, sym, ◌∙◌, subst, arith, inl, inr, ℤ}
use Rattle.std.specs.Prelude.{◌⊎◌, unwrap_or, unsigned_abs}
use Rattle.std.specs.List.{AllByRecursion, flat_map}
use Rattle.cpa_ints.specs.declared.integers.IntType.{IntType}
use Rattle.cpa_expr.specs.Shape.{AreCells}
use Rattle.c_grammar_tree.specs.declared.declaration.Specifiers.{Specifiers}
use Rattle.c_grammar_tree.specs.declared.declaration.Declarator.{Declarator}
use Rattle.c_grammar_tree.specs.declared.statement.BlockItem.{BlockItem}
use Rattle.c_grammar_tree.specs.declared.item.FunctionDeclarator.{FunctionDeclarator}
use Rattle.c_grammar_tree.specs.declared.item.Body.TheVariants as body
use Rattle.c_grammar_tree.specs.declared.item.Item.{Item}
use Rattle.c_grammar_tree.specs.declared.item.Item.TheVariants as item
use Rattle.c_types_rules.specs.declared.meaning.Kind.{Kind}
use Rattle.c_types_rules.specs.declared.meaning.Kind.TheVariants.{Value}
use Rattle.c_types_rules.specs.declared.meaning.Object.{Object}
use Rattle.c_types_rules.specs.declared.meaning.ParameterType.{ParameterType}
use Rattle.c_types_rules.specs.declared.meaning.Meaning.{Meaning}
use Rattle.c_types_rules.specs.declared.meaning.Meaning.TheVariants as meaning
use Rattle.c_types_rules.specs.declared.meaning.Form.TheVariants.{Bare, Element, Plain}
use Rattle.c_types_rules.specs.declared.meaning.Declared.{Declared}
use Rattle.c_types_rules.specs.declared.meaning.Declared.TheVariants as declared
use Rattle.c_types_rules.specs.declared.meaning.Entry.{Entry}
use Rattle.c_types_rules.specs.declared.typed.TypedFunction.{TypedFunction}
use Rattle.c_types_rules.specs.Names.{Text, body_of, declared_as, function_of}
use Rattle.c_types_rules.specs.Tables.{cells_of}
use Rattle.c_types_rules.specs.Expressions.{Use, named, taken, given, paired, tagged}
use Rattle.c_types_rules.specs.Types.{object_type}
use Rattle.c_types_rules.specs.Declarations.{kind_of, has_const, items_of}
use Rattle.c_types_rules.specs.Statements.{Around, Site, Walk, in_order, receiving, walk_of}
use Rattle.c_types_rules.specs.StatementRules.{site_faults, act_uses, jump_faults}
use Rattle.c_types_rules.specs.TypedStatements.{grown, walk_in, typed_function}
use Rattle.c_types_rules.specs.Items.{Before, Call, listed, around_body, function_behind}
use Rattle.c_types_rules.specs.Items.{global_behind, globals_behind, globals_faults, global_faults}
use Rattle.c_types_rules.specs.Items.{head_faults, body_sites, body_faults, item_behind}
use Rattle.c_types_rules.specs.Items.{item_faults, items_faults, item_calls, items_calls}
use Rattle.c_types_rules.specs.Items.{site_calls, use_calls, called_body, enumeration_behind}
use Rattle.c_types_rules.specs.Items.{enumeration_faults, typedefs_faults}
use Rattle.c_types_rules.specs.Recursion.{Among, Calls}
use Rattle.c_types_rules.specs.Sound.{items_behind, functions_of}
use Rattle.cpa_model_trees.specs.declared.tree.CoreTree.{CoreTree}
use Rattle.c_core_rules.specs.Values.{cell_at}
use Rattle.cpa_model_trees.specs.Numbering.{Trees}
use Rattle.c_core_rules.specs.Cells.{Taken}
use Rattle.c_core_rules.specs.Cells as core
use Rattle.c_core_rules.specs.Expressions as rows
use Rattle.c_core_rules.specs.Statements as statement
use Rattle.c_core_laws.specs.lemmas.Faults.{NoFaults, among_left, among_right, none_left}
use Rattle.c_core_laws.specs.lemmas.Faults.{none_right}
use Rattle.c_core_sound.specs.Whole.{all_whole, whole_block_item, whole_declarator, whole_item}
use Rattle.c_core_sound.specs.Whole.{whole_length, is_whole}
use Rattle.c_core_sound.proofs.TypedValues.{PlaceFits}
use Rattle.c_core_sound.proofs.Fitting.{Ground, TreeFits, Extends, Within, extends_none}
use Rattle.c_core_sound.proofs.Fitting.{extends_both, within_before}
use Rattle.c_core_sound.proofs.FittingRows.{Begins, FunctionFits}
use Rattle.c_core_sound.proofs.ReadExpressions.{and_left, and_right}
use Rattle.c_core_sound.proofs.Running.{DeclaredBegins, DeclaredBelow, below_higher, Known, Runs}
use Rattle.c_core_sound.proofs.Sites.{SitesFit, sites_right, FunctionsFit, DeclaredFits}
use Rattle.c_core_sound.proofs.RunFunctions.{function_runs, function_rises, last_of}
use Rattle.c_core_sound.proofs.FileNames.{Alike, Lasting, Lasts, lasts_self, lasts_both}
use Rattle.c_core_sound.proofs.FileNames.{global_lasts, function_lasts, FileScope, global_scope}
use Rattle.c_core_sound.proofs.FileNames.{function_scope, Stay, global_stays, function_stays}
use Rattle.c_core_sound.proofs.FileNames.{HasNumber, DeclaredSome, enumeration_lasts}
use Rattle.c_core_sound.proofs.FileNames.{enumeration_scope, enumeration_stays}

-- the names of file scope, from item to item

globals_last : (text : Text) (kind : Kind) (is_const : Bool) (declarators : List Declarator)
    (before : Before) → NoFaults (globals_faults text kind is_const declarators before) →
    Lasts before.names (globals_behind text kind is_const declarators before).names
globals_last text kind is_const [] before none = lasts_self before.names
globals_last text kind is_const (declarator ∷ more) before none =
    let next = global_behind text kind is_const declarator before in
    let a = global_faults text before kind is_const declarator in
    let b = globals_faults text kind is_const more next in
    lasts_both before.names next.names (globals_behind text kind is_const more next).names
    (global_lasts text before kind is_const declarator (none_left a b none))
    (globals_last text kind is_const more next (none_right a b none))

pub item_lasts : (text : Text) (one : Item) (before : Before) →
    NoFaults (item_faults text one before) →
    Lasts before.names (item_behind text one before).names
item_lasts text (item.Empty place) before none = lasts_self before.names
item_lasts text (item.Typedef specifiers names place) before none =
    enumeration_lasts text specifiers before (none_left (enumeration_faults text specifiers before)
    (typedefs_faults (object_type (kind_of text specifiers)) names
    (enumeration_behind text specifiers before)) none)
item_lasts text (item.Objects declaration) before none =
    let front = declaration.specifiers in
    let mid = enumeration_behind text front before in
    let a = enumeration_faults text front before in
    let kind = kind_of text front in
    let is_const = has_const front in
    let b = globals_faults text kind is_const declaration.declarators mid in
    lasts_both before.names mid.names
    (globals_behind text kind is_const declaration.declarators mid).names
    (enumeration_lasts text front before (none_left a b none))
    (globals_last text kind is_const declaration.declarators mid (none_right a b none))
item_lasts text (item.Prototype specifiers declarator) before none =
    function_lasts text before false specifiers declarator none
item_lasts text (item.Function specifiers declarator body.Skipped) before none =
    function_lasts text before true specifiers declarator
    (none_left (head_faults text before true specifiers declarator)
    (body_faults text (body_sites text before specifiers declarator body.Skipped)) none)
item_lasts text (item.Function specifiers declarator (body.Block items place close)) before none =
    function_lasts text before true specifiers declarator
    (none_left (head_faults text before true specifiers declarator)
    (body_faults text (body_sites text before specifiers declarator (body.Block items place close)))
    none)

pub items_last : (text : Text) (items : List Item) (before : Before) →
    NoFaults (items_faults text items before) →
    Lasts before.names (items_behind text items before).names
items_last text [] before none = lasts_self before.names
items_last text (one ∷ more) before none =
    let next = item_behind text one before in
    let a = item_faults text one before in
    let b = items_faults text more next in
    lasts_both before.names next.names (items_behind text more next).names
    (item_lasts text one before (none_left a b none))
    (items_last text more next (none_right a b none))

pub globals_scope : (text : Text) (kind : Kind) (is_const : Bool) (declarators : List Declarator)
    (before : Before) → all_whole (map whole_declarator declarators) ≡ true →
    NoFaults (globals_faults text kind is_const declarators before) →
    FileScope before.names before.objects →
    FileScope (globals_behind text kind is_const declarators before).names
    (globals_behind text kind is_const declarators before).objects
globals_scope text kind is_const [] before whole none f = f
globals_scope text kind is_const (declarator ∷ more) before whole none f =
    let next = global_behind text kind is_const declarator before in
    let a = global_faults text before kind is_const declarator in
    let b = globals_faults text kind is_const more next in
    let own = whole_declarator declarator in
    let rest = all_whole (map whole_declarator more) in
    globals_scope text kind is_const more next (and_right own rest whole) (none_right a b none)
    (global_scope text before kind is_const declarator
    (and_left (whole_length declarator.array)
    (all_whole (map is_whole (items_of declarator.initializer))) (and_left own rest whole))
    (none_left a b none) f)

globals_stay : (text : Text) (kind : Kind) (is_const : Bool) (declarators : List Declarator)
    (before : Before) (first starts : ℕ → Option ℕ) →
    Stay first before.names before.objects starts →
    Stay first (globals_behind text kind is_const declarators before).names
    (globals_behind text kind is_const declarators before).objects starts
globals_stay text kind is_const [] before first starts h = h
globals_stay text kind is_const (declarator ∷ more) before first starts h =
    globals_stay text kind is_const more (global_behind text kind is_const declarator before) first
    starts
    (global_stays text before kind is_const declarator first starts h)

-- calls of a site come from the body in which it stands

by_body : (caller at : ℕ) (o : Option ℕ) (c : Call) →
    Among c (elim o as (λ x. List Call) [
      | None ↦ []
      | Some callee ↦ record { caller = caller; callee = callee; place = at } ∷ []
    ]) → c.caller ≡ caller
by_body caller at None c among = absurd among
by_body caller at (Some callee) c (inl is) = ap (λ (one : Call). one.caller) is
by_body caller at (Some callee) c (inr none) = absurd none

called_caller : (caller at : ℕ) (found : Option Meaning) (c : Call) →
    Among c (called_body caller at found) → c.caller ≡ caller
called_caller caller at None c among = absurd among
called_caller caller at (Some (meaning.Object object)) c among = absurd among
called_caller caller at (Some (meaning.Known function)) c among = absurd among
called_caller caller at (Some (meaning.Enumerator value)) c among = absurd among
called_caller caller at (Some (meaning.Function function)) c among =
    by_body caller at function.body c among

use_caller : (caller : ℕ) (one : Use) (c : Call) → Among c (use_calls caller one) →
    c.caller ≡ caller
use_caller caller (named at found) c among = absurd among
use_caller caller (taken role part) c among = absurd among
use_caller caller (given (Bare at found) handed) c among = called_caller caller at found c among
use_caller caller (given (Element found) handed) c among = absurd among
use_caller caller (given Plain handed) c among = absurd among
use_caller caller (paired first second) c among = absurd among
use_caller caller (tagged at found) c among = absurd among

among_further : {T : Type 0} (x y : T) (a b : List T) → Among x a ⊎ Among x b →
    Among x (y ∷ a) ⊎ Among x b
among_further x y a b (inl here) = inl (inr here)
among_further x y a b (inr there) = inr there

among_split : {T : Type 0} (x : T) (a b : List T) → Among x (a ++ b) → Among x a ⊎ Among x b
among_split x [] b among = inr among
among_split x (y ∷ a) b (inl is) = inl (inl is)
among_split x (y ∷ a) b (inr more) = among_further x y a b (among_split x a b more)

uses_by : (caller : ℕ) (one : Use) (uses : List Use) (c : Call) →
    (Among c (flat_map (use_calls caller) uses) → c.caller ≡ caller) →
    Among c (use_calls caller one) ⊎ Among c (flat_map (use_calls caller) uses) →
    c.caller ≡ caller
uses_by caller one uses c more (inl here) = use_caller caller one c here
uses_by caller one uses c more (inr there) = more there

uses_caller : (caller : ℕ) (uses : List Use) (c : Call) →
    Among c (flat_map (use_calls caller) uses) → c.caller ≡ caller
uses_caller caller [] c among = absurd among
uses_caller caller (one ∷ uses) c among =
    uses_by caller one uses c (λ there. uses_caller caller uses c there)
    (among_split c (use_calls caller one) (flat_map (use_calls caller) uses) among)

all_among : {T : Type 0} (P : T → Type 0) (xs : List T) → ((x : T) → Among x xs → P x) →
    AllByRecursion P xs
all_among P [] h = tt
all_among P (x ∷ xs) h = (h x (inl refl), all_among P xs (λ y among. h y (inr among)))

globals_bodies : (text : Text) (kind : Kind) (is_const : Bool) (declarators : List Declarator)
    (before : Before) →
    (globals_behind text kind is_const declarators before).bodies ≡ before.bodies
globals_bodies text kind is_const [] before = refl
globals_bodies text kind is_const (declarator ∷ more) before =
    globals_bodies text kind is_const more (global_behind text kind is_const declarator before)

number_below : (d : Declared) (n objects : ℕ) → DeclaredBelow objects d → HasNumber d n →
    n < objects
number_below (declared.Object object i) n objects below is = omega (arith, below, is)
number_below (declared.Function r ps d) n objects below is = absurd is
number_below (declared.Enumerator value) n objects below is = absurd is
number_below declared.Tag n objects below is = absurd is

-- what is known of a body that a name of file scope stands for
pub record Callee (all : List IntType) (frames : rows.Frames) (bodies : ℕ) (result : Kind)
    (body : ℕ) : Type 0 where
  pub inside : body < bodies
  pub parameters : AllByRecursion (PlaceFits all) (rows.frame_at frames body).parameters
  pub returns : (t : IntType) → result ≡ Value t →
      PlaceFits all (cell_at t (rows.frame_at frames body).result_cell.base)

module _ (all : List IntType) (calls : List Call) (bodies : ℕ) (frames : rows.Frames)
    (text : Text) (first : ℕ → Option ℕ) (last : List Entry) where
  -- what the function of this number stands in
  abbrev pub ground : ℕ → Ground
  ground k = record {
    cells = all;
    calls = λ body. Calls calls k body;
    lands = λ body. Calls calls k body × (body < bodies);
  }

  abbrev ObjectsBegin : Type 0
  ObjectsBegin =
      (name : List ℕ) (object : Object) (i : Bool)
      → declared_as last name ≡ Some (declared.Object object i) → Begins all object first

  abbrev pub FunctionsStand : Type 0
  FunctionsStand =
      (name : List ℕ) (result : Kind) (ps : Option (List ParameterType)) (d : Bool)
      → declared_as last name ≡ Some (declared.Function result ps d) → (body : ℕ)
      → body_of text name ≡ Some body → Callee all frames bodies result body

  function_by : (k : ℕ) → FunctionsStand → (name : List ℕ) (r : Kind)
      (ps : Option (List ParameterType)) (d : Bool) (now : Declared) →
      declared_as last name ≡ Some now → Alike (declared.Function r ps d) now → (body : ℕ) →
      body_of text name ≡ Some body → Calls calls k body →
      FunctionFits (ground k) frames (function_of text name r ps)
  function_by k stand name r ps d (declared.Object object i) is alike body has may = absurd alike
  function_by k stand name r ps d (declared.Enumerator n) is alike body has may = absurd alike
  function_by k stand name r ps d declared.Tag is alike body has may = absurd alike
  function_by k stand name r ps d (declared.Function s qs e) is alike body has may =
      let c = stand name s qs e is body has in
      let here : unwrap_or (body_of text name) 0 ≡ body = ap (λ o. unwrap_or o 0) has in
      record {
        lands = subst (λ n. Calls calls k n × (n < bodies)) (sym here) (may, c.inside);
        parameters = subst (λ n. AllByRecursion (PlaceFits all)
            (rows.frame_at frames n).parameters) (sym here) c.parameters;
        result = λ t so.
            subst (λ n. PlaceFits all (cell_at t (rows.frame_at frames n).result_cell.base))
            (sym here) (c.returns t (sym alike ∙ so));
      }

  declared_fits : (k : ℕ) → FunctionsStand → (name : List ℕ) (d : Declared) → Lasting last name d →
      DeclaredSome d → DeclaredFits (ground k) frames text name d
  declared_fits k stand name (declared.Object object i) l some = tt
  declared_fits k stand name (declared.Function r ps d) l some =
      λ body has may. function_by k stand name r ps d l.now l.is l.alike body has may
  declared_fits k stand name (declared.Enumerator n) l some = some
  declared_fits k stand name declared.Tag l some = tt

  functions_fit : (k : ℕ) → FunctionsStand → (names : List Entry) (objects : ℕ) →
      Lasts names last → FileScope names objects → FunctionsFit (ground k) frames text names
  functions_fit k stand names objects l f = record {
    at = λ name d is. declared_fits k stand name d (l.at name d is) (f.some name d is);
  }

  object_by : ObjectsBegin → (name : List ℕ) (object : Object) (i : Bool) (now : Declared)
      (starts : ℕ → Option ℕ) → declared_as last name ≡ Some now →
      Alike (declared.Object object i) now → starts object.number ≡ first object.number →
      Begins all object starts
  object_by begin name object i (declared.Function r ps d) starts is alike same = absurd alike
  object_by begin name object i (declared.Enumerator n) starts is alike same = absurd alike
  object_by begin name object i declared.Tag starts is alike same = absurd alike
  object_by begin name object i (declared.Object b j) starts is alike same =
      let h = begin name b j is in
      let cells : cells_of b ≡ cells_of object =
      ap (λ (o : Option ℤ). elim o [ None ↦ 1 | Some n ↦ unsigned_abs n ]) (sym alike.2) in
      record {
        some = subst (λ n. 1 ≤ n) cells h.some;
        base = h.base;
        is = same ∙ ap first alike.0 ∙ h.is;
        there = subst (λ t. AreCells all h.base (cells_of object) t) (sym alike.1)
            (subst (λ n. AreCells all h.base n b.ty) cells h.there);
      }

  declared_begins : (k : ℕ) → ObjectsBegin → (name : List ℕ) (d : Declared)
      (starts : ℕ → Option ℕ) → Lasting last name d →
      ((n : ℕ) → HasNumber d n → starts n ≡ first n) → DeclaredBegins (ground k) starts d
  declared_begins k begin name (declared.Object object i) starts l same =
      object_by begin name object i l.now starts l.is l.alike (same object.number refl)
  declared_begins k begin name (declared.Function r ps d) starts l same = tt
  declared_begins k begin name (declared.Enumerator n) starts l same = tt
  declared_begins k begin name declared.Tag starts l same = tt

  known_here : (k : ℕ) → ObjectsBegin → (names : List Entry) (objects : ℕ)
      (starts : ℕ → Option ℕ) → Lasts names last → Stay first names objects starts →
      Known (ground k) names starts
  known_here k begin names objects starts l stay = record {
    begins = λ name d is.
        declared_begins k begin name d starts (l.at name d is) (λ n h. stay.same name d is n h);
  }

  -- the sites of a body
  sites_fit : (k : ℕ) (sites : List Site) → NoFaults (flat_map (site_faults text) sites) →
      ((c : Call) → Among c (flat_map (site_calls text k) sites) → Among c calls) →
      SitesFit (ground k) text k sites
  sites_fit k [] none among = tt
  sites_fit k (site ∷ sites) none among =
      let rest = flat_map (site_faults text) sites in
      let own = site_calls text k site in
      let others = flat_map (site_calls text k) sites in (
        record {
          none = none_left (site_faults text site) rest none;
          calls = all_among (λ (c : Call). Calls calls k c.callee) own (λ c here. (
            c.place,
            subst (λ n. Among (record {
              caller = n;
              callee = c.callee;
              place = c.place;
            }) calls) (uses_caller k (act_uses text site.around site.act) c here)
                (among c (among_left c own others here)),
          ));
        },
        sites_fit k sites (none_right (site_faults text site) rest none)
            (λ c here. among c (among_right c own others here)),
      )

  -- a tree for each function, well typed where its function stands
  abbrev pub Fit : ℕ → Trees → Type 0
  Fit k [] = Unit {0}
  Fit k (t ∷ trees) = TreeFits (ground k) t × Fit (k + 1) trees

  pub record TextRuns (k : ℕ) (names : List Entry) (objects : ℕ) (rules : List (core.Rule CoreTree))
      : Type 0 where
    pub extends : (taken : Taken) → Extends taken (core.each rules taken).taken
    pub at : (taken : Taken) → ObjectsBegin → Stay first names objects taken.starts →
        Within all (core.each rules taken).taken → Fit k (core.each rules taken).made

  walks_same : ((one : BlockItem) → (grown text one).walk ≡ walk_of text one) →
      (items : List BlockItem) → map walk_in (map (grown text) items) ≡ map (walk_of text) items
  walks_same same [] = refl
  walks_same same (one ∷ items) =
      ap (λ (w : Walk). w ∷ map walk_in (map (grown text) items)) (same one)
      ∙ ap (λ (ws : List Walk). walk_of text one ∷ ws) (walks_same same items)

  abbrev pub body_around : Before → Specifiers → FunctionDeclarator → List BlockItem → Around
  body_around before specifiers declarator items =
      around_body text (function_behind text true specifiers declarator before) specifiers items

  abbrev pub params_walk : FunctionDeclarator → Walk
  params_walk declarator = in_order (map (receiving text) (listed declarator.parameters))

  -- a body, where its function stands
  body_runs : (same : (one : BlockItem) → (grown text one).walk ≡ walk_of text one)
      (before : Before) (specifiers : Specifiers) (declarator : FunctionDeclarator)
      (items : List BlockItem) (place close : ℕ) → FunctionsStand →
      NoFaults (item_faults text (item.Function specifiers declarator
      (body.Block items place close))
      before) → all_whole (map whole_block_item items) ≡ true →
      ((c : Call) → Among c (item_calls text (item.Function specifiers declarator
      (body.Block items place close)) before) → Among c calls) →
      FileScope before.names before.objects →
      Lasts (function_behind text true specifiers declarator before).names last →
      Runs (ground before.bodies) (Unit {0}) (body_around before specifiers declarator items)
      (last_of (ground before.bodies) frames text before.bodies (kind_of text specifiers)
      (body_around before specifiers declarator items) (listed declarator.parameters) items)
      (TreeFits (ground before.bodies))
      (statement.function_rule frames (typed_function text before specifiers declarator items
      place close))
  body_runs same before specifiers declarator items place close stand none whole among f l =
      let k = before.bodies in
      let G = ground k in
      let b = function_behind text true specifiers declarator before in
      let around = body_around before specifiers declarator items in
      let front = params_walk declarator in
      let head = head_faults text before true specifiers declarator in
      let sites = body_sites text before specifiers declarator (body.Block items place close) in
      let of_body = none_right head (flat_map (site_faults text) sites ++ jump_faults sites) none in
      let fit : SitesFit G text k sites =
      sites_fit k sites (none_left (flat_map (site_faults text) sites) (jump_faults sites) of_body)
      among in
      let mine : SitesFit G text k ((in_order (map (walk_of text) items)).sites (front.behind
      around)) =
      sites_right G text k (front.sites around)
      ((in_order (map (walk_of text) items)).sites (front.behind around)) fit in
      let here : SitesFit G text k ((in_order (map walk_in (map (grown text) items))).sites
      (front.behind around)) =
      subst (λ (ws : List Walk). SitesFit G text k ((in_order ws).sites (front.behind around)))
      (sym (walks_same same items)) mine in
      let scope = function_scope text before true specifiers declarator
      (none_left head (flat_map (site_faults text) sites ++ jump_faults sites) none) f in
      function_runs G frames text k (kind_of text specifiers) around (listed declarator.parameters)
      items
      place close (record {
        functions = functions_fit k stand b.names before.objects l scope;
        below = scope.below;
        result = refl;
      }) here whole

  -- where the objects of file scope begin behind a body
  body_stays : (same : (one : BlockItem) → (grown text one).walk ≡ walk_of text one)
      (before : Before) (specifiers : Specifiers) (declarator : FunctionDeclarator)
      (items : List BlockItem) (place close : ℕ) (starts later : ℕ → Option ℕ) →
      ((n : ℕ) → (n < before.objects) ⊎ ((last_of (ground before.bodies) frames text before.bodies
      (kind_of text specifiers) (body_around before specifiers declarator items)
      (listed declarator.parameters) items).objects ≤ n) → later n ≡ starts n) →
      before.objects ≤ (last_of (ground before.bodies) frames text before.bodies
      (kind_of text specifiers) (body_around before specifiers declarator items)
      (listed declarator.parameters) items).objects →
      FileScope (function_behind text true specifiers declarator before).names before.objects →
      Stay first (function_behind text true specifiers declarator before).names before.objects
      starts →
      Stay first (item_behind text (item.Function specifiers declarator
      (body.Block items place close))
      before).names
      (item_behind text (item.Function specifiers declarator (body.Block items place close))
      before).objects later
  body_stays same before specifiers declarator items place close starts later kept le scope h =
      let around = body_around before specifiers declarator items in
      let front = params_walk declarator in
      let objects : (in_order (map walk_in (map (grown text) items))).behind (front.behind around)
      ≡ (in_order (map (walk_of text) items)).behind (front.behind around) =
      ap (λ (ws : List Walk). (in_order ws).behind (front.behind around)) (walks_same same items) in
      let last_objects = ap (λ (z : Around). z.objects) objects in
      record {
        same = λ name d is n u.
            kept n (inl (number_below d n before.objects (scope.below.at name d is) u))
            ∙ h.same name d is n u;
        above = λ n more.
            kept n (inr (omega (arith, more, last_objects)))
            ∙ h.above n (omega (arith, more, last_objects, le));
      }

  abbrev pub rules_of : List TypedFunction → List (core.Rule CoreTree)
  rules_of functions = map (statement.function_rule frames) functions

  -- the names of file scope behind a body
  pub later_scope : (same : (one : BlockItem) → (grown text one).walk ≡ walk_of text one)
      (before : Before) (specifiers : Specifiers) (declarator : FunctionDeclarator)
      (items : List BlockItem) (place close : ℕ) →
      before.objects ≤ (last_of (ground before.bodies) frames text before.bodies
      (kind_of text specifiers) (body_around before specifiers declarator items)
      (listed declarator.parameters) items).objects →
      FileScope (function_behind text true specifiers declarator before).names before.objects →
      FileScope (item_behind text (item.Function specifiers declarator
      (body.Block items place close))
      before).names
      (item_behind text (item.Function specifiers declarator (body.Block items place close))
      before).objects
  later_scope same before specifiers declarator items place close le f =
      let around = body_around before specifiers declarator items in
      let front = params_walk declarator in
      let names = (function_behind text true specifiers declarator before).names in
      let objects : (in_order (map walk_in (map (grown text) items))).behind (front.behind around)
      ≡ (in_order (map (walk_of text) items)).behind (front.behind around) =
      ap (λ (ws : List Walk). (in_order ws).behind (front.behind around)) (walks_same same items) in
      let higher : before.objects
      ≤ ((in_order (map (walk_of text) items)).behind (front.behind around)).objects =
      subst (λ (z : Around). before.objects ≤ z.objects) objects le in
      record {
        some = f.some;
        below = below_higher before.objects
            ((in_order (map (walk_of text) items)).behind (front.behind around)).objects names
            higher
            f.below;
        one = f.one;
      }

  -- the functions of items, in order
  pub text_runs : (same : (one : BlockItem) → (grown text one).walk ≡ walk_of text one) →
      FunctionsStand → (items : List Item) (before : Before) →
      NoFaults (items_faults text items before) → all_whole (map whole_item items) ≡ true →
      ((c : Call) → Among c (items_calls text items before) → Among c calls) →
      FileScope before.names before.objects → (items_behind text items before).names ≡ last →
      TextRuns before.bodies before.names before.objects
      (rules_of (functions_of text items before))
  text_runs same stand [] before none whole among f end =
      record { extends = λ taken. extends_none taken; at = λ taken begin stay w. tt }
  text_runs same stand (item.Empty place ∷ more) before none whole among f end =
      text_runs same stand more before none whole among f end
  text_runs same stand (item.Typedef specifiers names place ∷ more) before none whole among f end =
      let one = item.Typedef specifiers names place in
      let next = item_behind text one before in
      let r = text_runs same stand more next
      (none_right (item_faults text one before) (items_faults text more next) none)
      whole among (enumeration_scope text specifiers before f) end in
      record {
        extends = r.extends;
        at = λ taken begin stay w. r.at taken begin
            (enumeration_stays text specifiers before first taken.starts stay) w;
      }
  text_runs same stand (item.Objects declaration ∷ more) before none whole among f end =
      let one = item.Objects declaration in
      let front = declaration.specifiers in
      let mid = enumeration_behind text front before in
      let next = item_behind text one before in
      let names = enumeration_faults text front before in
      let kind = kind_of text front in
      let is_const = has_const front in
      let own = globals_faults text kind is_const declaration.declarators mid in
      let rest = items_faults text more next in
      let whole_one = all_whole (map whole_declarator declaration.declarators) in
      let others = all_whole (map whole_item more) in
      let r = text_runs same stand more next (none_right (names ++ own) rest none)
      (and_right whole_one others whole) among
      (globals_scope text kind is_const declaration.declarators mid
      (and_left whole_one others whole)
      (none_right names own (none_left (names ++ own) rest none))
      (enumeration_scope text front before f)) end in
      record {
        extends = r.extends;
        at = λ taken begin stay w.
            subst (λ k. Fit k (core.each (rules_of (functions_of text more next)) taken).made)
            (globals_bodies text kind is_const declaration.declarators mid)
            (r.at taken begin (globals_stay text kind is_const declaration.declarators mid first
            taken.starts (enumeration_stays text front before first taken.starts stay)) w);
      }
  text_runs same stand (item.Prototype specifiers declarator ∷ more) before none whole among f
      end =
      let one = item.Prototype specifiers declarator in
      let next = item_behind text one before in
      let own = item_faults text one before in
      let rest = items_faults text more next in
      let none_here = none_left own rest none in
      let r = text_runs same stand more next (none_right own rest none) whole among
      (function_scope text before false specifiers declarator none_here f) end in
      record {
        extends = r.extends;
        at = λ taken begin stay w. r.at taken begin
            (function_stays text before false specifiers declarator first taken.starts none_here
            stay) w;
      }
  text_runs same stand (item.Function specifiers declarator body.Skipped ∷ more) before none
      whole among f end =
      let one = item.Function specifiers declarator body.Skipped in
      let next = item_behind text one before in
      let own = item_faults text one before in
      let rest = items_faults text more next in
      let head = head_faults text before true specifiers declarator in
      let inside = body_faults text (body_sites text before specifiers declarator body.Skipped) in
      let none_here = none_left head inside (none_left own rest none) in
      let r = text_runs same stand more next (none_right own rest none) whole
      (λ c here. among c (among_right c (item_calls text one before) (items_calls text more next)
      here)) (function_scope text before true specifiers declarator none_here f) end in
      record {
        extends = r.extends;
        at = λ taken begin stay w. r.at taken begin
            (function_stays text before true specifiers declarator first taken.starts none_here
            stay) w;
      }
  text_runs same stand
      (item.Function specifiers declarator (body.Block items place close) ∷ more) before none whole
      among
      f end =
      let one = item.Function specifiers declarator (body.Block items place close) in
      let k = before.bodies in
      let G = ground k in
      let next = item_behind text one before in
      let own = item_faults text one before in
      let rest = items_faults text more next in
      let head = head_faults text before true specifiers declarator in
      let sites = body_sites text before specifiers declarator (body.Block items place close) in
      let none_own = none_left own rest none in
      let none_head = none_left head (flat_map (site_faults text) sites ++ jump_faults sites)
      none_own in
      let whole_one = all_whole (map whole_block_item items) in
      let others = all_whole (map whole_item more) in
      let function = typed_function text before specifiers declarator items place close in
      let rule = statement.function_rule frames function in
      let rules = rules_of (functions_of text more next) in
      let around = body_around before specifiers declarator items in
      let l = subst (Lasts (function_behind text true specifiers declarator before).names) end
      (items_last text more next (none_right own rest none)) in
      let scope = function_scope text before true specifiers declarator none_head f in
      let R = body_runs same before specifiers declarator items place close stand none_own
      (and_left whole_one others whole)
      (λ c here. among c (among_left c (item_calls text one before) (items_calls text more next)
      here)) f l in
      let rises = function_rises G frames text k (kind_of text specifiers) around
      (listed declarator.parameters) items in
      let r = text_runs same stand more next (none_right own rest none)
      (and_right whole_one others whole)
      (λ c here. among c (among_right c (item_calls text one before) (items_calls text more next)
      here)) (later_scope same before specifiers declarator items place close rises scope) end in
      record {
        extends = λ taken.
            let m = rule taken in
            extends_both taken m.taken (core.each rules m.taken).taken (R.extends taken)
            (r.extends m.taken);
        at = λ taken begin stay w.
            let m = rule taken in
            let inside = within_before all m.taken (core.each rules m.taken).taken
            (r.extends m.taken) w in
            let here = function_stays text before true specifiers declarator first taken.starts
            none_head stay in
            let known = known_here k begin (function_behind text true specifiers declarator
            before).names
            before.objects taken.starts l here in (
              (R.at taken tt known inside).0,
              r.at m.taken begin (body_stays same before specifiers declarator items place close
                  taken.starts
                  m.taken.starts (λ n side. R.keeps taken n side) rises scope here) w,
            );
      }
