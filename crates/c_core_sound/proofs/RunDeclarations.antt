-- The rules of declarations and of expressions in statements make well typed trees.
use Rattle.std.proofs.Common.{◌≡◌, ℕ, zero, suc, ◌+◌, ◌-◌, ◌<◌, ◌≤◌, true, List, [], ◌∷◌, ◌++◌, map}
use Rattle.std.proofs.Common.{length, replicate, Option, None, Some, refl, ap, sym, ◌∙◌, arith, inl}
use Rattle.std.proofs.Common.{inr, subst, Bool, ℤ, pos, slice_get, append_assoc, add_assoc}
use Rattle.std.specs.Prelude.{◌⊎◌, option_map, if◌then◌else◌}
use Rattle.std.specs.List.{AllByRecursion}
use Rattle.std.proofs.lemmas.List.{map-append, length-map}
use Rattle.std.proofs.lemmas.Bool.{ne_eqb, eq-eqb}
use Rattle.cpa_ints.specs.declared.integers.IntType.{IntType}
use Rattle.cpa_expr.specs.Shape.{AreCells}
use Rattle.cpa_expr.specs.declared.tree.Expr.TheVariants.{Const}
use Rattle.cpa_model.specs.declared.program.Cell.{Cell}
use Rattle.cpa_model.specs.Expressions.{types_of}
use Rattle.c_lexer.specs.declared.fault.Rule.TheVariants as rule
use Rattle.c_grammar_tree.specs.declared.expression.Expression.{Expression}
use Rattle.c_grammar_tree.specs.declared.declaration.Enumeration.{Enumeration}
use Rattle.c_grammar_tree.specs.declared.declaration.Declaration.{Declaration}
use Rattle.c_grammar_tree.specs.declared.declaration.Declarator.{Declarator}
use Rattle.c_grammar_tree.specs.declared.declaration.Initializer.{Initializer}
use Rattle.c_grammar_tree.specs.declared.declaration.Initializer.TheVariants as initializer
use Rattle.c_types_rules.specs.declared.meaning.Kind.{Kind}
use Rattle.c_types_rules.specs.declared.meaning.Object.{Object}
use Rattle.c_types_rules.specs.declared.meaning.Entry.{Entry}
use Rattle.c_types_rules.specs.declared.meaning.Role.TheVariants.{Valued}
use Rattle.c_types_rules.specs.declared.typed.TypedExpression.{TypedExpression}
use Rattle.c_types_rules.specs.Names.{Text}
use Rattle.c_types_rules.specs.Tables.{cells_of}
use Rattle.c_types_rules.specs.Expressions.{reading}
use Rattle.c_types_rules.specs.ExpressionRules.{broken, uses_faults}
use Rattle.c_types_rules.specs.Declarations.{items_of, object_of, local_entry, length_faults}
use Rattle.c_types_rules.specs.Declarations.{length_uses, void_object, kind_of, has_const}
use Rattle.c_types_rules.specs.Declarations.{typed_items}
use Rattle.c_types_rules.specs.Declarations.{enumerator_entry, tag_entry}
use Rattle.c_types_rules.specs.Statements.{Around, Site, Walk, declares, evaluates}
use Rattle.c_types_rules.specs.Statements.{declaring_behind, declarator_walk, in_order}
use Rattle.c_types_rules.specs.Statements.{enumeration_walk, declaration_walk}
use Rattle.c_types_rules.specs.StatementRules.{site_faults, declared_twice}
use Rattle.c_types_rules.specs.TypedStatements.{typed_declarator, typed_declarators}
use Rattle.c_types_rules.specs.TypedStatements.{typed_declaration}
use Rattle.c_core_rules.specs.declared.tree.Location.{Location}
use Rattle.cpa_model_trees.specs.declared.tree.Head.TheVariants as head
use Rattle.c_core_rules.specs.Values.{cell_at}
use Rattle.cpa_model_trees.specs.Numbering.{Trees}
use Rattle.c_core_rules.specs.Trees.{set}
use Rattle.c_core_rules.specs.Cells.{Taken, cells_with, begun}
use Rattle.c_core_rules.specs.Cells as core
use Rattle.c_core_rules.specs.Expressions as rows
use Rattle.c_core_rules.specs.Statements as statement
use Rattle.c_core_laws.specs.lemmas.Faults.{NoFaults, none_left, none_right}
use Rattle.c_core_sound.specs.Whole.{is_whole, all_whole, whole_length, whole_declarator}
use Rattle.c_core_sound.specs.Whole.{whole_declaration}
use Rattle.c_core_sound.proofs.TypedValues.{PlaceFits, cell_fits, cell_below, zero_typed}
use Rattle.c_core_sound.proofs.Fitting.{Ground, TreesFit, append_fits, push_fits, leaf_fits}
use Rattle.c_core_sound.proofs.Fitting.{set_fits, Extends, Within, Fits, fits_gives, fits_then}
use Rattle.c_core_sound.proofs.Fitting.{fits_weaker, EachFits, none_fits, more_fit, fits_ordered}
use Rattle.c_core_sound.proofs.FittingRows.{Begins, GoodRule}
use Rattle.c_core_sound.proofs.ReadExpressions.{and_left, and_right}
use Rattle.c_core_sound.proofs.Lengths.{Enough, items_count, enough}
use Rattle.c_core_sound.proofs.Running.{known_push, below_push, world, Below, below_higher}
use Rattle.c_core_sound.proofs.Running.{known_kept, Runs, runs_then, runs_gives, runs_fits}
use Rattle.c_core_sound.proofs.Running.{runs_weaker, Known}
use Rattle.c_core_sound.proofs.Enumerating.{enumeration_grows, enumeration_keeps}
use Rattle.c_core_sound.proofs.Sites.{SitesFit, sites_left, sites_right, FunctionsFit}
use Rattle.c_core_sound.proofs.Sites.{functions_push, value_rule}
use Rattle.c_core_laws.specs.lemmas.ObjectCells.{object_types}

-- an object takes its cells

taken_types : (object : Object) (values : List ℤ) (taken : Taken) →
    types_of (core.taking object values taken).taken.cells
    ≡ types_of taken.cells ++ replicate (cells_of object) object.ty
taken_types object values taken =
    map-append (λ (cell : Cell). cell.ty) taken.cells
    (cells_with object.ty (cells_of object) values)
    ∙ ap (λ ts. types_of taken.cells ++ ts) (object_types object values)

get_replicated : (n i : ℕ) (t : IntType) (more : List IntType) → i < n →
    slice_get (replicate n t ++ more) i ≡ Some t
get_replicated zero i t more less = absurd (omega (arith, less))
get_replicated (suc n) zero t more less = refl
get_replicated (suc n) (suc i) t more less = get_replicated n i t more (omega (arith, less))

no_front : (i : ℕ) → 0 + i ≡ i
no_front i = omega arith

one_front : (n i : ℕ) → suc n + i ≡ suc (n + i)
one_front n i = omega arith

get_later : (xs : List IntType) (i : ℕ) (ys : List IntType) →
    slice_get (xs ++ ys) (length xs + i) ≡ slice_get ys i
get_later [] i ys = ap (slice_get ys) (no_front i)
get_later (x ∷ xs) i ys = ap (slice_get (x ∷ (xs ++ ys))) (one_front (length xs) i) ∙ get_later xs i
    ys

pub taken_cells : (all : List IntType) (object : Object) (values : List ℤ) (taken : Taken) →
    Within all (core.taking object values taken).taken →
    AreCells all (length taken.cells) (cells_of object) object.ty
taken_cells all object values taken w i less =
    let n = cells_of object in
    let own = types_of taken.cells in
    let many : length taken.cells ≡ length own =
    sym (length-map taken.cells (λ (cell : Cell). cell.ty)) in
    ap (λ (ts : List IntType). slice_get ts (length taken.cells + i))
    (w.is ∙ ap (λ ts. ts ++ w.more) (taken_types object values taken)
    ∙ append_assoc own (replicate n object.ty) w.more)
    ∙ ap (λ m. slice_get (own ++ (replicate n object.ty ++ w.more)) (m + i)) many
    ∙ get_later own i (replicate n object.ty ++ w.more)
    ∙ get_replicated n i object.ty w.more less

pub taken_extends : (object : Object) (values : List ℤ) (taken : Taken) →
    Extends taken (core.taking object values taken).taken
taken_extends object values taken = record {
  more = replicate (cells_of object) object.ty;
  is = taken_types object values taken;
}

begun_same : (number cell : ℕ) (starts : ℕ → Option ℕ) →
    begun number cell starts number ≡ Some cell
begun_same number cell starts =
    ap (λ b. if b then Some cell else starts number) (eq-eqb number number refl)

pub begun_other : (number other cell : ℕ) (starts : ℕ → Option ℕ) → (number ≡ other → ⊥) →
    begun number cell starts other ≡ starts other
begun_other number other cell starts apart =
    ap (λ b. if b then Some cell else starts other) (ne_eqb number other apart)

pub taken_begins : (G : Ground) (object : Object) (values : List ℤ) (taken : Taken) →
    1 ≤ cells_of object → Within G.cells (core.taking object values taken).taken →
    Begins G.cells object (core.taking object values taken).taken.starts
taken_begins G object values taken some w = record {
  some = some;
  base = length taken.cells;
  is = begun_same object.number (length taken.cells) taken.starts;
  there = taken_cells G.cells object values taken w;
}

-- what is known where something stands in a function with this result
pub record Ready (G : Ground) (frames : rows.Frames) (text : Text) (K : Kind) (around : Around)
    : Type 0 where
  pub functions : FunctionsFit G frames text around.names
  pub below : Below around.objects around.names
  pub result : around.result ≡ K

module _ (G : Ground) (frames : rows.Frames) (text : Text) (caller : ℕ) where
  later_cells : (first n : ℕ) (t : IntType) → AreCells G.cells first (suc n) t →
      AreCells G.cells (first + 1) n t
  later_cells first n t cells i less =
      ap (slice_get G.cells) (omega arith) ∙ cells (suc i) (omega (arith, less))

  first_cell : (first n : ℕ) (t : IntType) → AreCells G.cells first (suc n) t →
      PlaceFits G.cells (cell_at t first)
  first_cell first n t cells =
      cell_fits G.cells t first (ap (slice_get G.cells) (omega arith) ∙ cells 0 (omega arith))

  inputs_fit : (origin first n : ℕ) (t : IntType) → AreCells G.cells first n t →
      TreesFit G (statement.inputs origin first n)
  inputs_fit origin first zero t cells = tt
  inputs_fit origin first (suc n) t cells = (
    leaf_fits G origin (head.Input first)
        (cell_below G.cells (cell_at t first) (first_cell first n t
        cells)),
    inputs_fit origin (first + 1) n t (later_cells first n t cells),
  )

  zeros_fit : (origin first n : ℕ) (t : IntType) → AreCells G.cells first n t →
      TreesFit G (statement.zeros origin t first n)
  zeros_fit origin first zero t cells = tt
  zeros_fit origin first (suc n) t cells = (
    set_fits G origin (cell_at t first) (Const t (pos 0)) (first_cell first n t cells)
        (zero_typed G.cells t),
    zeros_fit origin (first + 1) n t (later_cells first n t cells),
  )

  -- S, place := v
  pub initialized_fits : (origin : ℕ) (names : List Entry) (place : Location)
      (e : TypedExpression) →
      GoodRule (world G names) (rows.used (rows.rows frames e)) →
      Fits (world G names) (PlaceFits G.cells place) (TreesFit G)
      (statement.initialized origin frames place e)
  initialized_fits origin names place e h =
      fits_then (world G names) (λ v. core.gives (v.statements ++ set origin place v.value ∷ []))
      (fits_weaker (world G names) (λ g. tt) h)
      (λ v. fits_gives (world G names) (TreesFit G) (v.statements ++ set origin place v.value ∷ [])
      (λ g. push_fits G v.statements (set origin place v.value) g.1.statements
      (set_fits G origin place v.value g.0 g.1.value)))

  abbrev typed_list : List Entry → List Expression → List TypedExpression
  typed_list names items = map (λ (item : Expression). (reading text names item).typed) items

  abbrev ItemGood : List Entry → Expression → Type 0
  ItemGood names item =
      GoodRule (world G names) (rows.used (rows.rows frames (reading text names item).typed))

  each_weaker : (names : List Entry) {Given More : Type 0} {rules : List (core.Rule Trees)} →
      (More → Given) → EachFits (world G names) Given (TreesFit G) rules →
      EachFits (world G names) More (TreesFit G) rules
  each_weaker names f none_fits = none_fits
  each_weaker names f (more_fit h more) =
      more_fit (fits_weaker (world G names) f h) (each_weaker names f more)

  each_initialized : (origin : ℕ) (names : List Entry) (t : IntType) (first : ℕ)
      (items : List Expression) →
      AllByRecursion (ItemGood names) items →
      EachFits (world G names) (AreCells G.cells first (length items) t) (TreesFit G)
      (statement.initialized_each origin frames t first (typed_list names items))
  each_initialized origin names t first [] all = none_fits
  each_initialized origin names t first (item ∷ items) all =
      let n = length items in
      more_fit
      (fits_weaker (world G names) (λ cells. first_cell first n t cells)
      (initialized_fits origin names (cell_at t first) (reading text names item).typed all.0))
      (each_weaker names (λ cells. later_cells first n t cells)
      (each_initialized origin names t (first + 1) items all.1))

  no_more : (n : ℕ) → n ≡ n + 0
  no_more n = omega arith

  rest_cells : (first n m : ℕ) (t : IntType) → AreCells G.cells first n t →
      AreCells G.cells (first + m) (n - m) t
  rest_cells first n m t cells i less =
      ap (slice_get G.cells) (add_assoc first m i) ∙ cells (m + i) (omega (arith, less))

  -- an object begins with its initializer
  initializing_fits : (origin : ℕ) (names : List Entry) (object : Object)
      (given : Option Initializer)
      (first : ℕ) → 1 ≤ cells_of object → items_count given ≤ cells_of object →
      AllByRecursion (ItemGood names) (items_of given) →
      Fits (world G names) (AreCells G.cells first (cells_of object) object.ty) (TreesFit G)
      (statement.initializing origin frames object (option_map (typed_items text names) given)
      first)
  initializing_fits origin names object None first some few all =
      fits_gives (world G names) (TreesFit G) (statement.inputs origin first (cells_of object))
      (λ cells. inputs_fit origin first (cells_of object) object.ty cells)
  initializing_fits origin names object (Some (initializer.Scalar value)) first some few all =
      fits_weaker (world G names) (λ cells. cell_fits G.cells object.ty first
      (ap (slice_get G.cells) (no_more first) ∙ cells 0 some))
      (initialized_fits origin names (cell_at object.ty first) (reading text names value).typed
      all.0)
  initializing_fits origin names object (Some (initializer.List items place)) first some few all =
      let W = world G names in
      let n = cells_of object in
      let m = length items in
      let typed = typed_list names items in
      let rest = statement.zeros origin object.ty (first + length typed) (n - length typed) in
      fits_then W (λ before. core.gives (before ++ rest))
      (fits_weaker W (λ cells i less. cells i (omega (arith, less, few)))
      (fits_ordered W (AreCells G.cells first m object.ty)
      (each_initialized origin names object.ty first items all)))
      (λ before. fits_gives W (TreesFit G) (before ++ rest)
      (λ g. append_fits G before rest g.1
      (zeros_fit origin (first + length typed) (n - length typed)
      object.ty (rest_cells first n (length typed) object.ty g.0))))

  module _ (K : Kind) where
    abbrev ReadyAt : Around → Type 0
    ReadyAt around = Ready G frames text K around

    abbrev object_at : Around → Kind → Bool → Declarator → Object
    object_at around kind is_const declarator =
        object_of text around.names around.objects kind is_const declarator

    abbrev declares_site : Around → Kind → Declarator → Site
    declares_site around kind declarator =
        record { around = around; act = declares kind declarator }

    -- a declarator breaks no rule of its length
    declared_enough : (around : Around) (kind : Kind) (is_const : Bool) (declarator : Declarator) →
        whole_length declarator.array ≡ true →
        NoFaults (site_faults text (declares_site around kind declarator)) →
        Enough (object_at around kind is_const declarator).length
        (items_count declarator.initializer)
    declared_enough around kind is_const declarator whole none =
        let a = broken rule.N2 (declared_twice around (declares kind declarator)) in
        let b = broken rule.N5 (void_object kind declarator) in
        let c = broken rule.N12 (length_faults text around.names declarator) in
        let u = uses_faults (length_uses text around.names declarator) in
        let d = a ++ b ++ [] ++ [] ++ [] ++ c in
        enough text around.names declarator whole
        (none_right (d ++ [] ++ [] ++ []) u none)
        (none_right (a ++ b ++ [] ++ [] ++ []) c (none_left d [] (none_left (d ++ []) []
        (none_left (d ++ [] ++ []) [] (none_left (d ++ [] ++ [] ++ []) u none)))))

    pub apart_of : (n m : ℕ) → (m < n) ⊎ (n + 1 ≤ m) → n ≡ m → ⊥
    apart_of n m (inl less) is = omega (arith, less, is)
    apart_of n m (inr more) is = omega (arith, more, is)

    taking_runs : (around : Around) (kind : Kind) (is_const : Bool) (declarator : Declarator) →
        Below around.objects around.names →
        1 ≤ cells_of (object_at around kind is_const declarator) →
        Runs G (Unit {0}) around (declaring_behind text kind is_const declarator around)
        (λ (first : ℕ). AreCells G.cells first
        (cells_of (object_at around kind is_const declarator))
        (object_at around kind is_const declarator).ty)
        (core.taking (object_at around kind is_const declarator) [])
    taking_runs around kind is_const declarator below some =
        let object = object_at around kind is_const declarator in record {
          extends = λ taken. taken_extends object [] taken;
          keeps = λ taken n side.
              begun_other around.objects n (length taken.cells) taken.starts
              (apart_of around.objects n side);
          at = λ taken g k w. (
            taken_cells G.cells object [] taken w,
            known_push G around.names (local_entry declarator.name.bytes object)
                (core.taking object [] taken).taken.starts
                (known_kept G around.objects around.names taken.starts
                (core.taking object [] taken).taken.starts below
                (λ m less. begun_other around.objects m (length taken.cells) taken.starts
                (apart_of around.objects m (inl less))) k)
                (taken_begins G object [] taken some w),
          );
        }

    -- each item of an initializer has a value
    items_good : (around : Around) (items : List Expression) →
        FunctionsFit G frames text around.names →
        SitesFit G text caller (map (λ item. record {
          around = around;
          act = evaluates Valued item;
        }) items) → all_whole (map is_whole items) ≡ true →
        AllByRecursion (ItemGood around.names) items
    items_good around [] fits sites whole = tt
    items_good around (item ∷ items) fits sites whole =
        let rest = all_whole (map is_whole items) in (
          value_rule G frames text caller around item fits sites.0
              (and_left (is_whole item) rest whole),
          items_good around items fits sites.1 (and_right (is_whole item) rest whole),
        )

    one_more : (n : ℕ) → n ≤ n + 1
    one_more n = omega arith

    not_less : (n : ℕ) → n ≤ n
    not_less n = omega arith

    pub ready_behind : (around : Around) (kind : Kind) (is_const : Bool) (declarator : Declarator) →
        ReadyAt around → ReadyAt (declaring_behind text kind is_const declarator around)
    ready_behind around kind is_const declarator h =
        let entry = local_entry declarator.name.bytes (object_at around kind is_const declarator) in
        record {
          functions = functions_push G frames text around.names entry h.functions (λ name is. tt);
          below = below_push (around.objects + 1) around.names entry
              (below_higher around.objects (around.objects + 1) around.names
              (one_more around.objects) h.below) (omega arith);
          result = h.result;
        }

    declared_runs : (around : Around) (kind : Kind) (is_const : Bool) (declarator : Declarator) →
        ReadyAt around →
        SitesFit G text caller ((declarator_walk text kind is_const declarator).sites around) →
        whole_declarator declarator ≡ true →
        Runs G (Unit {0}) around (declaring_behind text kind is_const declarator around)
        (TreesFit G)
        (statement.declared frames (typed_declarator text kind is_const declarator around))
    declared_runs around kind is_const declarator h sites whole =
        let object = object_at around kind is_const declarator in
        let behind = declaring_behind text kind is_const declarator around in
        let own = whole_length declarator.array in
        let others = all_whole (map is_whole (items_of declarator.initializer)) in
        let e = declared_enough around kind is_const declarator (and_left own others whole)
        sites.0.none in
        let ready = ready_behind around kind is_const declarator h in
        runs_then G around behind behind
        (statement.initializing declarator.name.place frames object
        (option_map (typed_items text behind.names) declarator.initializer))
        (one_more around.objects) (not_less behind.objects)
        (taking_runs around kind is_const declarator h.below e.0)
        (λ first. runs_weaker G (λ g. g.1) (runs_fits G behind
        (initializing_fits declarator.name.place behind.names object declarator.initializer first
        e.0 e.1
        (items_good behind (items_of declarator.initializer) ready.functions sites.1
        (and_right own others whole)))))

    abbrev walk_of_all : Kind → Bool → List Declarator → Walk
    walk_of_all kind is_const declarators =
        in_order (map (declarator_walk text kind is_const) declarators)

    declarators_ready : (around : Around) (kind : Kind) (is_const : Bool)
        (declarators : List Declarator) → ReadyAt around →
        ReadyAt ((walk_of_all kind is_const declarators).behind around)
    declarators_ready around kind is_const [] h = h
    declarators_ready around kind is_const (declarator ∷ more) h =
        declarators_ready (declaring_behind text kind is_const declarator around) kind is_const more
        (ready_behind around kind is_const declarator h)

    declarators_rise : (around : Around) (kind : Kind) (is_const : Bool)
        (declarators : List Declarator) →
        around.objects ≤ ((walk_of_all kind is_const declarators).behind around).objects
    declarators_rise around kind is_const [] = omega arith
    declarators_rise around kind is_const (declarator ∷ more) =
        omega (
          arith,
          declarators_rise (declaring_behind text kind is_const declarator around)
              kind is_const more,
        )

    declarators_run : (around : Around) (kind : Kind) (is_const : Bool)
        (declarators : List Declarator) → ReadyAt around →
        SitesFit G text caller ((walk_of_all kind is_const declarators).sites around) →
        all_whole (map whole_declarator declarators) ≡ true →
        Runs G (Unit {0}) around ((walk_of_all kind is_const declarators).behind around)
        (TreesFit G)
        (statement.declaration frames (typed_declarators text kind is_const declarators around))
    declarators_run around kind is_const [] h sites whole =
        runs_gives G around (TreesFit G) [] (λ g. tt)
    declarators_run around kind is_const (declarator ∷ more) h sites whole =
        let behind = declaring_behind text kind is_const declarator around in
        let last = (walk_of_all kind is_const more).behind behind in
        let first_sites = (declarator_walk text kind is_const declarator).sites around in
        let rest_sites = (walk_of_all kind is_const more).sites behind in
        let own = whole_declarator declarator in
        let others = all_whole (map whole_declarator more) in
        let rest = statement.declaration frames
        (typed_declarators text kind is_const more behind) in
        runs_then G around behind last
        (λ before. core.then_by rest (λ after. core.gives (before ++ after)))
        (one_more around.objects) (declarators_rise behind kind is_const more)
        (declared_runs around kind is_const declarator h
        (sites_left G text caller first_sites rest_sites sites) (and_left own others whole))
        (λ before. runs_then G behind last last (λ after. core.gives (before ++ after))
        (declarators_rise behind kind is_const more) (not_less last.objects)
        (runs_weaker G (λ g. tt) (declarators_run behind kind is_const more
        (ready_behind around kind is_const declarator h)
        (sites_right G text caller first_sites rest_sites sites) (and_right own others whole)))
        (λ after. runs_gives G last (TreesFit G) (before ++ after)
        (λ g. append_fits G before after g.0.1 g.1)))

    -- the enumerated type of a declaration, and its declarators

    enumeration_ready : (found : Option Enumeration) (around : Around) → ReadyAt around →
        ReadyAt ((enumeration_walk text found).behind around)
    enumeration_ready found around h =
        let behind = (enumeration_walk text found).behind around in
        let kept = enumeration_keeps text found around in record {
          functions = enumeration_grows text (λ names. FunctionsFit G frames text names)
              (λ names name n range f.
              functions_push G frames text names (enumerator_entry name n) f (λ one is. range))
              (λ names name f. functions_push G frames text names (tag_entry name) f (λ one is. tt))
              found around h.functions;
          below = subst (λ n. Below n behind.names) (sym kept.objects)
              (enumeration_grows text (λ names. Below around.objects names)
              (λ names name n range b.
              below_push around.objects names (enumerator_entry name n) b tt)
              (λ names name b. below_push around.objects names (tag_entry name) b tt) found around
              h.below);
          result = kept.result ∙ h.result;
        }

    enumeration_known : (found : Option Enumeration) (around : Around) (starts : ℕ → Option ℕ) →
        Known G around.names starts →
        Known G ((enumeration_walk text found).behind around).names starts
    enumeration_known found around starts k =
        enumeration_grows text (λ names. Known G names starts)
        (λ names name n range g. known_push G names (enumerator_entry name n) starts g tt)
        (λ names name g. known_push G names (tag_entry name) starts g tt) found around k

    abbrev named_by : Around → Declaration → Around
    named_by around declaration =
        (enumeration_walk text declaration.specifiers.enumeration).behind around

    pub declaration_ready : (around : Around) (declaration : Declaration) → ReadyAt around →
        ReadyAt ((declaration_walk text declaration).behind around)
    declaration_ready around declaration h =
        declarators_ready (named_by around declaration) (kind_of text declaration.specifiers)
        (has_const declaration.specifiers) declaration.declarators
        (enumeration_ready declaration.specifiers.enumeration around h)

    pub declaration_rises : (around : Around) (declaration : Declaration) →
        around.objects ≤ ((declaration_walk text declaration).behind around).objects
    declaration_rises around declaration =
        subst (λ n. n ≤ ((declaration_walk text declaration).behind around).objects)
        (enumeration_keeps text declaration.specifiers.enumeration around).objects
        (declarators_rise (named_by around declaration) (kind_of text declaration.specifiers)
        (has_const declaration.specifiers) declaration.declarators)

    pub declaration_runs : (around : Around) (declaration : Declaration) → ReadyAt around →
        SitesFit G text caller ((declaration_walk text declaration).sites around) →
        whole_declaration declaration ≡ true →
        Runs G (Unit {0}) around ((declaration_walk text declaration).behind around) (TreesFit G)
        (statement.declaration frames (typed_declaration text declaration around))
    declaration_runs around declaration h sites whole =
        let found = declaration.specifiers.enumeration in
        let named = named_by around declaration in
        let last = (declaration_walk text declaration).behind around in
        let kept = enumeration_keeps text found around in
        let r = declarators_run named (kind_of text declaration.specifiers)
        (has_const declaration.specifiers) declaration.declarators
        (enumeration_ready found around h)
        (sites_right G text caller ((enumeration_walk text found).sites around)
        ((walk_of_all (kind_of text declaration.specifiers) (has_const declaration.specifiers)
        declaration.declarators).sites named) sites) whole in
        record {
          extends = r.extends;
          keeps = λ taken n side. r.keeps taken n
              (subst (λ m. (n < m) ⊎ (last.objects ≤ n)) (sym kept.objects) side);
          at = λ taken g k w. r.at taken g (enumeration_known found around taken.starts k) w;
        }
