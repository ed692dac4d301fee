-- A function in which no rule is broken makes a well typed tree (`function_runs`).
use Rattle.std.proofs.Common.{◌≡◌, ℕ, ◌+◌, ◌<◌, ◌≤◌, true, false, List, [], ◌∷◌, ◌++◌, map, length}
use Rattle.std.proofs.Common.{Option, None, Some, refl, ap, sym, ◌∙◌, subst, arith, inl, slice_get}
use Rattle.std.proofs.Common.{pos}
use Rattle.std.proofs.lemmas.List.{length-map}
use Rattle.cpa_ints.specs.declared.integers.IntType.{IntType}
use Rattle.cpa_expr.specs.declared.tree.Expr.TheVariants.{Const}
use Rattle.cpa_model.specs.declared.program.Cell.{Cell}
use Rattle.cpa_model.specs.Expressions.{types_of}
use Rattle.c_grammar_tree.specs.declared.name.Name.{Name}
use Rattle.c_grammar_tree.specs.declared.statement.BlockItem.{BlockItem}
use Rattle.c_grammar_tree.specs.declared.item.Parameter.{Parameter}
use Rattle.c_types_rules.specs.declared.meaning.Kind.{Kind}
use Rattle.c_types_rules.specs.declared.meaning.Kind.TheVariants.{Void, Value}
use Rattle.c_types_rules.specs.declared.meaning.Entry.{Entry}
use Rattle.c_types_rules.specs.declared.meaning.Object.{Object}
use Rattle.c_types_rules.specs.declared.typed.TypedItem.{TypedItem}
use Rattle.c_types_rules.specs.Names.{Text}
use Rattle.c_types_rules.specs.Types.{object_type}
use Rattle.c_types_rules.specs.Declarations.{is_void_kind, parameter_object, local_entry}
use Rattle.c_types_rules.specs.Statements.{Around, Walk, in_order, receiving, receiving_behind}
use Rattle.c_types_rules.specs.TypedStatements.{grown, walk_in, parameter_objects}
use Rattle.cpa_model_trees.specs.declared.tree.CoreTree.{CoreTree}
use Rattle.c_core_rules.specs.declared.tree.Location.{Location}
use Rattle.c_core_rules.specs.Values.{cell_at}
use Rattle.cpa_model_trees.specs.Numbering.{Trees}
use Rattle.c_core_rules.specs.Trees.{block}
use Rattle.c_core_rules.specs.Cells.{Taken}
use Rattle.c_core_rules.specs.Cells as core
use Rattle.c_core_rules.specs.Expressions as rows
use Rattle.c_core_rules.specs.Statements as statement
use Rattle.c_core_sound.specs.Whole.{all_whole, whole_block_item}
use Rattle.c_core_sound.proofs.TypedValues.{PlaceFits, cell_fits, zero_typed}
use Rattle.c_core_sound.proofs.Fitting.{Ground, TreeFits, TreesFit, append_fits, block_fits}
use Rattle.c_core_sound.proofs.Fitting.{set_fits, Extends, Within, extends_both, within_before}
use Rattle.c_core_sound.proofs.Fitting.{extends_none, pushed, get_behind}
use Rattle.c_core_sound.proofs.Running.{Known, known_push, Below, below_push, below_higher, Runs}
use Rattle.c_core_sound.proofs.Running.{known_kept, runs_then, runs_gives, runs_weaker}
use Rattle.c_core_sound.proofs.FittingRows.{Begins}
use Rattle.c_core_sound.proofs.Sites.{SitesFit, FunctionsFit, functions_push}
use Rattle.c_core_sound.proofs.RunDeclarations.{Ready, taken_extends, taken_begins, begun_other}
use Rattle.c_core_sound.proofs.RunDeclarations.{apart_of}
use Rattle.c_core_sound.proofs.RunStatements.{Returns, items_walk, items_typed, items_rise}
use Rattle.c_core_sound.proofs.RunStatements.{items_run, all_run, no_more, two_steps}

-- the cell of the result, which starts at 0
pub record Results (G : Ground) (origin : ℕ) (K : Kind) (taken : Taken) : Type 0 where
  pub extends : Extends taken (statement.resulting origin K taken).taken
  pub keeps : (statement.resulting origin K taken).taken.starts ≡ taken.starts
  pub at : Within G.cells (statement.resulting origin K taken).taken →
      TreesFit G (statement.resulting origin K taken).made
      × (is_void_kind K ≡ false
      → PlaceFits G.cells (cell_at (object_type K) (length taken.cells)))

results : (G : Ground) (origin : ℕ) (K : Kind) (taken : Taken) → Results G origin K taken
results G origin Void taken = record {
  extends = extends_none taken;
  keeps = refl;
  at = λ w. (tt, λ so. absurd (cc));
}
results G origin (Value t) taken = record {
  extends = record { more = t ∷ []; is = pushed t taken };
  keeps = refl;
  at = λ w.
      let n = length taken.cells in
      let many : n ≡ length (types_of taken.cells) =
      sym (length-map taken.cells (λ (cell : Cell). cell.ty)) in
      let here : slice_get G.cells n ≡ Some t =
      ap (λ (ts : List IntType). slice_get ts n)
      (w.is ∙ ap (λ ts. ts ++ w.more) (pushed t taken))
      ∙ ap (slice_get ((types_of taken.cells ++ t ∷ []) ++ w.more)) many
      ∙ get_behind (types_of taken.cells) t w.more in
      let p = cell_fits G.cells t n here in
      ((set_fits G origin (cell_at t n) (Const t (pos 0)) p (zero_typed G.cells t), tt), λ so. p);
}

module _ (G : Ground) (frames : rows.Frames) (text : Text) (caller : ℕ) (K : Kind) where
  abbrev ReadyAt : Around → Type 0
  ReadyAt around = Ready G frames text K around

  -- a parameter takes its cell
  names_known : (around : Around) (object : Object) (name : Option Name)
      (starts : ℕ → Option ℕ) → Known G around.names starts → Begins G.cells object starts →
      Known G (elim name as (λ o. List Entry) [
        | None ↦ around.names
        | Some one ↦ around.names ++ local_entry one.bytes object ∷ []
      ]) starts
  names_known around object None starts k here = k
  names_known around object (Some name) starts k here =
      known_push G around.names (local_entry name.bytes object) starts k here

  names_below : (n : ℕ) (names : List Entry) (object : Object) (name : Option Name) →
      Below n names → object.number < n →
      Below n (elim name as (λ o. List Entry) [
        | None ↦ names
        | Some one ↦ names ++ local_entry one.bytes object ∷ []
      ])
  names_below n names object None below less = below
  names_below n names object (Some name) below less =
      below_push n names (local_entry name.bytes object) below less

  names_fit : (names : List Entry) (object : Object) (name : Option Name) →
      FunctionsFit G frames text names →
      FunctionsFit G frames text (elim name as (λ o. List Entry) [
        | None ↦ names
        | Some one ↦ names ++ local_entry one.bytes object ∷ []
      ])
  names_fit names object None fits = fits
  names_fit names object (Some name) fits =
      functions_push G frames text names (local_entry name.bytes object) fits (λ one is. tt)

  one_higher : (n : ℕ) → n ≤ n + 1
  one_higher n = omega arith

  parameter_runs : (around : Around) (parameter : Parameter) →
      Below around.objects around.names →
      Runs G (Unit {0}) around (receiving_behind text parameter around) (λ (first : ℕ). Unit {0})
      (core.taking (parameter_object text around.objects parameter) [])
  parameter_runs around parameter below =
      let object = parameter_object text around.objects parameter in record {
        extends = λ taken. taken_extends object [] taken;
        keeps = λ taken n side.
            begun_other around.objects n (length taken.cells) taken.starts
            (apart_of G frames text caller K around.objects n side);
        at = λ taken g k w. (
          tt,
          names_known around object parameter.name (core.taking object [] taken).taken.starts
              (known_kept G around.objects around.names taken.starts
              (core.taking object [] taken).taken.starts below
              (λ m less. begun_other around.objects m (length taken.cells) taken.starts
              (apart_of G frames text caller K around.objects m (inl less))) k)
              (taken_begins G object [] taken (omega arith) w),
        );
      }

  abbrev receiving_walk : List Parameter → Walk
  receiving_walk parameters = in_order (map (receiving text) parameters)

  parameters_rise : (around : Around) (parameters : List Parameter) →
      around.objects ≤ ((receiving_walk parameters).behind around).objects
  parameters_rise around [] = no_more around.objects
  parameters_rise around (parameter ∷ parameters) =
      two_steps around.objects (around.objects + 1)
      ((receiving_walk parameters).behind (receiving_behind text parameter around)).objects
      (one_higher around.objects)
      (parameters_rise (receiving_behind text parameter around) parameters)

  parameter_ready : (around : Around) (parameter : Parameter) → ReadyAt around →
      ReadyAt (receiving_behind text parameter around)
  parameter_ready around parameter h =
      let object = parameter_object text around.objects parameter in record {
        functions = names_fit around.names object parameter.name h.functions;
        below = names_below (around.objects + 1) around.names object parameter.name
            (below_higher around.objects (around.objects + 1) around.names
            (one_higher around.objects) h.below) (omega arith);
        result = h.result;
      }

  parameters_ready : (around : Around) (parameters : List Parameter) → ReadyAt around →
      ReadyAt ((receiving_walk parameters).behind around)
  parameters_ready around [] h = h
  parameters_ready around (parameter ∷ parameters) h =
      parameters_ready (receiving_behind text parameter around) parameters
      (parameter_ready around parameter h)

  parameters_run : (around : Around) (parameters : List Parameter) → ReadyAt around →
      Runs G (Unit {0}) around ((receiving_walk parameters).behind around)
      (λ (u : Unit {0}). Unit {0})
      (statement.receiving (parameter_objects text around.objects parameters))
  parameters_run around [] h = runs_gives G around (λ (u : Unit {0}). Unit {0}) tt (λ g. tt)
  parameters_run around (parameter ∷ parameters) h =
      let behind = receiving_behind text parameter around in
      runs_then G around behind ((receiving_walk parameters).behind behind)
      (λ first. statement.receiving (parameter_objects text behind.objects parameters))
      (one_higher around.objects) (parameters_rise behind parameters)
      (parameter_runs around parameter h.below)
      (λ first. runs_weaker G (λ g. tt)
      (parameters_run behind parameters (parameter_ready around parameter h)))

  -- a function, behind the cell of its result
  abbrev place_of : ℕ → Location
  place_of first = cell_at (object_type K) first

  abbrev rest_rule : ℕ → ℕ → Trees → List Object → List TypedItem → core.Rule CoreTree
  rest_rule origin first before objects typed =
      core.then_by (statement.receiving objects) (λ u.
      core.then_by (core.in_order (map (statement.item_rule frames (place_of first)) typed))
      (λ inside. core.gives (block origin (before ++ inside))))

  abbrev pub last_of : Around → List Parameter → List BlockItem → Around
  last_of around parameters items =
      (items_walk G frames text caller K (place_of 0) items).behind
      ((receiving_walk parameters).behind around)

  pub function_rises : (around : Around) (parameters : List Parameter) (items : List BlockItem) →
      around.objects ≤ (last_of around parameters items).objects
  function_rises around parameters items =
      let mid = (receiving_walk parameters).behind around in
      two_steps around.objects mid.objects (last_of around parameters items).objects
      (parameters_rise around parameters)
      (items_rise G frames text caller K (place_of 0) items
      (all_run G frames text caller K (place_of 0) items) mid)

  rest_runs : (origin : ℕ) (around : Around) (parameters : List Parameter) (items : List BlockItem)
      (first : ℕ) (before : Trees) → ReadyAt around →
      SitesFit G text caller ((in_order (map walk_in (map (grown text) items))).sites
      ((receiving_walk parameters).behind around)) →
      all_whole (map whole_block_item items) ≡ true →
      Runs G (TreesFit G before × Returns G frames text caller K (place_of first)) around
      (last_of around parameters items) (TreeFits G)
      (rest_rule origin first before (parameter_objects text around.objects parameters)
      (items_typed G frames text caller K (place_of 0) items
      ((receiving_walk parameters).behind around)))
  rest_runs origin around parameters items first before h sites whole =
      let place = place_of first in
      let mid = (receiving_walk parameters).behind around in
      let last = last_of around parameters items in
      let all = all_run G frames text caller K place items in
      let typed = items_typed G frames text caller K place items mid in
      let inner_rule = core.in_order (map (statement.item_rule frames place) typed) in
      runs_then G around mid last
      (λ u. core.then_by inner_rule (λ inside. core.gives (block origin (before ++ inside))))
      (parameters_rise around parameters) (items_rise G frames text caller K place items all mid)
      (runs_weaker G (λ g. tt) (parameters_run around parameters h))
      (λ u. runs_then G mid last last (λ inside. core.gives (block origin (before ++ inside)))
      (items_rise G frames text caller K place items all mid) (no_more last.objects)
      (runs_weaker G (λ g. g.0.1) (items_run G frames text caller K place items all mid
      (parameters_ready around parameters h) sites whole))
      (λ inside. runs_gives G last (TreeFits G) (block origin (before ++ inside))
      (λ g. block_fits G origin (before ++ inside) (append_fits G before inside g.0.0.0 g.1))))

  pub function_runs : (around : Around) (parameters : List Parameter) (items : List BlockItem)
      (origin end : ℕ) → ReadyAt around →
      SitesFit G text caller ((in_order (map walk_in (map (grown text) items))).sites
      ((receiving_walk parameters).behind around)) →
      all_whole (map whole_block_item items) ≡ true →
      Runs G (Unit {0}) around (last_of around parameters items) (TreeFits G)
      (statement.function_rule frames (record {
        result = K;
        parameters = parameter_objects text around.objects parameters;
        items = items_typed G frames text caller K (place_of 0) items
            ((receiving_walk parameters).behind around);
        place = origin;
        end = end;
      }))
  function_runs around parameters items origin end h sites whole = record {
    extends = λ taken.
        let n = length taken.cells in
        let m = statement.resulting origin K taken in
        let rest = rest_runs origin around parameters items n m.made h sites whole in
        extends_both taken m.taken _ (results G origin K taken).extends (rest.extends m.taken);
    keeps = λ taken n side.
        let m = statement.resulting origin K taken in
        let rest = rest_runs origin around parameters items (length taken.cells) m.made h sites
        whole in
        rest.keeps m.taken n side
        ∙ ap (λ (starts : ℕ → Option ℕ). starts n) (results G origin K taken).keeps;
    at = λ taken g k w.
        let m = statement.resulting origin K taken in
        let rest = rest_runs origin around parameters items (length taken.cells) m.made h sites
        whole in
        let r = (results G origin K taken).at
        (within_before G.cells m.taken _ (rest.extends m.taken) w) in
        rest.at m.taken r (subst (Known G around.names) (sym (results G origin K taken).keeps) k) w;
  }
