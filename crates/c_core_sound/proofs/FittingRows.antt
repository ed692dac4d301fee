-- The rules of expressions make well typed trees and values, where the names in them stand for what
-- is there.
use Rattle.std.proofs.Common.{◌≡◌, ℕ, ℤ, ◌≤◌, Bool, true, List, [], ◌∷◌, ◌++◌, Option, Some}
use Rattle.std.proofs.Common.{ap, sym, subst}
use Rattle.std.specs.List.{AllByRecursion}
use Rattle.std.specs.Prelude.{is_some, unwrap_or}
use Rattle.cpa_ints.specs.declared.integers.IntType.{IntType}
use Rattle.cpa_ints.specs.declared.integers.IntType.TheVariants as ty
use Rattle.cpa_ints.specs.Integers.{IsInRange}
use Rattle.cpa_expr.specs.declared.tree.Expr.TheVariants.{Const}
use Rattle.cpa_expr.specs.declared.tree.Expr.{Expr}
use Rattle.cpa_expr.specs.Shape.{AreCells, IsTyped}
use Rattle.c_grammar_symbols.specs.declared.operators.BinaryOperator.{BinaryOperator}
use Rattle.c_grammar_symbols.specs.declared.operators.AssignmentOperator.{AssignmentOperator}
use Rattle.c_grammar_symbols.specs.declared.operators.StepOperator.{StepOperator}
use Rattle.c_grammar_tree.specs.declared.expression.UnaryOperator.{UnaryOperator}
use Rattle.c_types_rules.specs.declared.known.KnownFunction.{KnownFunction}
use Rattle.c_types_rules.specs.declared.known.KnownFunction.TheVariants as known
use Rattle.c_types_rules.specs.declared.meaning.Kind.{Kind}
use Rattle.c_types_rules.specs.declared.meaning.Kind.TheVariants.{Value}
use Rattle.c_types_rules.specs.declared.meaning.Object.{Object}
use Rattle.c_types_rules.specs.declared.meaning.Function.{Function}
use Rattle.c_types_rules.specs.declared.meaning.Meaning.TheVariants as meaning
use Rattle.c_types_rules.specs.Types.{object_type}
use Rattle.c_types_rules.specs.Known.{known_result}
use Rattle.c_types_rules.specs.Tables.{cells_of, operator_of}
use Rattle.cpa_model_trees.specs.declared.tree.Head.TheVariants as head
use Rattle.c_core_rules.specs.declared.tree.Location.{Location}
use Rattle.c_core_rules.specs.declared.tree.Place.{Place}
use Rattle.c_core_rules.specs.declared.tree.Place.TheVariants as place
use Rattle.c_core_rules.specs.declared.tree.Usage.{Usage}
use Rattle.c_core_rules.specs.declared.tree.Usage.TheVariants.{Used, Unused}
use Rattle.c_core_rules.specs.declared.tree.Valued.{Valued}
use Rattle.c_core_rules.specs.Values.{scalar, element, int, cell_at}
use Rattle.cpa_model_trees.specs.Numbering.{Trees}
use Rattle.c_core_rules.specs.Trees.{leaf, choice, valued, pure, input}
use Rattle.c_core_rules.specs.Cells.{Taken, location_in}
use Rattle.c_core_rules.specs.Cells as core
use Rattle.c_core_rules.specs.Acts as acts
use Rattle.c_core_rules.specs.Acts.{finished, kept_for, chosen_for}
use Rattle.c_core_rules.specs.Places as places
use Rattle.c_core_rules.specs.Places.{stepped_for}
use Rattle.c_core_rules.specs.Expressions as rows
use Rattle.c_core_rules.specs.Expressions.{scalar_target, element_target}
use Rattle.c_core_sound.proofs.TypedValues.{PlaceFits, first_fits, scalar_typed, element_typed}
use Rattle.c_core_sound.proofs.TypedValues.{conv_typed, one_typed, signed_typed, cell_below}
use Rattle.c_core_sound.proofs.TypedValues.{const_typed, zero_typed}
use Rattle.c_core_sound.proofs.Fitting.{Ground, World, TreesFit, append_fits, push_fits, leaf_fits}
use Rattle.c_core_sound.proofs.Fitting.{choice_fits, set_fits, Fits, fits_gives, fits_then}
use Rattle.c_core_sound.proofs.Fitting.{fits_weaker, fits_freshly, fits_at, EachFits, fits_each}
use Rattle.c_core_sound.proofs.FittingActs.{Good, AllGood, good, hold_all_fits, all_statements}
use Rattle.c_core_sound.proofs.FittingActs.{all_values, linked_fits, chosen_fits, dropped_fits}
use Rattle.c_core_sound.proofs.FittingActs.{fixed_if_fits, FitPlace, changed_fits, stepped_fits}

-- an object begins at a cell, and its cells are there
pub record Begins (cells : List IntType) (object : Object) (starts : ℕ → Option ℕ) : Type 0 where
  pub some : 1 ≤ cells_of object
  pub base : ℕ
  pub is : starts object.number ≡ Some base
  pub there : AreCells cells base (cells_of object) object.ty

-- wherever what is known is so
pub record ObjectFits (W : World) (object : Object) : Type 0 where
  pub begins : (starts : ℕ → Option ℕ) → W.knows starts → Begins W.ground.cells object starts

-- a function may be called here: its parameters are there, and its result is, where it has one
pub record FunctionFits (G : Ground) (frames : rows.Frames) (function : Function) : Type 0 where
  pub lands : G.lands (unwrap_or function.body 0)
  pub parameters : AllByRecursion (PlaceFits G.cells)
      (rows.frame_at frames (unwrap_or function.body 0)).parameters
  pub result : (t : IntType) → function.result ≡ Value t → PlaceFits G.cells (cell_at t
      (rows.frame_at frames (unwrap_or function.body 0)).result_cell.base)

-- wherever what is known is so
pub record MayCall (W : World) (frames : rows.Frames) (function : Function) : Type 0 where
  pub fits : (starts : ℕ → Option ℕ) → W.knows starts → FunctionFits W.ground frames function

-- what is assigned to is there
pub data TargetFits (W : World) : rows.Target → Type 0 where
  fit_scalar : (object : Object) → ObjectFits W object
      → TargetFits W (scalar_target (Some (meaning.Object object)))
  fit_element : (object : Object) {index : core.Rule Valued} → ObjectFits W object
      → Fits W (Unit {0}) (Good W) index
      → TargetFits W (element_target (Some (meaning.Object object)) index)

module _ (W : World) where
  abbrev pub GoodRule : core.Rule Valued → Type 0
  GoodRule rule = Fits W (Unit {0}) (Good W) rule

  abbrev pub TreesRule : core.Rule Trees → Type 0
  TreesRule rule = Fits W (Unit {0}) (TreesFit W.ground) rule

  -- where an object is
  pub located_fits : (object : Object) → ObjectFits W object → (taken : Taken) →
      W.knows taken.starts → PlaceFits W.ground.cells (location_in taken
      (Some (meaning.Object object)))
  located_fits object h taken k =
      let b = h.begins taken.starts k in record {
        some = b.some;
        there = subst (λ n. AreCells W.ground.cells n (cells_of object) object.ty)
            (sym (ap (λ (o : Option ℕ). unwrap_or o 0) b.is)) b.there;
      }

  scalar_at : (object : Object) → ObjectFits W object → (taken : Taken) →
      W.knows taken.starts →
      PlaceFits W.ground.cells (cell_at object.ty
      (location_in taken (Some (meaning.Object object))).base)
  scalar_at object h taken k =
      first_fits W.ground.cells (location_in taken (Some (meaning.Object object)))
      (located_fits object h taken k)

  -- what becomes of a value, by whether it is used

  unvalued_good : (statements : Trees) → TreesFit W.ground statements →
      Good W (acts.unvalued statements)
  unvalued_good statements h = good W statements (int 0) h (zero_typed W.ground.cells ty.I32)

  finished_fits : (origin : ℕ) (usage : Usage) (v : Valued) →
      Fits W (Good W v) (Good W) (finished origin usage v)
  unfolding finished
  finished_fits origin Used v = fits_gives W (Good W) v (λ g. g)
  finished_fits origin Unused v =
      fits_then W (λ statements. core.gives (acts.unvalued statements)) (dropped_fits W origin v)
      (λ statements. fits_gives W (Good W) (acts.unvalued statements)
      (λ g. unvalued_good statements g.1))

  pub finish_fits : (origin : ℕ) (usage : Usage) {r : core.Rule Valued} → GoodRule r →
      GoodRule (core.then_by r (finished origin usage))
  finish_fits origin usage h =
      fits_then W (finished origin usage) h
      (λ v. fits_weaker W (λ g. g.1) (finished_fits origin usage v))

  kept_good : (usage : Usage) (v : Valued) → Good W v → Good W (kept_for usage v)
  unfolding kept_for
  kept_good Used v h = h
  kept_good Unused v h = unvalued_good v.statements h.statements

  pub kept_rule : (usage : Usage) {r : core.Rule Valued} → GoodRule r → GoodRule (acts.kept usage r)
  kept_rule usage h =
      fits_then W (λ v. core.gives (kept_for usage v)) h
      (λ v. fits_gives W (Good W) (kept_for usage v) (λ g. kept_good usage v g.1))

  voided_good : (before : Trees) → TreesFit W.ground before → Good W (acts.voided Unused before)
  unfolding kept_for
  voided_good before h = unvalued_good before h

  pub only_fits : {r : core.Rule Valued} → GoodRule r → TreesRule (rows.only_statements r)
  only_fits h =
      fits_then W (λ v. core.gives v.statements) h
      (λ v. fits_gives W (TreesFit W.ground) v.statements (λ g. g.1.statements))

  -- names and elements
  pub name_fits : (object : Object) → ObjectFits W object →
      GoodRule (rows.name_used (Some (meaning.Object object)))
  name_fits object h =
      let found = Some (meaning.Object object) in
      fits_at W (λ taken. core.gives (pure (scalar (cell_at object.ty
      (location_in taken found).base))))
      (λ taken. fits_gives W (Good W) (pure (scalar (cell_at object.ty
      (location_in taken found).base)))
      (λ g. good W [] (scalar (cell_at object.ty (location_in taken found).base)) tt
      (scalar_typed W.ground.cells (cell_at object.ty (location_in taken found).base)
      (scalar_at object h taken g.1))))

  pub enumerator_fits : (n : ℤ) →
      ((starts : ℕ → Option ℕ) → W.knows starts → IsInRange ty.I32 n) →
      GoodRule (rows.name_used (Some (meaning.Enumerator n)))
  enumerator_fits n h =
      fits_at W (λ taken. core.gives (pure (Const ty.I32 n)))
      (λ taken. fits_gives W (Good W) (pure (Const ty.I32 n))
      (λ g. good W [] (Const ty.I32 n) tt
      (const_typed W.ground.cells ty.I32 n (h taken.starts g.1))))

  pub element_fits : (object : Object) → ObjectFits W object → {index : core.Rule Valued} →
      GoodRule index → GoodRule (rows.element_used (Some (meaning.Object object)) index)
  element_fits object h i =
      let found = Some (meaning.Object object) in
      fits_then W (λ i taken. core.gives
      (valued i.statements (element (location_in taken found) i.value)) taken) i
      (λ i. fits_at W (λ taken. core.gives
      (valued i.statements (element (location_in taken found) i.value)))
      (λ taken. fits_gives W (Good W)
      (valued i.statements (element (location_in taken found) i.value))
      (λ g. good W i.statements (element (location_in taken found) i.value) g.0.1.statements
      (element_typed W.ground.cells (location_in taken found) i.value
      (located_fits object h taken g.1)
      g.0.1.value))))

  -- assignments
  placed_fits : (origin : ℕ) (fixes : Bool) {target : rows.Target} → TargetFits W target →
      Fits W (Unit {0}) (FitPlace W) (rows.placed origin fixes target)
  placed_fits origin fixes (fit_scalar object h) =
      let found = Some (meaning.Object object) in
      fits_at W (λ taken. core.gives (place.Scalar (cell_at object.ty
      (location_in taken found).base)))
      (λ taken. fits_gives W (FitPlace W) (place.Scalar (cell_at object.ty
      (location_in taken found).base)) (λ g. scalar_at object h taken g.1))
  placed_fits origin fixes (fit_element object h i) =
      let found = Some (meaning.Object object) in
      fits_then W (λ i. core.then_by (places.fixed_if origin fixes i) (λ kept. core.then_by
      (core.located found) (λ location. core.gives (place.Element location kept)))) i
      (λ i. fits_then W (λ kept. core.then_by (core.located found)
      (λ location. core.gives (place.Element location kept)))
      (fits_weaker W (λ g. g.1) (fixed_if_fits W origin fixes i))
      (λ kept. fits_at W (λ taken. core.gives (place.Element (location_in taken found) kept))
      (λ taken. fits_gives W (FitPlace W) (place.Element (location_in taken found) kept)
      (λ g. (located_fits object h taken g.1, g.0.1)))))

  pub assigning_fits : (origin : ℕ) (keeps : Bool) (operator : AssignmentOperator)
      {target : rows.Target}
      {right : core.Rule Valued} → TargetFits W target → GoodRule right →
      GoodRule (rows.assigning origin keeps operator target right)
  assigning_fits origin keeps operator {right = right} target h =
      fits_then W (λ where_to. core.then_by right
      (λ v. places.changed origin keeps (operator_of operator) where_to v))
      (placed_fits origin (is_some (operator_of operator)) target)
      (λ where_to. fits_then W (λ v. places.changed origin keeps (operator_of operator) where_to v)
      (fits_weaker W (λ g. tt) h)
      (λ v. fits_weaker W (λ g. (g.0.1, g.1)) (changed_fits W origin keeps (operator_of operator)
      where_to
      v)))

  pub incrementing_fits : (origin : ℕ) (operator : StepOperator) {target : rows.Target} →
      TargetFits W target →
      GoodRule (rows.incrementing origin operator target)
  incrementing_fits origin operator target =
      fits_then W (places.incremented origin operator) (placed_fits origin true target)
      (λ where_to. fits_weaker W (λ g. (g.1, good W [] (int 1) tt (one_typed W.ground.cells)))
      (changed_fits W origin true (Some (places.step_operator operator)) where_to (pure (int 1))))

  stepped_for_fits : (origin : ℕ) (usage : Usage) (operator : StepOperator) (where_to : Place) →
      Fits W (FitPlace W where_to) (Good W) (stepped_for origin usage operator where_to)
  unfolding stepped_for
  stepped_for_fits origin Used operator where_to = stepped_fits W origin operator where_to
  stepped_for_fits origin Unused operator where_to =
      fits_then W (λ v. core.gives (kept_for Unused v))
      (fits_weaker W (λ g. (g, good W [] (int 1) tt (one_typed W.ground.cells)))
      (changed_fits W origin true (Some (places.step_operator operator)) where_to (pure (int 1))))
      (λ v. fits_gives W (Good W) (kept_for Unused v) (λ g. kept_good Unused v g.1))

  pub stepping_fits : (origin : ℕ) (usage : Usage) (operator : StepOperator)
      {target : rows.Target} → TargetFits W target →
      GoodRule (rows.stepping origin usage operator target)
  stepping_fits origin usage operator target =
      fits_then W (stepped_for origin usage operator) (placed_fits origin true target)
      (λ where_to. fits_weaker W (λ g. g.1) (stepped_for_fits origin usage operator where_to))

  -- calls
  passed_fit : (origin : ℕ) (where_to : List Location) (values : List Expr) →
      AllByRecursion (PlaceFits W.ground.cells) where_to → AllByRecursion (IsTyped W.ground.cells)
      values →
      TreesFit W.ground (rows.passed origin where_to values)
  passed_fit origin [] values h k = tt
  passed_fit origin (p ∷ where_to) [] h k = tt
  passed_fit origin (p ∷ where_to) (v ∷ values) h k =
      (set_fits W.ground origin p v h.0 k.0, passed_fit origin where_to values h.1 k.1)

  call_trees : (origin : ℕ) (frames : rows.Frames) (function : Function) →
      FunctionFits W.ground frames function
      →
      (operands : List Valued) → AllGood W operands →
      TreesFit W.ground (rows.called_with origin frames function operands).statements
  call_trees origin frames function f operands h =
      let body = unwrap_or function.body 0 in
      let writes = rows.passed origin (rows.frame_at frames body).parameters
      (acts.values_of operands) in
      append_fits W.ground (acts.statements_of operands)
      (writes ++ leaf origin (head.Call body) ∷ [])
      (all_statements W operands h)
      (push_fits W.ground writes (leaf origin (head.Call body))
      (passed_fit origin (rows.frame_at frames body).parameters (acts.values_of operands)
      f.parameters
      (all_values W operands h)) (leaf_fits W.ground origin (head.Call body) f.lands))

  -- of a call that has a value
  called_good : (origin : ℕ) (frames : rows.Frames) (function : Function) →
      FunctionFits W.ground frames function
      →
      (t : IntType) → function.result ≡ Value t → (operands : List Valued) → AllGood W operands →
      Good W (rows.called_with origin frames function operands)
  called_good origin frames function f t is operands h = record {
    statements = call_trees origin frames function f operands h;
    value =
        let base = (rows.frame_at frames (unwrap_or function.body 0)).result_cell.base in
        scalar_typed W.ground.cells (cell_at (object_type function.result) base)
        (subst (λ (kind : Kind). PlaceFits W.ground.cells (cell_at (object_type kind) base))
        (sym is)
        (f.result t is));
  }

  pub called_fits : (origin : ℕ) (frames : rows.Frames) (function : Function) →
      MayCall W frames function →
      (t : IntType) → function.result ≡ Value t → {rules : List (core.Rule Valued)} →
      EachFits W (Unit {0}) (Good W) rules → GoodRule (rows.called origin frames function rules)
  called_fits origin frames function f t is all =
      fits_then W (λ vs. core.then_by (acts.hold_all origin vs)
      (λ operands. core.gives (rows.called_with origin frames function operands)))
      (fits_each W (Unit {0}) (Good W) all)
      (λ vs. fits_then W (λ operands. core.gives (rows.called_with origin frames function operands))
      (fits_weaker W (λ g. g.1) (hold_all_fits W origin vs))
      (λ operands. fits_at W (λ taken. core.gives
      (rows.called_with origin frames function operands))
      (λ taken. fits_gives W (Good W) (rows.called_with origin frames function operands)
      (λ g. called_good origin frames function (f.fits taken.starts g.1) t is operands g.0.1))))

  pub called_unused_fits : (origin : ℕ) (frames : rows.Frames) (function : Function) →
      MayCall W frames function → {rules : List (core.Rule Valued)} →
      EachFits W (Unit {0}) (Good W) rules →
      GoodRule (acts.kept Unused (rows.called origin frames function rules))
  unfolding kept_for
  called_unused_fits origin frames function f all =
      let made = λ (v : Valued). TreesFit W.ground v.statements in
      fits_then W (λ v. core.gives (kept_for Unused v))
      (fits_then W (λ vs. core.then_by (acts.hold_all origin vs)
      (λ operands. core.gives (rows.called_with origin frames function operands)))
      (fits_each W (Unit {0}) (Good W) all)
      (λ vs. fits_then W (λ operands. core.gives (rows.called_with origin frames function operands))
      (fits_weaker W (λ g. g.1) (hold_all_fits W origin vs))
      (λ operands. fits_at W (λ taken. core.gives
      (rows.called_with origin frames function operands))
      (λ taken. fits_gives W made (rows.called_with origin frames function operands)
      (λ g. call_trees origin frames function (f.fits taken.starts g.1) operands g.0.1)))))
      (λ v. fits_gives W (Good W) (kept_for Unused v) (λ g. unvalued_good v.statements g.1))

  taken_in_fits : (origin : ℕ) (function : KnownFunction) → GoodRule (rows.taken_in origin function)
  taken_in_fits origin function =
      fits_freshly W (Good W) (object_type (known_result function))
      (λ t. valued (input origin t.base ∷ []) (scalar t))
      (λ t g p is. good W (input origin t.base ∷ []) (scalar t)
      (leaf_fits W.ground origin (head.Input t.base) (cell_below W.ground.cells t p), tt)
      (scalar_typed W.ground.cells t p))

  stop_fits : (origin : ℕ) →
      GoodRule (core.gives (acts.voided Unused (leaf origin head.Stop ∷ [])))
  stop_fits origin = fits_gives W (Good W) (acts.voided Unused (leaf origin head.Stop ∷ []))
      (λ g. voided_good (leaf origin head.Stop ∷ []) (leaf_fits W.ground origin head.Stop tt, tt))

  exit_fits : (origin : ℕ) {before : core.Rule Trees} → TreesRule before →
      GoodRule (core.then_by before (λ trees. core.gives (acts.voided Unused
      (trees ++ leaf origin head.Stop ∷ []))))
  exit_fits origin h =
      fits_then W (λ trees. core.gives (acts.voided Unused (trees ++ leaf origin head.Stop ∷ []))) h
      (λ trees. fits_gives W (Good W) (acts.voided Unused (trees ++ leaf origin head.Stop ∷ []))
      (λ g. voided_good (trees ++ leaf origin head.Stop ∷ [])
      (push_fits W.ground trees (leaf origin head.Stop) g.1
      (leaf_fits W.ground origin head.Stop tt))))

  first_fits_of : (rs : List rows.Rows) →
      AllByRecursion (λ (r : rows.Rows). GoodRule (r.rule Unused)) rs →
      TreesRule (rows.first_unused rs)
  first_fits_of [] h = fits_gives W (TreesFit W.ground) [] (λ g. tt)
  first_fits_of (r ∷ rs) h = only_fits h.0

  pub known_unused_fits : (origin : ℕ) (function : KnownFunction) (rs : List rows.Rows) →
      AllByRecursion (λ (r : rows.Rows). GoodRule (r.rule Unused)) rs →
      GoodRule (rows.known_called origin Unused function rs)
  known_unused_fits origin known.ReachError rs h =
      fits_gives W (Good W) (acts.voided Unused (leaf origin head.Error ∷ []))
      (λ g. voided_good (leaf origin head.Error ∷ []) (leaf_fits W.ground origin head.Error tt, tt))
  known_unused_fits origin known.Abort rs h = stop_fits origin
  known_unused_fits origin known.AssertFail rs h = stop_fits origin
  known_unused_fits origin known.Exit rs h = exit_fits origin (first_fits_of rs h)
  known_unused_fits origin (known.Input t) rs h =
      kept_rule Unused (taken_in_fits origin (known.Input t))

  -- of a known function that has a value
  pub known_used_fits : (origin : ℕ) (function : KnownFunction) (rs : List rows.Rows)
      (t : IntType) →
      known_result function ≡ Value t → GoodRule (rows.known_called origin Used function rs)
  known_used_fits origin known.ReachError rs t is = absurd (cc)
  known_used_fits origin known.Abort rs t is = absurd (cc)
  known_used_fits origin known.AssertFail rs t is = absurd (cc)
  known_used_fits origin known.Exit rs t is = absurd (cc)
  known_used_fits origin (known.Input u) rs t is =
      kept_rule Used (taken_in_fits origin (known.Input u))

  -- chains, commas, conditionals
  pub linking_fits : (origin : ℕ) (operator : BinaryOperator) {left right : core.Rule Valued} →
      GoodRule left →
      GoodRule right →
      GoodRule (core.then_by left (λ v. core.then_by right (λ w. acts.linked origin operator v w)))
  linking_fits origin operator {right = right} h k =
      fits_then W (λ v. core.then_by right (λ w. acts.linked origin operator v w)) h
      (λ v. fits_then W (λ w. acts.linked origin operator v w) (fits_weaker W (λ g. tt) k)
      (λ w. fits_weaker W (λ g. (g.0.1, g.1)) (linked_fits W origin operator v w)))

  pub behind_fits : {before : core.Rule Trees} {last : core.Rule Valued} → TreesRule before →
      GoodRule last →
      GoodRule (core.then_by before (λ trees. core.then_by last (λ v.
      core.gives (valued (trees ++ v.statements) v.value))))
  behind_fits {last = last} h k =
      fits_then W (λ trees. core.then_by last (λ v.
      core.gives (valued (trees ++ v.statements) v.value))) h
      (λ trees. fits_then W (λ v. core.gives (valued (trees ++ v.statements) v.value))
      (fits_weaker W (λ g. tt) k)
      (λ v. fits_gives W (Good W) (valued (trees ++ v.statements) v.value)
      (λ g. good W (trees ++ v.statements) v.value
      (append_fits W.ground trees v.statements g.0.1 g.1.statements) g.1.value)))

  chosen_for_fits : (origin : ℕ) (usage ends : Usage) (test first second : Valued) →
      Fits W (Good W test × Good W first × Good W second) (Good W)
      (chosen_for origin usage ends test first second)
  unfolding chosen_for
  chosen_for_fits origin usage Used test first second =
      fits_then W (finished origin usage) (chosen_fits W origin test first second)
      (λ v. fits_weaker W (λ g. g.1) (finished_fits origin usage v))
  chosen_for_fits origin usage Unused test first second =
      let tree = choice origin test.value first.statements second.statements in
      fits_gives W (Good W) (acts.unvalued (test.statements ++ tree ∷ []))
      (λ g. unvalued_good (test.statements ++ tree ∷ [])
      (push_fits W.ground test.statements tree g.0.statements
      (choice_fits W.ground origin test.value first.statements second.statements g.0.value
      g.1.statements g.2.statements)))

  pub conditional_fits : (origin : ℕ) (usage ends : Usage)
      {test first second : core.Rule Valued} → GoodRule test → GoodRule first → GoodRule second →
      GoodRule (core.then_by test (λ v. core.then_by first (λ a. core.then_by second (λ b.
      chosen_for origin usage ends v a b))))
  conditional_fits origin usage ends {first = first} {second = second} h k l =
      fits_then W (λ v. core.then_by first
      (λ a. core.then_by second (λ b. chosen_for origin usage ends v a b))) h
      (λ v. fits_then W (λ a. core.then_by second (λ b. chosen_for origin usage ends v a b))
      (fits_weaker W (λ g. tt) k)
      (λ a. fits_then W (λ b. chosen_for origin usage ends v a b) (fits_weaker W (λ g. tt) l)
      (λ b. fits_weaker W (λ g. (g.0.0.1, g.0.1, g.1))
      (chosen_for_fits origin usage ends v a b))))

  -- an expression that is made void, where its value is not used
  pub void_fits : {r : core.Rule Valued} → GoodRule r →
      GoodRule (core.then_by (rows.only_statements r)
      (λ before. core.gives (acts.voided Unused before)))
  void_fits h =
      fits_then W (λ before. core.gives (acts.voided Unused before)) (only_fits h)
      (λ before. fits_gives W (Good W) (acts.voided Unused before) (λ g. voided_good before g.1))

  pub cast_fits : (t : IntType) {r : core.Rule Valued} → GoodRule r →
      GoodRule (core.then_by r (λ v. core.gives (acts.cast_to t v)))
  cast_fits t h =
      fits_then W (λ v. core.gives (acts.cast_to t v)) h
      (λ v. fits_gives W (Good W) (acts.cast_to t v) (λ g. record {
        statements = g.1.statements;
        value = conv_typed W.ground.cells v.value t g.1.value;
      }))

  pub signed_fits : (operator : UnaryOperator) {r : core.Rule Valued} → GoodRule r →
      GoodRule (core.then_by r (λ v. core.gives (acts.signed operator v)))
  signed_fits operator h =
      fits_then W (λ v. core.gives (acts.signed operator v)) h
      (λ v. fits_gives W (Good W) (acts.signed operator v) (λ g. record {
        statements = g.1.statements;
        value = signed_typed W.ground.cells operator v.value g.1.value;
      }))
