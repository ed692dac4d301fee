-- The rules on values and of assignments make well typed trees and values of such ones.
use Rattle.std.proofs.Common.{ℕ, Bool, if◌then◌else◌, ◌&&◌, List, [], ◌∷◌, ◌++◌, Option, None, Some}
use Rattle.std.specs.List.{AllByRecursion}
use Rattle.cpa_ints.specs.declared.integers.IntType.TheVariants as ty
use Rattle.cpa_ints.specs.Conversions.{common_type}
use Rattle.cpa_expr.specs.declared.tree.Expr.{Expr}
use Rattle.cpa_expr.specs.declared.tree.Expr.TheVariants as expr
use Rattle.cpa_expr.specs.Shape.{type_of, IsTyped}
use Rattle.c_grammar_symbols.specs.declared.operators.BinaryOperator.{BinaryOperator}
use Rattle.c_grammar_symbols.specs.declared.operators.BinaryOperator.TheVariants as binary
use Rattle.c_grammar_symbols.specs.declared.operators.StepOperator.{StepOperator}
use Rattle.c_core_rules.specs.declared.tree.Location.{Location}
use Rattle.c_core_rules.specs.declared.tree.Place.{Place}
use Rattle.c_core_rules.specs.declared.tree.Place.TheVariants as place
use Rattle.c_core_rules.specs.declared.tree.Valued.{Valued}
use Rattle.c_core_rules.specs.Values.{is_constant, scalar, element, first_index, truth_of, int}
use Rattle.c_core_rules.specs.Values.{chosen_value}
use Rattle.cpa_model_trees.specs.Numbering.{Trees}
use Rattle.c_core_rules.specs.Trees.{choice, valued, pure, set, write}
use Rattle.c_core_rules.specs.Cells as core
use Rattle.c_core_rules.specs.Acts as acts
use Rattle.c_core_rules.specs.Places as places
use Rattle.c_core_sound.proofs.TypedValues.{PlaceFits, and_typed, or_typed, operator_typed}
use Rattle.c_core_sound.proofs.TypedValues.{truth_typed, chosen_typed, element_typed, scalar_typed}
use Rattle.c_core_sound.proofs.TypedValues.{zero_typed, one_typed}
use Rattle.c_core_sound.proofs.Fitting.{World, TreesFit, append_fits, push_fits, choice_fits}
use Rattle.c_core_sound.proofs.Fitting.{write_fits, set_fits, Fits, fits_gives, fits_then}
use Rattle.c_core_sound.proofs.Fitting.{fits_weaker, fits_either, fits_freshly}

-- a value behind statements, all well typed
pub record Good (W : World) (v : Valued) : Type 0 where
  pub statements : TreesFit W.ground v.statements
  pub value : IsTyped W.ground.cells v.value

abbrev pub AllGood : World → List Valued → Type 0
AllGood W vs = AllByRecursion (Good W) vs

module _ (W : World) where
  pub good : (statements : Trees) (v : Expr) → TreesFit W.ground statements → IsTyped W.ground.cells
      v →
      Good W (valued statements v)
  good statements v h k = record { statements = h; value = k }

  -- held in a cell
  held_good : (origin : ℕ) (v : Valued) (t : Location) → Good W v → PlaceFits W.ground.cells t →
      Good W (valued (v.statements ++ set origin t v.value ∷ []) (scalar t))
  held_good origin v t h p =
      good (v.statements ++ set origin t v.value ∷ []) (scalar t)
      (push_fits W.ground v.statements (set origin t v.value) h.statements
      (set_fits W.ground origin t v.value p h.value))
      (scalar_typed W.ground.cells t p)

  pub held_fits : (origin : ℕ) (v : Valued) → Fits W (Good W v) (Good W) (acts.held origin v)
  held_fits origin v =
      fits_freshly W (Good W) (type_of v.value)
      (λ t. valued (v.statements ++ set origin t v.value ∷ []) (scalar t))
      (λ t h p is. held_good origin v t h p)

  pub kept_fits : (v : Valued) → Fits W (Good W v) (Good W) (core.gives v)
  kept_fits v = fits_gives W (Good W) v (λ h. h)

  pub held_before_fits : (origin : ℕ) (v later : Valued) →
      Fits W (Good W v) (Good W) (acts.held_before origin v later)
  held_before_fits origin v later =
      fits_either W (acts.is_pure later) (core.gives v) (acts.held origin v) (kept_fits v)
      (held_fits origin v)

  pub hold_all_fits : (origin : ℕ) (vs : List Valued) →
      Fits W (AllGood W vs) (AllGood W) (acts.hold_all origin vs)
  hold_all_fits origin [] = fits_gives W (AllGood W) [] (λ h. tt)
  hold_all_fits origin (v ∷ vs) =
      fits_then W (λ first. core.then_by (acts.hold_all origin vs)
      (λ rest. core.gives (first ∷ rest)))
      (fits_weaker W (λ h. h.0)
      (fits_either W (acts.have_statements vs) (acts.held origin v) (core.gives v)
      (held_fits origin v)
      (kept_fits v)))
      (λ x. fits_then W (λ rest. core.gives (x ∷ rest))
      (fits_weaker W (λ h. h.0.1) (hold_all_fits origin vs))
      (λ xs. fits_gives W (AllGood W) (x ∷ xs) (λ h. (h.0.1, h.1))))

  pub all_statements : (vs : List Valued) → AllGood W vs → TreesFit W.ground (acts.statements_of vs)
  all_statements [] h = tt
  all_statements (v ∷ vs) h =
      append_fits W.ground v.statements (acts.statements_of vs) h.0.statements
      (all_statements vs h.1)

  pub all_values : (vs : List Valued) → AllGood W vs →
      AllByRecursion (IsTyped W.ground.cells) (acts.values_of vs)
  all_values [] h = tt
  all_values (v ∷ vs) h = (h.0.value, all_values vs h.1)

  -- S1, if (v1) { first } else { second }, and then a cell
  choice_good : (origin : ℕ) (left : Valued) (first second : Trees) (t : Location) → Good W left →
      TreesFit W.ground first → TreesFit W.ground second → PlaceFits W.ground.cells t →
      Good W (valued (left.statements ++ choice origin left.value first second ∷ []) (scalar t))
  choice_good origin left first second t h a b p =
      good (left.statements ++ choice origin left.value first second ∷ []) (scalar t)
      (push_fits W.ground left.statements (choice origin left.value first second) h.statements
      (choice_fits W.ground origin left.value first second h.value a b))
      (scalar_typed W.ground.cells t p)

  logical_fits : (origin : ℕ) (left right : Valued) (simple : Expr) (first second : Location →
      Trees) →
      (Good W left → Good W right → IsTyped W.ground.cells simple) →
      ((t : Location) → Good W right → PlaceFits W.ground.cells t → TreesFit W.ground (first t)) →
      ((t : Location) → Good W right → PlaceFits W.ground.cells t → TreesFit W.ground (second t)) →
      Fits W (Good W left × Good W right) (Good W)
      (if acts.is_pure right then core.gives (valued left.statements simple)
      else core.then_by (core.fresh ty.I32) (λ t. core.gives
      (valued (left.statements ++ choice origin left.value (first t) (second t) ∷ []) (scalar t))))
  logical_fits origin left right simple first second typed a b =
      let made = λ (t : Location).
      valued (left.statements ++ choice origin left.value (first t) (second t) ∷ []) (scalar t) in
      fits_either W (acts.is_pure right) (core.gives (valued left.statements simple))
      (core.then_by (core.fresh ty.I32) (λ t. core.gives (made t)))
      (fits_gives W (Good W) (valued left.statements simple)
      (λ h. good left.statements simple h.0.statements (typed h.0 h.1)))
      (fits_freshly W (Good W) ty.I32 made
      (λ t h p is. choice_good origin left (first t) (second t) t h.0 (a t h.1 p) (b t h.1 p) p))

  -- t := !!v
  truth_set : (origin : ℕ) (right : Valued) (t : Location) → Good W right →
      PlaceFits W.ground.cells t →
      TreesFit W.ground (right.statements ++ set origin t (truth_of right.value) ∷ [])
  truth_set origin right t h p =
      push_fits W.ground right.statements (set origin t (truth_of right.value)) h.statements
      (set_fits W.ground origin t (truth_of right.value) p (truth_typed W.ground.cells right.value
      h.value))

  pub operated_good : (operator : BinaryOperator) (left right : Valued) → Good W left →
      Good W right → Good W (acts.operated operator left right)
  operated_good operator left right h k = record {
    statements =
        append_fits W.ground left.statements right.statements h.statements k.statements;
    value = operator_typed W.ground.cells operator left.value right.value h.value k.value;
  }

  operands_fit : (origin : ℕ) (operator : BinaryOperator) (left right : Valued) →
      Fits W (Good W left × Good W right) (Good W)
      (core.then_by (acts.held_before origin left right)
      (λ first. core.gives (acts.operated operator first right)))
  operands_fit origin operator left right =
      fits_then W (λ first. core.gives (acts.operated operator first right))
      (fits_weaker W (λ h. h.0) (held_before_fits origin left right))
      (λ v. fits_gives W (Good W) (acts.operated operator v right)
      (λ h. operated_good operator v right h.1 h.0.1))

  pub linked_fits : (origin : ℕ) (operator : BinaryOperator) (left right : Valued) →
      Fits W (Good W left × Good W right) (Good W) (acts.linked origin operator left right)
  linked_fits origin binary.LogicalAnd left right =
      logical_fits origin left right (expr.And left.value right.value)
      (λ t. right.statements ++ set origin t (truth_of right.value) ∷ [])
      (λ t. set origin t (int 0) ∷ [])
      (λ h k. and_typed W.ground.cells left.value right.value h.value k.value)
      (λ t h p. truth_set origin right t h p)
      (λ t h p. (set_fits W.ground origin t (int 0) p (zero_typed W.ground.cells ty.I32), tt))
  linked_fits origin binary.LogicalOr left right =
      logical_fits origin left right (expr.Or left.value right.value)
      (λ t. set origin t (int 1) ∷ [])
      (λ t. right.statements ++ set origin t (truth_of right.value) ∷ [])
      (λ h k. or_typed W.ground.cells left.value right.value h.value k.value)
      (λ t h p. (set_fits W.ground origin t (int 1) p (one_typed W.ground.cells), tt))
      (λ t h p. truth_set origin right t h p)
  linked_fits origin binary.BitOr left right = operands_fit origin binary.BitOr left right
  linked_fits origin binary.BitXor left right = operands_fit origin binary.BitXor left right
  linked_fits origin binary.BitAnd left right = operands_fit origin binary.BitAnd left right
  linked_fits origin binary.Equal left right = operands_fit origin binary.Equal left right
  linked_fits origin binary.NotEqual left right = operands_fit origin binary.NotEqual left right
  linked_fits origin binary.Less left right = operands_fit origin binary.Less left right
  linked_fits origin binary.Greater left right = operands_fit origin binary.Greater left right
  linked_fits origin binary.LessEqual left right = operands_fit origin binary.LessEqual left right
  linked_fits origin binary.GreaterEqual left right =
      operands_fit origin binary.GreaterEqual left right
  linked_fits origin binary.ShiftLeft left right = operands_fit origin binary.ShiftLeft left right
  linked_fits origin binary.ShiftRight left right = operands_fit origin binary.ShiftRight left right
  linked_fits origin binary.Add left right = operands_fit origin binary.Add left right
  linked_fits origin binary.Subtract left right = operands_fit origin binary.Subtract left right
  linked_fits origin binary.Multiply left right = operands_fit origin binary.Multiply left right
  linked_fits origin binary.Divide left right = operands_fit origin binary.Divide left right
  linked_fits origin binary.Remainder left right = operands_fit origin binary.Remainder left right

  pub chosen_fits : (origin : ℕ) (test first second : Valued) →
      Fits W (Good W test × Good W first × Good W second) (Good W)
      (acts.chosen origin test first second)
  chosen_fits origin test first second =
      let t = common_type (type_of first.value) (type_of second.value) in
      let pair = valued test.statements (chosen_value test.value first.value second.value) in
      let a = λ (place : Location). first.statements ++ set origin place first.value ∷ [] in
      let b = λ (place : Location). second.statements ++ set origin place second.value ∷ [] in
      let made = λ (place : Location).
      valued (test.statements ++ choice origin test.value (a place) (b place) ∷ []) (scalar place)
      in
      fits_either W (acts.is_pure first && acts.is_pure second) (core.gives pair)
      (acts.chosen_by origin t test first second)
      (fits_gives W (Good W) pair (λ h. good test.statements
      (chosen_value test.value first.value second.value) h.0.statements
      (chosen_typed W.ground.cells test.value first.value second.value h.0.value h.1.value
      h.2.value)))
      (fits_freshly W (Good W) t made
      (λ place h p is. choice_good origin test (a place) (b place) place h.0
      (push_fits W.ground first.statements (set origin place first.value) h.1.statements
      (set_fits W.ground origin place first.value p h.1.value))
      (push_fits W.ground second.statements (set origin place second.value) h.2.statements
      (set_fits W.ground origin place second.value p h.2.value)) p))

  pub dropped_fits : (origin : ℕ) (v : Valued) →
      Fits W (Good W v) (TreesFit W.ground) (acts.dropped_value origin v)
  dropped_fits origin v =
      fits_either W (is_constant v.value) (core.gives v.statements)
      (core.then_by (acts.held origin v) (λ kept. core.gives kept.statements))
      (fits_gives W (TreesFit W.ground) v.statements (λ h. h.statements))
      (fits_then W (λ kept. core.gives kept.statements) (held_fits origin v)
      (λ kept. fits_gives W (TreesFit W.ground) kept.statements (λ h. h.1.statements)))

  fixed_fits : (origin : ℕ) (index : Valued) →
      Fits W (Good W index) (Good W) (acts.fixed origin index)
  fixed_fits origin index =
      fits_either W (is_constant index.value) (core.gives index) (acts.held origin index)
      (kept_fits index) (held_fits origin index)

  -- assignments

  first_good : Good W (pure first_index)
  first_good = good [] first_index tt (zero_typed W.ground.cells ty.I32)

  written_good : (origin : ℕ) (location : Location) (index v : Valued) →
      PlaceFits W.ground.cells location →
      Good W index → Good W v → Good W (places.written origin location index v)
  written_good origin location index v p h k = record {
    statements = append_fits W.ground index.statements
        (v.statements ++ write origin location index.value v.value ∷ []) h.statements
        (push_fits W.ground v.statements (write origin location index.value v.value) k.statements
        (write_fits W.ground origin location index.value v.value p h.value k.value));
    value = element_typed W.ground.cells location index.value p h.value;
  }

  pub fixed_if_fits : (origin : ℕ) (fixes : Bool) (index : Valued) →
      Fits W (Good W index) (Good W) (places.fixed_if origin fixes index)
  fixed_if_fits origin fixes index =
      fits_either W fixes (acts.fixed origin index) (core.gives index) (fixed_fits origin index)
      (kept_fits index)

  pure_good : (v : Valued) → Good W v → Good W (pure v.value)
  pure_good v h = good [] v.value tt h.value

  set_element_fits : (origin : ℕ) (keeps : Bool) (location : Location) (index v : Valued) →
      Fits W (PlaceFits W.ground.cells location × Good W index × Good W v) (Good W)
      (places.set_element origin keeps location index v)
  set_element_fits origin keeps location index v =
      fits_then W (λ first. core.then_by (places.fixed_if origin keeps
      (valued (first.statements ++ v.statements) first.value))
      (λ kept. core.gives (places.written origin location kept (pure v.value))))
      (fits_weaker W (λ h. h.1) (held_before_fits origin index v))
      (λ first. fits_then W (λ kept. core.gives
      (places.written origin location kept (pure v.value)))
      (fits_weaker W (λ h. good (first.statements ++ v.statements) first.value
      (append_fits W.ground first.statements v.statements h.1.statements h.0.2.statements)
      h.1.value)
      (fixed_if_fits origin keeps (valued (first.statements ++ v.statements) first.value)))
      (λ kept. fits_gives W (Good W) (places.written origin location kept (pure v.value))
      (λ h. written_good origin location kept (pure v.value) h.0.0.0 h.1 (pure_good v h.0.0.2))))

  updated_at_fits : (origin : ℕ) (operator : BinaryOperator) (location : Location)
      (index v : Valued) →
      Fits W (PlaceFits W.ground.cells location × Good W index × Good W v) (Good W)
      (places.updated_at origin operator location index v)
  updated_at_fits origin operator location index v =
      fits_then W (λ old. core.gives (places.written origin location index
      (acts.operated operator old v)))
      (fits_weaker W (λ h. good [] (element location index.value) tt
      (element_typed W.ground.cells location index.value h.0 h.1.value))
      (held_before_fits origin (pure (element location index.value)) v))
      (λ old. fits_gives W (Good W) (places.written origin location index
      (acts.operated operator old v))
      (λ h. written_good origin location index (acts.operated operator old v) h.0.0 h.0.1
      (operated_good operator old v h.1 h.0.2)))

  -- a place that is there, whose index is well typed
  abbrev pub FitPlace : Place → Type 0
  FitPlace (place.Scalar location) = PlaceFits W.ground.cells location
  FitPlace (place.Element location index) = PlaceFits W.ground.cells location × Good W index
  FitPlace place.Neither = Unit {0}

  pub changed_fits : (origin : ℕ) (keeps : Bool) (operator : Option BinaryOperator)
      (where_to : Place)
      (v : Valued) →
      Fits W (FitPlace where_to × Good W v) (Good W)
      (places.changed origin keeps operator where_to v)
  changed_fits origin keeps None (place.Scalar location) v =
      fits_gives W (Good W) (places.set_scalar origin location v)
      (λ h. written_good origin location (pure first_index) v h.0 first_good h.1)
  changed_fits origin keeps None (place.Element location index) v =
      fits_weaker W (λ h. (h.0.0, h.0.1, h.1))
      (set_element_fits origin keeps location index v)
  changed_fits origin keeps None place.Neither v = fits_gives W (Good W) v (λ h. h.1)
  changed_fits origin keeps (Some operator) (place.Scalar location) v =
      fits_weaker W (λ h. (h.0, first_good, h.1))
      (updated_at_fits origin operator location (pure first_index) v)
  changed_fits origin keeps (Some operator) (place.Element location index) v =
      fits_weaker W (λ h. (h.0.0, h.0.1, h.1))
      (updated_at_fits origin operator location index v)
  changed_fits origin keeps (Some operator) place.Neither v = fits_gives W (Good W) v (λ h. h.1)

  stepped_at_fits : (origin : ℕ) (operator : StepOperator) (location : Location) (index : Valued) →
      Fits W (PlaceFits W.ground.cells location × Good W index) (Good W)
      (places.stepped_at origin operator location index)
  stepped_at_fits origin operator location index =
      let first = valued index.statements (element location index.value) in
      let next = places.step_operator operator in
      fits_then W (λ old. core.then_by (places.updated_at origin next location (pure index.value)
      (pure (int 1)))
      (λ new. core.gives (valued (old.statements ++ new.statements) old.value)))
      (fits_weaker W (λ h. good index.statements (element location index.value) h.1.statements
      (element_typed W.ground.cells location index.value h.0 h.1.value)) (held_fits origin first))
      (λ old. fits_then W
      (λ new. core.gives (valued (old.statements ++ new.statements) old.value))
      (fits_weaker W (λ h. (
        h.0.0,
        pure_good index h.0.1,
        good [] (int 1) tt
            (one_typed W.ground.cells),
      ))
      (updated_at_fits origin next location (pure index.value) (pure (int 1))))
      (λ new. fits_gives W (Good W) (valued (old.statements ++ new.statements) old.value)
      (λ h. good (old.statements ++ new.statements) old.value
      (append_fits W.ground old.statements new.statements h.0.1.statements h.1.statements)
      h.0.1.value)))

  pub stepped_fits : (origin : ℕ) (operator : StepOperator) (where_to : Place) →
      Fits W (FitPlace where_to) (Good W) (places.stepped origin operator where_to)
  stepped_fits origin operator (place.Scalar location) =
      fits_weaker W (λ h. (h, first_good))
      (stepped_at_fits origin operator location (pure first_index))
  stepped_fits origin operator (place.Element location index) =
      fits_weaker W (λ h. h) (stepped_at_fits origin operator location index)
  stepped_fits origin operator place.Neither =
      fits_gives W (Good W) (pure (int 0)) (λ h. good [] (int 0) tt
      (zero_typed W.ground.cells ty.I32))
