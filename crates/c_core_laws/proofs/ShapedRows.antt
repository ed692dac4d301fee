-- The rules of expressions make trees whose nodes have the parts of their heads.
use Rattle.std.proofs.Common.{ℕ, Bool, true, if◌then◌else◌, ◌&&◌, List, [], ◌∷◌, ◌++◌, map, Option}
use Rattle.std.proofs.Common.{None, Some, refl}
use Rattle.std.specs.List.{AllByRecursion}
use Rattle.std.specs.Prelude.{is_some, unwrap_or}
use Rattle.cpa_ints.specs.declared.integers.IntType.TheVariants as ty
use Rattle.cpa_ints.specs.Conversions.{common_type}
use Rattle.cpa_expr.specs.declared.tree.Expr.{Expr}
use Rattle.cpa_expr.specs.declared.tree.Expr.TheVariants as expr
use Rattle.cpa_expr.specs.Shape.{type_of}
use Rattle.c_grammar_symbols.specs.declared.operators.BinaryOperator.{BinaryOperator}
use Rattle.c_grammar_symbols.specs.declared.operators.BinaryOperator.TheVariants as binary
use Rattle.c_grammar_symbols.specs.declared.operators.AssignmentOperator.{AssignmentOperator}
use Rattle.c_grammar_symbols.specs.declared.operators.StepOperator.{StepOperator}
use Rattle.c_types_rules.specs.declared.known.KnownFunction.{KnownFunction}
use Rattle.c_types_rules.specs.declared.known.KnownFunction.TheVariants as known
use Rattle.c_types_rules.specs.declared.meaning.Kind.{Kind}
use Rattle.c_types_rules.specs.declared.meaning.Kind.TheVariants.{Void, Value}
use Rattle.c_types_rules.specs.declared.meaning.Function.{Function}
use Rattle.c_types_rules.specs.declared.meaning.Meaning.{Meaning}
use Rattle.c_types_rules.specs.declared.meaning.Meaning.TheVariants as meaning
use Rattle.c_types_rules.specs.Types.{object_type}
use Rattle.c_types_rules.specs.Known.{known_result}
use Rattle.c_types_rules.specs.declared.typed.TypedExpression.TheOpen.{TypedSuffix-F}
use Rattle.c_types_rules.specs.Tables.{operator_of}
use Rattle.cpa_model_trees.specs.declared.tree.Head.TheVariants as head
use Rattle.c_core_rules.specs.declared.tree.Location.{Location}
use Rattle.c_core_rules.specs.declared.tree.Place.{Place}
use Rattle.c_core_rules.specs.declared.tree.Place.TheVariants as place
use Rattle.c_core_rules.specs.declared.tree.Usage.{Usage}
use Rattle.c_core_rules.specs.declared.tree.Usage.TheVariants.{Used, Unused}
use Rattle.c_core_rules.specs.declared.tree.Valued.{Valued}
use Rattle.c_core_rules.specs.Values.{is_constant, scalar, element, first_index, truth_of, int}
use Rattle.c_core_rules.specs.Values.{cell_at, chosen_value}
use Rattle.cpa_model_trees.specs.Numbering.{Trees}
use Rattle.c_core_rules.specs.Trees.{leaf, choice, valued, pure, set, write, input}
use Rattle.c_core_rules.specs.Cells.{location_in}
use Rattle.c_core_rules.specs.Cells as core
use Rattle.c_core_rules.specs.Acts as acts
use Rattle.c_core_rules.specs.Acts.{finished, kept_for, chosen_for}
use Rattle.c_core_rules.specs.Places as places
use Rattle.c_core_rules.specs.Places.{stepped_for}
use Rattle.c_core_rules.specs.Expressions as rows
use Rattle.c_core_rules.specs.Expressions.{scalar_target, element_target, no_target}
use Rattle.cpa_model_trees.specs.declared.tree.CoreTree.{CoreTree}
use Rattle.cpa_model_trees.specs.declared.tree.Head.{Head}
use Rattle.cpa_model_trees.specs.Shapes.{HasParts}
use Rattle.c_core_laws.proofs.Shapes.{IsPlain, Makes, makes, makes_then, makes_either}
use Rattle.c_core_laws.proofs.Shapes.{makes_freshly, makes_at, makes_each, EachMakes, none_makes}
use Rattle.c_core_laws.proofs.Shapes.{more_make}
use Rattle.c_core_laws.proofs.Shapes as shapes
use Rattle.cpa_model_trees.specs.Shapes as trees
use Rattle.cpa_model_trees.specs.lemmas.Nodes as nodes

-- plain trees: the heads are plain

own : (h : Head) → IsPlain h → IsPlain h
own h is = is

abbrev pub Shaped : CoreTree → Type 0
Shaped t = trees.Shaped IsPlain t

abbrev pub AllShaped : Trees → Type 0
AllShaped trees = AllByRecursion Shaped trees

abbrev pub Good : Valued → Type 0
Good v = AllShaped v.statements

pub leaf_shaped : (origin : ℕ) (h : Head) → HasParts h 0 → IsPlain h → Shaped (leaf origin h)
leaf_shaped = shapes.leaf_shaped IsPlain own

pub set_shaped : (origin : ℕ) (place : Location) (v : Expr) → Shaped (set origin place v)
set_shaped = shapes.set_shaped IsPlain own

write_shaped : (origin : ℕ) (place : Location) (index v : Expr) →
    Shaped (write origin place index v)
write_shaped = shapes.write_shaped IsPlain own

choice_shaped : (origin : ℕ) (test : Expr) (first second : Trees) → AllShaped first →
    AllShaped second →
    Shaped (choice origin test first second)
choice_shaped = shapes.choice_shaped IsPlain own

pub append_shaped : (xs ys : Trees) → AllShaped xs → AllShaped ys → AllShaped (xs ++ ys)
append_shaped = nodes.append_shaped IsPlain

pub push_shaped : (xs : Trees) (t : CoreTree) → AllShaped xs → Shaped t → AllShaped (xs ++ t ∷ [])
push_shaped = nodes.push_shaped IsPlain

pub makes_ordered : {rules : List (core.Rule Trees)} → EachMakes AllShaped rules →
    Makes AllShaped (core.in_order rules)
makes_ordered h = shapes.makes_ordered AllShaped tt append_shaped h

-- acts

pub held_makes : (origin : ℕ) (v : Valued) → Good v → Makes Good (acts.held origin v)
held_makes origin v h =
    makes_freshly Good (type_of v.value)
    (λ t. valued (v.statements ++ set origin t v.value ∷ []) (scalar t))
    (λ t. push_shaped v.statements (set origin t v.value) h (set_shaped origin t v.value))

held_before_makes : (origin : ℕ) (v later : Valued) → Good v →
    Makes Good (acts.held_before origin v later)
held_before_makes origin v later h =
    makes_either (acts.is_pure later) (core.gives v) (acts.held origin v) (makes Good v h)
    (held_makes origin v h)

hold_all_makes : (origin : ℕ) (vs : List Valued) → AllByRecursion Good vs →
    Makes (AllByRecursion Good) (acts.hold_all origin vs)
hold_all_makes origin [] h = makes (AllByRecursion Good) [] tt
hold_all_makes origin (v ∷ vs) h =
    makes_then (λ first. core.then_by (acts.hold_all origin vs) (λ rest. core.gives (first ∷ rest)))
    (makes_either (acts.have_statements vs) (acts.held origin v) (core.gives v)
    (held_makes origin v h.0)
    (makes Good v h.0))
    (λ x is. makes_then (λ rest. core.gives (x ∷ rest)) (hold_all_makes origin vs h.1)
    (λ xs are. makes (AllByRecursion Good) (x ∷ xs) (is, are)))

all_statements : (vs : List Valued) → AllByRecursion Good vs → AllShaped (acts.statements_of vs)
all_statements [] h = tt
all_statements (v ∷ vs) h =
    append_shaped v.statements (acts.statements_of vs) h.0 (all_statements vs h.1)

-- S1, if (v1) { first } else { second }
pub chosen_shaped : (origin : ℕ) (before : Trees) (test : Expr) (first second : Trees) →
    AllShaped before →
    AllShaped first → AllShaped second → AllShaped (before ++ choice origin test first second ∷ [])
chosen_shaped origin before test first second a b c =
    push_shaped before (choice origin test first second) a
    (choice_shaped origin test first second b c)

logical_makes : (origin : ℕ) (left right : Valued) (simple : Expr) (first second : Location →
    Trees) →
    Good left →
    ((t : Location) → AllShaped (first t)) → ((t : Location) → AllShaped (second t)) →
    Makes Good (if acts.is_pure right then core.gives (valued left.statements simple)
    else core.then_by (core.fresh ty.I32) (λ t. core.gives
    (valued (left.statements ++ choice origin left.value (first t) (second t) ∷ []) (scalar t))))
logical_makes origin left right simple first second h a b =
    let made = λ (t : Location).
    valued (left.statements ++ choice origin left.value (first t) (second t) ∷ []) (scalar t) in
    makes_either (acts.is_pure right) (core.gives (valued left.statements simple))
    (core.then_by (core.fresh ty.I32) (λ t. core.gives (made t)))
    (makes Good (valued left.statements simple) h)
    (makes_freshly Good ty.I32 made
    (λ t. chosen_shaped origin left.statements left.value (first t) (second t) h (a t) (b t)))

operands_make : (origin : ℕ) (operator : BinaryOperator) (left right : Valued) → Good left →
    Good right →
    Makes Good (core.then_by (acts.held_before origin left right)
    (λ first. core.gives (acts.operated operator first right)))
operands_make origin operator left right h k =
    makes_then (λ first. core.gives (acts.operated operator first right))
    (held_before_makes origin left right h)
    (λ v is. makes Good (acts.operated operator v right)
    (append_shaped v.statements right.statements is k))

linked_makes : (origin : ℕ) (operator : BinaryOperator) (left right : Valued) → Good left →
    Good right →
    Makes Good (acts.linked origin operator left right)
linked_makes origin binary.LogicalAnd left right h k =
    logical_makes origin left right (expr.And left.value right.value)
    (λ t. right.statements ++ set origin t (truth_of right.value) ∷ [])
    (λ t. set origin t (int 0) ∷ []) h
    (λ t. push_shaped right.statements (set origin t (truth_of right.value)) k
    (set_shaped origin t (truth_of right.value)))
    (λ t. (set_shaped origin t (int 0), tt))
linked_makes origin binary.LogicalOr left right h k =
    logical_makes origin left right (expr.Or left.value right.value)
    (λ t. set origin t (int 1) ∷ [])
    (λ t. right.statements ++ set origin t (truth_of right.value) ∷ []) h
    (λ t. (set_shaped origin t (int 1), tt))
    (λ t. push_shaped right.statements (set origin t (truth_of right.value)) k
    (set_shaped origin t (truth_of right.value)))
linked_makes origin binary.BitOr left right h k = operands_make origin binary.BitOr left right h k
linked_makes origin binary.BitXor left right h k = operands_make origin binary.BitXor left right h k
linked_makes origin binary.BitAnd left right h k = operands_make origin binary.BitAnd left right h k
linked_makes origin binary.Equal left right h k = operands_make origin binary.Equal left right h k
linked_makes origin binary.NotEqual left right h k =
    operands_make origin binary.NotEqual left right h k
linked_makes origin binary.Less left right h k = operands_make origin binary.Less left right h k
linked_makes origin binary.Greater left right h k =
    operands_make origin binary.Greater left right h k
linked_makes origin binary.LessEqual left right h k =
    operands_make origin binary.LessEqual left right h k
linked_makes origin binary.GreaterEqual left right h k =
    operands_make origin binary.GreaterEqual left right h k
linked_makes origin binary.ShiftLeft left right h k =
    operands_make origin binary.ShiftLeft left right h k
linked_makes origin binary.ShiftRight left right h k =
    operands_make origin binary.ShiftRight left right h k
linked_makes origin binary.Add left right h k = operands_make origin binary.Add left right h k
linked_makes origin binary.Subtract left right h k =
    operands_make origin binary.Subtract left right h k
linked_makes origin binary.Multiply left right h k =
    operands_make origin binary.Multiply left right h k
linked_makes origin binary.Divide left right h k = operands_make origin binary.Divide left right h k
linked_makes origin binary.Remainder left right h k =
    operands_make origin binary.Remainder left right h k

chosen_makes : (origin : ℕ) (test first second : Valued) → Good test → Good first → Good second →
    Makes Good (acts.chosen origin test first second)
chosen_makes origin test first second h k l =
    let t = common_type (type_of first.value) (type_of second.value) in
    let pair = valued test.statements (chosen_value test.value first.value second.value) in
    let a = λ (place : Location). first.statements ++ set origin place first.value ∷ [] in
    let b = λ (place : Location). second.statements ++ set origin place second.value ∷ [] in
    let made = λ (place : Location).
    valued (test.statements ++ choice origin test.value (a place) (b place) ∷ []) (scalar place) in
    makes_either (acts.is_pure first && acts.is_pure second) (core.gives pair)
    (acts.chosen_by origin t test first second) (makes Good pair h)
    (makes_freshly Good t made
    (λ place. chosen_shaped origin test.statements test.value (a place) (b place) h
    (push_shaped first.statements (set origin place first.value) k
    (set_shaped origin place first.value))
    (push_shaped second.statements (set origin place second.value) l
    (set_shaped origin place second.value))))

dropped_makes : (origin : ℕ) (v : Valued) → Good v → Makes AllShaped (acts.dropped_value origin v)
dropped_makes origin v h =
    makes_either (is_constant v.value) (core.gives v.statements)
    (core.then_by (acts.held origin v) (λ kept. core.gives kept.statements))
    (makes AllShaped v.statements h)
    (makes_then (λ kept. core.gives kept.statements) (held_makes origin v h)
    (λ kept is. makes AllShaped kept.statements is))

fixed_makes : (origin : ℕ) (index : Valued) → Good index → Makes Good (acts.fixed origin index)
fixed_makes origin index h =
    makes_either (is_constant index.value) (core.gives index) (acts.held origin index)
    (makes Good index h) (held_makes origin index h)

-- assignments

written_good : (origin : ℕ) (place : Location) (index v : Valued) → Good index → Good v →
    Good (places.written origin place index v)
written_good origin place index v h k =
    append_shaped index.statements (v.statements ++ write origin place index.value v.value ∷ []) h
    (push_shaped v.statements (write origin place index.value v.value) k
    (write_shaped origin place index.value v.value))

fixed_if_makes : (origin : ℕ) (fixes : Bool) (index : Valued) → Good index →
    Makes Good (places.fixed_if origin fixes index)
fixed_if_makes origin fixes index h =
    makes_either fixes (acts.fixed origin index) (core.gives index) (fixed_makes origin index h)
    (makes Good index h)

set_element_makes : (origin : ℕ) (keeps : Bool) (place : Location) (index v : Valued) → Good index →
    Good v →
    Makes Good (places.set_element origin keeps place index v)
set_element_makes origin keeps place index v h k =
    makes_then (λ first. core.then_by (places.fixed_if origin keeps
    (valued (first.statements ++ v.statements) first.value))
    (λ kept. core.gives (places.written origin place kept (pure v.value))))
    (held_before_makes origin index v h)
    (λ first is. makes_then (λ kept. core.gives (places.written origin place kept (pure v.value)))
    (fixed_if_makes origin keeps (valued (first.statements ++ v.statements) first.value)
    (append_shaped first.statements v.statements is k))
    (λ kept so. makes Good (places.written origin place kept (pure v.value))
    (written_good origin place kept (pure v.value) so tt)))

updated_at_makes : (origin : ℕ) (operator : BinaryOperator) (place : Location) (index v : Valued) →
    Good index → Good v → Makes Good (places.updated_at origin operator place index v)
updated_at_makes origin operator place index v h k =
    makes_then (λ old. core.gives (places.written origin place index
    (acts.operated operator old v)))
    (held_before_makes origin (pure (element place index.value)) v tt)
    (λ old is. makes Good (places.written origin place index (acts.operated operator old v))
    (written_good origin place index (acts.operated operator old v) h
    (append_shaped old.statements v.statements is k)))

-- a place whose index has such trees
abbrev GoodPlace : Place → Type 0
GoodPlace (place.Scalar location) = Unit {0}
GoodPlace (place.Element location index) = Good index
GoodPlace place.Neither = Unit {0}

changed_makes : (origin : ℕ) (keeps : Bool) (operator : Option BinaryOperator) (where_to : Place)
    (v : Valued) →
    GoodPlace where_to → Good v → Makes Good (places.changed origin keeps operator where_to v)
changed_makes origin keeps None (place.Scalar location) v h k =
    makes Good (places.set_scalar origin location v)
    (written_good origin location (pure first_index) v tt k)
changed_makes origin keeps None (place.Element location index) v h k =
    set_element_makes origin keeps location index v h k
changed_makes origin keeps None place.Neither v h k = makes Good v k
changed_makes origin keeps (Some operator) (place.Scalar location) v h k =
    updated_at_makes origin operator location (pure first_index) v tt k
changed_makes origin keeps (Some operator) (place.Element location index) v h k =
    updated_at_makes origin operator location index v h k
changed_makes origin keeps (Some operator) place.Neither v h k = makes Good v k

stepped_at_makes : (origin : ℕ) (operator : StepOperator) (location : Location) (index : Valued) →
    Good index →
    Makes Good (places.stepped_at origin operator location index)
stepped_at_makes origin operator location index h =
    makes_then (λ old. core.then_by (places.updated_at origin (places.step_operator operator)
    location
    (pure index.value) (pure (int 1)))
    (λ new. core.gives (valued (old.statements ++ new.statements) old.value)))
    (held_makes origin (valued index.statements (element location index.value)) h)
    (λ old is. makes_then
    (λ new. core.gives (valued (old.statements ++ new.statements) old.value))
    (updated_at_makes origin (places.step_operator operator) location (pure index.value) (pure
    (int 1)) tt tt)
    (λ new so. makes Good (valued (old.statements ++ new.statements) old.value)
    (append_shaped old.statements new.statements is so)))

stepped_makes : (origin : ℕ) (operator : StepOperator) (where_to : Place) → GoodPlace where_to →
    Makes Good (places.stepped origin operator where_to)
stepped_makes origin operator (place.Scalar location) h = stepped_at_makes origin operator location
    (pure first_index) tt
stepped_makes origin operator (place.Element location index) h =
    stepped_at_makes origin operator location index h
stepped_makes origin operator place.Neither h = makes Good (pure (int 0)) tt

-- rows

pub data GoodTarget : rows.Target → Type 0 where
  good_scalar : (found : Option Meaning) → GoodTarget (scalar_target found)
  good_element : (found : Option Meaning) {index : core.Rule Valued} → Makes Good index
      → GoodTarget (element_target found index)
  good_none : GoodTarget no_target

pub record MakesRows (r : rows.Rows) : Type 0 where
  pub rule : (usage : Usage) → Makes Good (r.rule usage)
  pub target : GoodTarget r.target

placed_makes : (origin : ℕ) (fixes : Bool) {target : rows.Target} → GoodTarget target →
    Makes GoodPlace (rows.placed origin fixes target)
placed_makes origin fixes (good_scalar found) =
    makes_at (λ taken. core.gives (place.Scalar (cell_at (location_in taken found).ty
    (location_in taken found).base)))
    (λ taken. makes GoodPlace (place.Scalar (cell_at (location_in taken found).ty
    (location_in taken found).base)) tt)
placed_makes origin fixes (good_element found h) =
    makes_then (λ i. core.then_by (places.fixed_if origin fixes i) (λ kept. core.then_by
    (core.located found) (λ location. core.gives (place.Element location kept)))) h
    (λ i is. makes_then (λ kept. core.then_by (core.located found)
    (λ location. core.gives (place.Element location kept))) (fixed_if_makes origin fixes i is)
    (λ kept so. makes_at (λ taken. core.gives (place.Element (location_in taken found) kept))
    (λ taken. makes GoodPlace (place.Element (location_in taken found) kept) so)))
placed_makes origin fixes good_none = makes GoodPlace place.Neither tt

pub assigning_makes : (origin : ℕ) (keeps : Bool) (operator : AssignmentOperator)
    {target : rows.Target}
    {right : core.Rule Valued} → GoodTarget target → Makes Good right →
    Makes Good (rows.assigning origin keeps operator target right)
assigning_makes origin keeps operator {right = right} target h =
    makes_then (λ where_to. core.then_by right
    (λ v. places.changed origin keeps (operator_of operator) where_to v))
    (placed_makes origin (is_some (operator_of operator)) target)
    (λ where_to is. makes_then (λ v. places.changed origin keeps (operator_of operator) where_to v)
    h
    (λ v so. changed_makes origin keeps (operator_of operator) where_to v is so))

updated_makes : (origin : ℕ) (operator : BinaryOperator) (where_to : Place) (v : Valued) →
    GoodPlace where_to →
    Good v → Makes Good (places.updated origin operator where_to v)
updated_makes origin operator where_to v h k =
    changed_makes origin true (Some operator) where_to v h k

pub incrementing_makes : (origin : ℕ) (operator : StepOperator) {target : rows.Target} →
    GoodTarget target →
    Makes Good (rows.incrementing origin operator target)
incrementing_makes origin operator target =
    makes_then (places.incremented origin operator) (placed_makes origin true target)
    (λ where_to is. updated_makes origin (places.step_operator operator) where_to (pure (int 1)) is
    tt)

-- what becomes of a value, by whether it is used

finished_makes : (origin : ℕ) (usage : Usage) (v : Valued) → Good v →
    Makes Good (finished origin usage v)
unfolding finished
finished_makes origin Used v h = makes Good v h
finished_makes origin Unused v h =
    makes_then (λ statements. core.gives (acts.unvalued statements)) (dropped_makes origin v h)
    (λ statements is. makes Good (acts.unvalued statements) is)

finish_makes : (origin : ℕ) (usage : Usage) {r : core.Rule Valued} → Makes Good r →
    Makes Good (core.then_by r (finished origin usage))
finish_makes origin usage h =
    makes_then (finished origin usage) h (λ v is. finished_makes origin usage v is)

kept_good : (usage : Usage) (v : Valued) → Good v → Good (kept_for usage v)
unfolding kept_for
kept_good Used v h = h
kept_good Unused v h = h

pub kept_makes : (usage : Usage) {r : core.Rule Valued} → Makes Good r →
    Makes Good (acts.kept usage r)
kept_makes usage h =
    makes_then (λ v. core.gives (kept_for usage v)) h
    (λ v is. makes Good (kept_for usage v) (kept_good usage v is))

pub only_makes : {r : core.Rule Valued} → Makes Good r → Makes AllShaped (rows.only_statements r)
only_makes h = makes_then (λ v. core.gives v.statements) h (λ v is. makes AllShaped v.statements is)

voided_makes : (usage : Usage) (before : Trees) → AllShaped before →
    Makes Good (core.gives (acts.voided usage before))
voided_makes usage before h =
    makes Good (acts.voided usage before) (kept_good usage (valued before acts.no_value) h)

pub act_makes : {r : Usage → core.Rule Valued} → ((usage : Usage) → Makes Good (r usage)) →
    MakesRows (rows.act r)
act_makes h = record { rule = h; target = good_none }

pub plain_makes : (origin : ℕ) {r : core.Rule Valued} → Makes Good r →
    MakesRows (rows.plain origin r)
plain_makes origin h = act_makes (λ usage. finish_makes origin usage h)

stepped_for_makes : (origin : ℕ) (usage : Usage) (operator : StepOperator) (where_to : Place) →
    GoodPlace where_to → Makes Good (stepped_for origin usage operator where_to)
unfolding stepped_for
stepped_for_makes origin Used operator where_to h = stepped_makes origin operator where_to h
stepped_for_makes origin Unused operator where_to h =
    kept_makes Unused
    (updated_makes origin (places.step_operator operator) where_to (pure (int 1)) h tt)

stepping_makes : (origin : ℕ) (usage : Usage) (operator : StepOperator) {target : rows.Target} →
    GoodTarget target → Makes Good (rows.stepping origin usage operator target)
stepping_makes origin usage operator target =
    makes_then (stepped_for origin usage operator) (placed_makes origin true target)
    (λ where_to is. stepped_for_makes origin usage operator where_to is)

read_makes : (found : Option Meaning) →
    Makes Good (core.then_by (core.scalar_place found) (λ place. core.gives (pure (scalar place))))
read_makes found =
    makes_at (λ taken. core.gives (pure (scalar (cell_at (location_in taken found).ty
    (location_in taken found).base))))
    (λ taken. makes Good (pure (scalar (cell_at (location_in taken found).ty
    (location_in taken found).base))) tt)

used_makes : (found : Option Meaning) → Makes Good (rows.name_used found)
used_makes None = read_makes None
used_makes (Some (meaning.Object object)) = read_makes (Some (meaning.Object object))
used_makes (Some (meaning.Function function)) = read_makes (Some (meaning.Function function))
used_makes (Some (meaning.Known function)) = read_makes (Some (meaning.Known function))
used_makes (Some (meaning.Enumerator value)) = makes Good (pure (expr.Const ty.I32 value)) tt

pub name_makes : (origin : ℕ) (found : Option Meaning) → MakesRows (rows.name_rows origin found)
name_makes origin found =
    record {
      rule = λ usage. finish_makes origin usage (used_makes found);
      target = good_scalar found;
    }

element_makes : (origin : ℕ) (found : Option Meaning) {index : core.Rule Valued} →
    Makes Good index →
    MakesRows (rows.element_rows origin found index)
element_makes origin found {index = index} h =
    let used : Makes Good (rows.element_used found index) =
    makes_then (λ i taken. core.gives
    (valued i.statements (element (location_in taken found) i.value)) taken) h
    (λ i is. makes_at (λ taken. core.gives
    (valued i.statements (element (location_in taken found) i.value)))
    (λ taken. makes Good (valued i.statements (element (location_in taken found) i.value)) is)) in
    record {
      rule = λ usage. finish_makes origin usage used;
      target = good_element found h;
    }

-- calls

passed_shaped : (origin : ℕ) (where_to : List Location) (values : List Expr) →
    AllShaped (rows.passed origin where_to values)
passed_shaped origin [] values = tt
passed_shaped origin (p ∷ where_to) [] = tt
passed_shaped origin (p ∷ where_to) (v ∷ values) =
    (set_shaped origin p v, passed_shaped origin where_to values)

called_makes : (origin : ℕ) (frames : rows.Frames) (function : Function)
    {rules : List (core.Rule Valued)} →
    EachMakes Good rules → Makes Good (rows.called origin frames function rules)
called_makes origin frames function h =
    let body = unwrap_or function.body 0 in
    let where_to = (rows.frame_at frames body).parameters in
    makes_then (λ vs. core.then_by (acts.hold_all origin vs)
    (λ operands. core.gives (rows.called_with origin frames function operands))) (makes_each Good h)
    (λ vs are. makes_then (λ operands. core.gives
    (rows.called_with origin frames function operands))
    (hold_all_makes origin vs are)
    (λ operands so. makes Good (rows.called_with origin frames function operands)
    (append_shaped (acts.statements_of operands)
    (rows.passed origin where_to (acts.values_of operands) ++ leaf origin (head.Call body) ∷ [])
    (all_statements operands so)
    (push_shaped (rows.passed origin where_to (acts.values_of operands))
    (leaf origin (head.Call body))
    (passed_shaped origin where_to (acts.values_of operands))
    (leaf_shaped origin (head.Call body) refl tt)))))

each_used_makes : (rs : List rows.Rows) → AllByRecursion MakesRows rs →
    EachMakes Good (map rows.used rs)
each_used_makes [] h = none_makes
each_used_makes (r ∷ rs) h = more_make (h.0.rule Used) (each_used_makes rs h.1)

taken_in_makes : (origin : ℕ) (function : KnownFunction) →
    Makes Good (rows.taken_in origin function)
taken_in_makes origin function =
    makes_freshly Good (object_type (known_result function))
    (λ t. valued (input origin t.base ∷ []) (scalar t))
    (λ t. (leaf_shaped origin (head.Input t.base) refl tt, tt))

stop_makes : (origin : ℕ) (usage : Usage) →
    Makes Good (core.gives (acts.voided usage (leaf origin head.Stop ∷ [])))
stop_makes origin usage =
    voided_makes usage (leaf origin head.Stop ∷ []) (leaf_shaped origin head.Stop refl tt, tt)

first_makes : (rs : List rows.Rows) → AllByRecursion MakesRows rs →
    Makes AllShaped (rows.first_unused rs)
first_makes [] h = makes AllShaped [] tt
first_makes (r ∷ rs) h = only_makes (h.0.rule Unused)

known_makes : (origin : ℕ) (usage : Usage) (function : KnownFunction) (rs : List rows.Rows) →
    AllByRecursion MakesRows rs → Makes Good (rows.known_called origin usage function rs)
known_makes origin usage known.ReachError rs h =
    voided_makes usage (leaf origin head.Error ∷ []) (leaf_shaped origin head.Error refl tt, tt)
known_makes origin usage known.Abort rs h = stop_makes origin usage
known_makes origin usage known.AssertFail rs h = stop_makes origin usage
known_makes origin usage known.Exit rs h =
    makes_then (λ before. core.gives (acts.voided usage (before ++ leaf origin head.Stop ∷ [])))
    (first_makes rs h)
    (λ before is. voided_makes usage (before ++ leaf origin head.Stop ∷ [])
    (push_shaped before (leaf origin head.Stop) is (leaf_shaped origin head.Stop refl tt)))
known_makes origin usage (known.Input t) rs h =
    kept_makes usage (taken_in_makes origin (known.Input t))

call_rule_makes : (origin : ℕ) (frames : rows.Frames) (usage : Usage) (found : Option Meaning)
    (rs : List rows.Rows) → AllByRecursion MakesRows rs →
    Makes Good (rows.call_rule origin frames usage found rs)
call_rule_makes origin frames usage None rs h = makes Good (pure (int 0)) tt
call_rule_makes origin frames usage (Some (meaning.Object object)) rs h =
    makes Good (pure (int 0)) tt
call_rule_makes origin frames usage (Some (meaning.Enumerator value)) rs h =
    makes Good (pure (int 0)) tt
call_rule_makes origin frames usage (Some (meaning.Function function)) rs h =
    kept_makes usage (called_makes origin frames function (each_used_makes rs h))
call_rule_makes origin frames usage (Some (meaning.Known function)) rs h =
    known_makes origin usage function rs h

call_makes : (origin : ℕ) (frames : rows.Frames) (found : Option Meaning) (rs : List rows.Rows) →
    AllByRecursion MakesRows rs → MakesRows (rows.call_rows origin frames found rs)
call_makes origin frames found rs h =
    act_makes (λ usage. call_rule_makes origin frames usage found rs h)

-- suffixes
abbrev pub SuffixMakes : rows.ReadSuffix → Type 0
SuffixMakes (TypedSuffix-F.Index index kind place) = MakesRows index
SuffixMakes (TypedSuffix-F.Call arguments kind place) = AllByRecursion MakesRows arguments
SuffixMakes (TypedSuffix-F.Step operator kind place) = Unit {0}
SuffixMakes (TypedSuffix-F.Skipped kind place) = Unit {0}

suffix_makes : (origin : ℕ) (frames : rows.Frames) (base : rows.Rows) (suffix : rows.ReadSuffix) →
    MakesRows base → SuffixMakes suffix → MakesRows (rows.suffix_rows origin frames base suffix)
suffix_makes origin frames base (TypedSuffix-F.Index index kind place) h k =
    element_makes origin base.names (k.rule Used)
suffix_makes origin frames base (TypedSuffix-F.Call arguments kind place) h k =
    call_makes origin frames base.names arguments k
suffix_makes origin frames base (TypedSuffix-F.Step operator kind place) h k =
    act_makes (λ usage. stepping_makes origin usage operator h.target)
suffix_makes origin frames base (TypedSuffix-F.Skipped kind place) h k =
    call_makes origin frames base.names [] tt

pub suffixed_makes : (origin : ℕ) (frames : rows.Frames) (suffixes : List rows.ReadSuffix)
    (base : rows.Rows) → MakesRows base → AllByRecursion SuffixMakes suffixes →
    MakesRows (rows.suffixed origin frames base suffixes)
suffixed_makes origin frames [] base h all = h
suffixed_makes origin frames (suffix ∷ suffixes) base h all =
    suffixed_makes origin frames suffixes (rows.suffix_rows origin frames base suffix)
    (suffix_makes origin frames base suffix h all.0) all.1

pub chained_makes : (origin : ℕ) (rest : List (BinaryOperator × rows.Rows))
    (left : core.Rule Valued) →
    Makes Good left → AllByRecursion (λ link. MakesRows link.1) rest →
    Makes Good (rows.chained origin left rest)
chained_makes origin [] left h all = h
chained_makes origin (link ∷ rest) left h all =
    chained_makes origin rest
    (core.then_by left (λ v. core.then_by (rows.used link.1)
    (λ w. acts.linked origin link.0 v w)))
    (makes_then (λ v. core.then_by (rows.used link.1) (λ w. acts.linked origin link.0 v w)) h
    (λ v is. makes_then (λ w. acts.linked origin link.0 v w) (all.0.rule Used)
    (λ w so. linked_makes origin link.0 v w is so))) all.1

pub comma_makes : (usage : Usage) (items : List rows.Rows) → AllByRecursion MakesRows items →
    Makes Good (rows.comma usage items)
comma_makes usage [] h = makes Good (pure (int 0)) tt
comma_makes usage (last ∷ []) h = h.0.rule usage
comma_makes usage (item ∷ next ∷ items) h =
    makes_then (λ before. core.then_by (rows.comma usage (next ∷ items))
    (λ v. core.gives (valued (before ++ v.statements) v.value))) (only_makes (h.0.rule Unused))
    (λ before is. makes_then (λ v. core.gives (valued (before ++ v.statements) v.value))
    (comma_makes usage (next ∷ items) h.1)
    (λ v so. makes Good (valued (before ++ v.statements) v.value)
    (append_shaped before v.statements is so)))

chosen_for_makes : (origin : ℕ) (usage ends : Usage) (test first second : Valued) → Good test →
    Good first → Good second → Makes Good (chosen_for origin usage ends test first second)
unfolding chosen_for
chosen_for_makes origin usage Used test first second h k l =
    finish_makes origin usage (chosen_makes origin test first second h k l)
chosen_for_makes origin usage Unused test first second h k l =
    let chosen = test.statements
    ++ choice origin test.value first.statements second.statements ∷ [] in
    makes Good (acts.unvalued chosen)
    (chosen_shaped origin test.statements test.value first.statements second.statements h k l)

pub conditional_makes : (origin : ℕ) (usage ends : Usage) {r s t : rows.Rows} → MakesRows r →
    MakesRows s → MakesRows t → Makes Good (rows.conditional origin usage ends r s t)
conditional_makes origin usage ends {s = s} {t = t} test first second =
    makes_then (λ v. core.then_by (s.rule ends) (λ a. core.then_by (t.rule ends)
    (λ b. chosen_for origin usage ends v a b))) (test.rule Used)
    (λ v is. makes_then (λ a. core.then_by (t.rule ends)
    (λ b. chosen_for origin usage ends v a b)) (first.rule ends)
    (λ a so. makes_then (λ b. chosen_for origin usage ends v a b) (second.rule ends)
    (λ b also. chosen_for_makes origin usage ends v a b is so also)))

void_makes : {r : rows.Rows} → MakesRows r → (usage : Usage) →
    Makes Good (core.then_by (rows.unused r) (λ before. core.gives (acts.voided usage before)))
void_makes h usage =
    makes_then (λ before. core.gives (acts.voided usage before)) (only_makes (h.rule Unused))
    (λ before is. voided_makes usage before is)

pub cast_makes : (origin : ℕ) (kind : Option Kind) (r : rows.Rows) → MakesRows r →
    MakesRows (rows.cast_rows origin kind r)
cast_makes origin None r h = act_makes (λ usage. void_makes h usage)
cast_makes origin (Some Void) r h = act_makes (λ usage. void_makes h usage)
cast_makes origin (Some (Value t)) r h =
    plain_makes origin (makes_then (λ v. core.gives (acts.cast_to t v)) (h.rule Used)
    (λ v is. makes Good (acts.cast_to t v) is))
