-- Each form of an expression is alike where its parts are, whatever cells the functions have.
use Rattle.std.proofs.Common.{ℕ, zero, suc, Bool, true, List, [], ◌∷◌}
use Rattle.std.proofs.Common.{◌++◌, map, Option, None, Some, refl, subst, ℤ}
use Rattle.std.specs.Prelude.{unwrap_or, is_some, slice_get}
use Rattle.cpa_ints.specs.declared.integers.IntType.{IntType}
use Rattle.cpa_ints.specs.declared.integers.IntType.TheVariants as ty
use Rattle.cpa_expr.specs.declared.tree.Expr.{Expr}
use Rattle.cpa_expr.specs.declared.tree.Expr.TheVariants.{Const}
use Rattle.c_grammar_symbols.specs.declared.operators.BinaryOperator.{BinaryOperator}
use Rattle.c_grammar_symbols.specs.declared.operators.AssignmentOperator.{AssignmentOperator}
use Rattle.c_grammar_symbols.specs.declared.operators.StepOperator.{StepOperator}
use Rattle.c_types_rules.specs.declared.known.KnownFunction.{KnownFunction}
use Rattle.c_types_rules.specs.declared.known.KnownFunction.TheVariants as known
use Rattle.c_types_rules.specs.declared.meaning.Kind.{Kind}
use Rattle.c_types_rules.specs.declared.meaning.Kind.TheVariants.{Void, Value}
use Rattle.c_types_rules.specs.declared.meaning.Function.{Function}
use Rattle.c_types_rules.specs.declared.meaning.Meaning.{Meaning}
use Rattle.c_types_rules.specs.declared.meaning.Meaning.TheVariants as meaning
use Rattle.c_types_rules.specs.Types.{object_type}
use Rattle.c_types_rules.specs.Known.{known_result}
use Rattle.c_types_rules.specs.Tables.{operator_of}
use Rattle.c_types_rules.specs.declared.typed.TypedExpression.TheOpen.{TypedSuffix-F}
use Rattle.cpa_model_trees.specs.declared.tree.Head.TheVariants as head
use Rattle.cpa_model_trees.specs.Numbering.{Trees}
use Rattle.c_core_rules.specs.declared.tree.Location.{Location}
use Rattle.c_core_rules.specs.declared.tree.Place.{Place}
use Rattle.c_core_rules.specs.declared.tree.Place.TheVariants.{Scalar, Element}
use Rattle.c_core_rules.specs.declared.tree.Usage.{Usage}
use Rattle.c_core_rules.specs.declared.tree.Usage.TheVariants.{Used, Unused}
use Rattle.c_core_rules.specs.declared.tree.Valued.{Valued}
use Rattle.c_core_rules.specs.Values.{scalar, element, cell_at, int}
use Rattle.c_core_rules.specs.Trees.{leaf, input, valued, pure}
use Rattle.c_core_rules.specs.Cells.{Rule, gives, then_by, located, scalar_place}
use Rattle.c_core_rules.specs.Acts.{hold_all, linked, cast_to, unvalued, finished, kept_for}
use Rattle.c_core_rules.specs.Acts.{kept, no_value, voided, chosen_for}
use Rattle.c_core_rules.specs.Places.{fixed_if, changed, incremented, stepped_for}
use Rattle.c_core_rules.specs.Expressions.{Frame, Frames, Rows, ReadSuffix, Target, frame_at}
use Rattle.c_core_rules.specs.Expressions.{no_frame}
use Rattle.c_core_rules.specs.Expressions as rows
use Rattle.c_core_rules_laws.specs.Alike.{Alike, AlikeRows, AlikeTarget, SameValue, SameValued}
use Rattle.c_core_rules_laws.specs.Alike.{SameTrees, SameLocation, SameFrame, SameFrames, Pairwise}
use Rattle.c_core_rules_laws.specs.Alike.{none, more, scalars, elements, neither}
use Rattle.c_core_rules_laws.specs.lemmas.Values.{value_self, same_scalar, same_read}
use Rattle.c_core_rules_laws.specs.lemmas.Statements.{trees_self, same_append, same_more, same_set}
use Rattle.c_core_rules_laws.specs.lemmas.Statements.{same_input, same_valued, valued_self}
use Rattle.c_core_rules_laws.specs.lemmas.Runs.{alike_gives, alike_then, alike_each}
use Rattle.c_core_rules_laws.specs.lemmas.Runs.{alike_fresh, alike_located, alike_scalar_place}
use Rattle.c_core_rules_laws.specs.lemmas.Acts.{alike_hold_all, same_statements, same_values}
use Rattle.c_core_rules_laws.specs.lemmas.Acts.{alike_linked, alike_chosen, alike_dropped}
use Rattle.c_core_rules_laws.specs.lemmas.Acts.{same_split, same_cast_to}
use Rattle.c_core_rules_laws.specs.lemmas.Places.{SamePlace, scalar_places, element_places}
use Rattle.c_core_rules_laws.specs.lemmas.Places.{no_places}
use Rattle.c_core_rules_laws.specs.lemmas.Places.{same_as_pure, alike_fixed_if, alike_changed}
use Rattle.c_core_rules_laws.specs.lemmas.Places.{alike_incremented, alike_stepped}

pub only : {r s : Rule Valued} → Alike SameValued r s →
    Alike SameTrees (rows.only_statements r) (rows.only_statements s)
only h =
    alike_then (λ v. gives v.statements) (λ v. gives v.statements) h
    (λ x y is. alike_gives is.statements)

-- what becomes of a value, by whether it is used

same_unvalued : {xs ys : Trees} → SameTrees xs ys → SameValued (unvalued xs) (unvalued ys)
same_unvalued is = same_valued is (value_self (int 0))

alike_finished : (origin : ℕ) (usage : Usage) {v w : Valued} → SameValued v w →
    Alike SameValued (finished origin usage v) (finished origin usage w)
unfolding finished
alike_finished origin Used is = alike_gives is
alike_finished origin Unused is =
    alike_then (λ statements. gives (unvalued statements))
    (λ statements. gives (unvalued statements)) (alike_dropped origin is)
    (λ x y are. alike_gives (same_unvalued are))

same_kept : (usage : Usage) {v w : Valued} → SameValued v w →
    SameValued (kept_for usage v) (kept_for usage w)
unfolding kept_for
same_kept Used is = is
same_kept Unused is = same_unvalued is.statements

same_voided : (usage : Usage) {xs ys : Trees} → SameTrees xs ys →
    SameValued (voided usage xs) (voided usage ys)
same_voided usage is = same_kept usage (same_valued is (value_self no_value))

alike_finish : (origin : ℕ) (usage : Usage) {r s : Rule Valued} → Alike SameValued r s →
    Alike SameValued (then_by r (finished origin usage)) (then_by s (finished origin usage))
alike_finish origin usage h =
    alike_then (finished origin usage) (finished origin usage) h
    (λ x y is. alike_finished origin usage is)

pub alike_kept : (usage : Usage) {r s : Rule Valued} → Alike SameValued r s →
    Alike SameValued (kept usage r) (kept usage s)
alike_kept usage h =
    alike_then (λ v. gives (kept_for usage v)) (λ v. gives (kept_for usage v)) h
    (λ x y is. alike_gives (same_kept usage is))

-- an expression that is no left side and no name
pub alike_act : {r s : Usage → Rule Valued} →
    ((usage : Usage) → Alike SameValued (r usage) (s usage)) →
    AlikeRows (rows.act r) (rows.act s)
alike_act h = record { rule = h; target = neither; names = refl }

pub alike_plain : (origin : ℕ) {r s : Rule Valued} → Alike SameValued r s →
    AlikeRows (rows.plain origin r) (rows.plain origin s)
alike_plain origin h = alike_act (λ usage. alike_finish origin usage h)

-- names and elements

read_used : (found : Option Meaning) →
    Alike SameValued (then_by (scalar_place found) (λ place. gives (pure (scalar place))))
    (then_by (scalar_place found) (λ place. gives (pure (scalar place))))
read_used found =
    alike_then (λ place. gives (pure (scalar place))) (λ place. gives (pure (scalar place)))
    (alike_scalar_place found)
    (λ a b at. alike_gives (same_as_pure (same_scalar a b at)))

name_used : (found : Option Meaning) →
    Alike SameValued (rows.name_used found) (rows.name_used found)
name_used None = read_used None
name_used (Some (meaning.Object object)) = read_used (Some (meaning.Object object))
name_used (Some (meaning.Function function)) = read_used (Some (meaning.Function function))
name_used (Some (meaning.Known function)) = read_used (Some (meaning.Known function))
name_used (Some (meaning.Enumerator value)) = alike_gives (valued_self (pure (Const ty.I32 value)))

pub alike_name : (origin : ℕ) (found : Option Meaning) →
    AlikeRows (rows.name_rows origin found) (rows.name_rows origin found)
alike_name origin found = record {
  rule = λ usage. alike_finish origin usage (name_used found);
  target = scalars found;
  names = refl;
}

element_used : (found : Option Meaning) {i j : Rule Valued} → Alike SameValued i j →
    Alike SameValued (rows.element_used found i) (rows.element_used found j)
element_used found h =
    alike_then
    (λ i. then_by (located found) (λ place. gives (valued i.statements (element place i.value))))
    (λ i. then_by (located found) (λ place. gives (valued i.statements (element place i.value)))) h
    (λ x y is. alike_then (λ place. gives (valued x.statements (element place x.value)))
    (λ place. gives (valued y.statements (element place y.value))) (alike_located found)
    (λ a b at. alike_gives (same_valued is.statements (same_read a b at is.value))))

alike_element : (origin : ℕ) (found : Option Meaning) {i j : Rule Valued} → Alike SameValued i j →
    AlikeRows (rows.element_rows origin found i) (rows.element_rows origin found j)
alike_element origin found h = record {
  rule = λ usage. alike_finish origin usage (element_used found h);
  target = elements found h;
  names = refl;
}

-- left sides

alike_placed : (origin : ℕ) (fixes : Bool) {t u : Target} → AlikeTarget t u →
    Alike SamePlace (rows.placed origin fixes t) (rows.placed origin fixes u)
alike_placed origin fixes (scalars found) =
    alike_then (λ location. gives (Scalar location)) (λ location. gives (Scalar location))
    (alike_scalar_place found) (λ a b at. alike_gives (scalar_places a b at))
alike_placed origin fixes (elements found h) =
    alike_then
    (λ i. then_by (fixed_if origin fixes i) (λ kept.
    then_by (located found) (λ location. gives (Element location kept))))
    (λ i. then_by (fixed_if origin fixes i) (λ kept.
    then_by (located found) (λ location. gives (Element location kept)))) h
    (λ x y is. alike_then
    (λ kept. then_by (located found) (λ location. gives (Element location kept)))
    (λ kept. then_by (located found) (λ location. gives (Element location kept)))
    (alike_fixed_if origin fixes is)
    (λ k l kept. alike_then (λ location. gives (Element location k))
    (λ location. gives (Element location l)) (alike_located found)
    (λ a b at. alike_gives (element_places a b at kept))))
alike_placed origin fixes neither = alike_gives no_places

pub alike_assigning : (origin : ℕ) (keeps : Bool) (operator : AssignmentOperator) {t u : Target}
    {r s : Rule Valued} → AlikeTarget t u → Alike SameValued r s →
    Alike SameValued (rows.assigning origin keeps operator t r)
    (rows.assigning origin keeps operator u s)
alike_assigning origin keeps operator {r = r} {s = s} left right =
    alike_then (λ place. then_by r (λ v. changed origin keeps (operator_of operator) place v))
    (λ place. then_by s (λ v. changed origin keeps (operator_of operator) place v))
    (alike_placed origin (is_some (operator_of operator)) left)
    (λ p q at. alike_then (λ v. changed origin keeps (operator_of operator) p v)
    (λ v. changed origin keeps (operator_of operator) q v) right
    (λ v w is. alike_changed origin keeps (operator_of operator) at is))

pub alike_incrementing : (origin : ℕ) (operator : StepOperator) {t u : Target} → AlikeTarget t u →
    Alike SameValued (rows.incrementing origin operator t) (rows.incrementing origin operator u)
alike_incrementing origin operator h =
    alike_then (incremented origin operator) (incremented origin operator)
    (alike_placed origin true h)
    (λ p q at. alike_incremented origin operator at)

alike_stepped_for : (origin : ℕ) (usage : Usage) (operator : StepOperator) {p q : Place} →
    SamePlace p q →
    Alike SameValued (stepped_for origin usage operator p) (stepped_for origin usage operator q)
unfolding stepped_for
alike_stepped_for origin Used operator at = alike_stepped origin operator at
alike_stepped_for origin Unused operator at = alike_kept Unused
    (alike_incremented origin operator at)

alike_stepping : (origin : ℕ) (usage : Usage) (operator : StepOperator) {t u : Target} →
    AlikeTarget t u →
    Alike SameValued (rows.stepping origin usage operator t)
    (rows.stepping origin usage operator u)
alike_stepping origin usage operator h =
    alike_then (stepped_for origin usage operator) (stepped_for origin usage operator)
    (alike_placed origin true h) (λ p q at. alike_stepped_for origin usage operator at)

-- calls

same_passed : (origin : ℕ) {ks bs : List Location} {vs ws : List Expr} →
    Pairwise SameLocation ks bs →
    Pairwise SameValue vs ws → SameTrees (rows.passed origin ks vs) (rows.passed origin bs ws)
same_passed origin none none = trees_self []
same_passed origin none (more is all) = trees_self []
same_passed origin (more at places) none = trees_self []
same_passed origin (more {x = a} {y = b} at places) (more is all) =
    same_more (same_set origin a b at is) (same_passed origin places all)

-- one of these, or another where there is none
or_else : {T : Type 0} {Same : T → T → Type 0} {xs ys : List T} (x y : T) → Same x y →
    Pairwise Same xs ys → (n : ℕ) →
    Same (unwrap_or (slice_get xs n) x) (unwrap_or (slice_get ys n) y)
or_else x y other none n = other
or_else x y other (more is all) zero = is
or_else x y other (more is all) (suc n) = or_else x y other all n

frame_self : SameFrame no_frame no_frame
frame_self = record { result = record { type = refl }; parameters = none }

frames_at : {F G : Frames} → SameFrames F G → (body : ℕ) →
    SameFrame (frame_at F body) (frame_at G body)
frames_at same body = or_else no_frame no_frame frame_self same body

same_called : (origin : ℕ) (function : Function) {F G : Frames} {vs ws : List Valued} →
    SameFrames F G →
    Pairwise SameValued vs ws →
    SameValued (rows.called_with origin F function vs) (rows.called_with origin G function ws)
same_called origin function {F = F} {G = G} same all =
    let body = unwrap_or function.body 0 in
    let frames = frames_at same body in
    let t = object_type function.result in
    same_valued
    (same_append (same_statements all)
    (same_append (same_passed origin frames.parameters (same_values all)) (trees_self (leaf origin
    (head.Call body) ∷ []))))
    (same_scalar (cell_at t (frame_at F body).result_cell.base)
    (cell_at t (frame_at G body).result_cell.base) (record { type = refl }))

alike_called : (origin : ℕ) (function : Function) {F G : Frames} {rs ss : List (Rule Valued)} →
    SameFrames F G → Pairwise (Alike SameValued) rs ss →
    Alike SameValued (rows.called origin F function rs) (rows.called origin G function ss)
alike_called origin function {F = F} {G = G} same all =
    alike_then
    (λ vs. then_by (hold_all origin vs)
    (λ operands. gives (rows.called_with origin F function operands)))
    (λ vs. then_by (hold_all origin vs)
    (λ operands. gives (rows.called_with origin G function operands)))
    (alike_each all)
    (λ vs ws are. alike_then (λ operands. gives (rows.called_with origin F function operands))
    (λ operands. gives (rows.called_with origin G function operands)) (alike_hold_all origin are)
    (λ xs ys held. alike_gives (same_called origin function same held)))

each_used : {rs ss : List Rows} → Pairwise AlikeRows rs ss →
    Pairwise (Alike SameValued) (map rows.used rs) (map rows.used ss)
each_used none = none
each_used (more h all) = more (h.rule Used) (each_used all)

first_unused : {rs ss : List Rows} → Pairwise AlikeRows rs ss →
    Alike SameTrees (rows.first_unused rs) (rows.first_unused ss)
first_unused none = alike_gives (trees_self [])
first_unused (more h all) = only (h.rule Unused)

taken_in : (origin : ℕ) (function : KnownFunction) →
    Alike SameValued (rows.taken_in origin function) (rows.taken_in origin function)
taken_in origin function =
    let t = object_type (known_result function) in
    alike_then (λ place. gives (valued (input origin place.base ∷ []) (scalar place)))
    (λ place. gives (valued (input origin place.base ∷ []) (scalar place))) (alike_fresh t t refl)
    (λ a b at. alike_gives (same_valued (same_input origin a.base b.base) (same_scalar a b at)))

stops : (origin : ℕ) (usage : Usage) →
    Alike SameValued (gives (voided usage (leaf origin head.Stop ∷ [])))
    (gives (voided usage (leaf origin head.Stop ∷ [])))
stops origin usage = alike_gives (valued_self (voided usage (leaf origin head.Stop ∷ [])))

known_called : (origin : ℕ) (usage : Usage) (function : KnownFunction) {rs ss : List Rows} →
    Pairwise AlikeRows rs ss →
    Alike SameValued (rows.known_called origin usage function rs)
    (rows.known_called origin usage function ss)
known_called origin usage known.ReachError all =
    alike_gives (valued_self (voided usage (leaf origin head.Error ∷ [])))
known_called origin usage known.Abort all = stops origin usage
known_called origin usage known.AssertFail all = stops origin usage
known_called origin usage known.Exit all =
    alike_then (λ before. gives (voided usage (before ++ leaf origin head.Stop ∷ [])))
    (λ before. gives (voided usage (before ++ leaf origin head.Stop ∷ []))) (first_unused all)
    (λ x y is. alike_gives
    (same_voided usage (same_append is (trees_self (leaf origin head.Stop ∷ [])))))
known_called origin usage (known.Input t) all =
    alike_kept usage (taken_in origin (known.Input t))

no_call : Alike SameValued (gives (pure (int 0))) (gives (pure (int 0)))
no_call = alike_gives (valued_self (pure (int 0)))

call_rule : (origin : ℕ) {F G : Frames} (usage : Usage) (found : Option Meaning)
    {rs ss : List Rows} → SameFrames F G → Pairwise AlikeRows rs ss →
    Alike SameValued (rows.call_rule origin F usage found rs)
    (rows.call_rule origin G usage found ss)
call_rule origin usage None same all = no_call
call_rule origin usage (Some (meaning.Object object)) same all = no_call
call_rule origin usage (Some (meaning.Enumerator value)) same all = no_call
call_rule origin usage (Some (meaning.Function function)) same all =
    alike_kept usage (alike_called origin function same (each_used all))
call_rule origin usage (Some (meaning.Known function)) same all =
    known_called origin usage function all

alike_call : (origin : ℕ) {F G : Frames} (found : Option Meaning) {rs ss : List Rows} →
    SameFrames F G →
    Pairwise AlikeRows rs ss →
    AlikeRows (rows.call_rows origin F found rs) (rows.call_rows origin G found ss)
alike_call origin found same all = alike_act (λ usage. call_rule origin usage found same all)

-- suffixes
pub data SameSuffix : ReadSuffix → ReadSuffix → Type 0 where
  same_index : {r s : Rows} (kind : Option Kind) (place : ℕ) → AlikeRows r s
      → SameSuffix (TypedSuffix-F.Index r kind place) (TypedSuffix-F.Index s kind place)
  same_call : {rs ss : List Rows} (kind : Option Kind) (place : ℕ) → Pairwise AlikeRows rs ss
      → SameSuffix (TypedSuffix-F.Call rs kind place) (TypedSuffix-F.Call ss kind place)
  same_step : (operator : StepOperator) (kind : Option Kind) (place : ℕ)
      → SameSuffix (TypedSuffix-F.Step operator kind place) (TypedSuffix-F.Step operator kind place)
  same_skipped : (kind : Option Kind) (place : ℕ)
      → SameSuffix (TypedSuffix-F.Skipped kind place) (TypedSuffix-F.Skipped kind place)

alike_suffix : (origin : ℕ) {F G : Frames} {r s : Rows} {a b : ReadSuffix} → SameFrames F G →
    AlikeRows r s →
    SameSuffix a b → AlikeRows (rows.suffix_rows origin F r a) (rows.suffix_rows origin G s b)
alike_suffix origin {r = r} same h (same_index {r = i} {s = j} kind place index) =
    subst (λ found. AlikeRows (rows.element_rows origin r.names (rows.used i))
    (rows.element_rows origin found (rows.used j)))
    h.names (alike_element origin r.names (index.rule Used))
alike_suffix origin {F = F} {G = G} {r = r} same h (same_call {rs = rs} {ss = ss} kind place all) =
    subst (λ found. AlikeRows (rows.call_rows origin F r.names rs)
    (rows.call_rows origin G found ss)) h.names
    (alike_call origin r.names same all)
alike_suffix origin same h (same_step operator kind place) =
    alike_act (λ usage. alike_stepping origin usage operator h.target)
alike_suffix origin {F = F} {G = G} {r = r} same h (same_skipped kind place) =
    subst (λ found. AlikeRows (rows.call_rows origin F r.names [])
    (rows.call_rows origin G found [])) h.names
    (alike_call origin r.names same none)

pub alike_suffixed : (origin : ℕ) {F G : Frames} {ks bs : List ReadSuffix} → SameFrames F G →
    Pairwise SameSuffix ks bs → {r s : Rows} → AlikeRows r s →
    AlikeRows (rows.suffixed origin F r ks) (rows.suffixed origin G s bs)
alike_suffixed origin same none h = h
alike_suffixed origin same (more is all) h =
    alike_suffixed origin same all (alike_suffix origin same h is)

-- chains
pub data SameLink : BinaryOperator × Rows → BinaryOperator × Rows → Type 0 where
  link : (operator : BinaryOperator) {r s : Rows} → AlikeRows r s
      → SameLink (operator, r) (operator, s)

pub alike_chained : (origin : ℕ) {ks bs : List (BinaryOperator × Rows)} → Pairwise SameLink ks bs →
    {r s : Rule Valued} → Alike SameValued r s →
    Alike SameValued (rows.chained origin r ks) (rows.chained origin s bs)
alike_chained origin none h = h
alike_chained origin (more (link operator {r = p} {s = q} right) all) h =
    alike_chained origin all
    (alike_then (λ v. then_by (rows.used p) (λ w. linked origin operator v w))
    (λ v. then_by (rows.used q) (λ w. linked origin operator v w)) h
    (λ v w is. alike_then (λ x. linked origin operator v x) (λ x. linked origin operator w x)
    (right.rule Used)
    (λ x y are. alike_linked origin operator is are)))

-- commas
pub alike_comma : (usage : Usage) {rs ss : List Rows} → Pairwise AlikeRows rs ss →
    Alike SameValued (rows.comma usage rs) (rows.comma usage ss)
alike_comma usage none = no_call
alike_comma usage (more h none) = h.rule usage
alike_comma usage (more h (more {x = r} {y = s} {xs = rs} {ys = ss} k all)) =
    alike_then
    (λ before. then_by (rows.comma usage (r ∷ rs))
    (λ v. gives (valued (before ++ v.statements) v.value)))
    (λ before. then_by (rows.comma usage (s ∷ ss))
    (λ v. gives (valued (before ++ v.statements) v.value))) (only (h.rule Unused))
    (λ x y is. alike_then (λ v. gives (valued (x ++ v.statements) v.value))
    (λ v. gives (valued (y ++ v.statements) v.value)) (alike_comma usage (more k all))
    (λ v w are. alike_gives (same_valued (same_append is are.statements) are.value)))

-- conditionals
alike_chosen_for : (origin : ℕ) (usage ends : Usage) {p q v w x y : Valued} → SameValued p q →
    SameValued v w → SameValued x y →
    Alike SameValued (chosen_for origin usage ends p v x) (chosen_for origin usage ends q w y)
unfolding chosen_for
alike_chosen_for origin usage Used test first second =
    alike_finish origin usage (alike_chosen origin test first second)
alike_chosen_for origin usage Unused test first second =
    alike_gives (same_unvalued (same_split origin test first.statements second.statements))

pub alike_conditional : (origin : ℕ) (usage ends : Usage) {p q v w x y : Rows} → AlikeRows p q →
    AlikeRows v w → AlikeRows x y →
    Alike SameValued (rows.conditional origin usage ends p v x)
    (rows.conditional origin usage ends q w y)
alike_conditional origin usage ends {v = v} {w = w} {x = x} {y = y} test first second =
    alike_then
    (λ t. then_by (v.rule ends)
    (λ a. then_by (x.rule ends) (λ b. chosen_for origin usage ends t a b)))
    (λ t. then_by (w.rule ends)
    (λ a. then_by (y.rule ends) (λ b. chosen_for origin usage ends t a b))) (test.rule Used)
    (λ s t is. alike_then
    (λ a. then_by (x.rule ends) (λ b. chosen_for origin usage ends s a b))
    (λ a. then_by (y.rule ends) (λ b. chosen_for origin usage ends t a b)) (first.rule ends)
    (λ a b one. alike_then (λ c. chosen_for origin usage ends s a c)
    (λ c. chosen_for origin usage ends t b c) (second.rule ends)
    (λ c d two. alike_chosen_for origin usage ends is one two)))

-- casts
alike_void : {r s : Rows} → AlikeRows r s → (usage : Usage) →
    Alike SameValued (then_by (rows.unused r) (λ before. gives (voided usage before)))
    (then_by (rows.unused s) (λ before. gives (voided usage before)))
alike_void h usage =
    alike_then (λ before. gives (voided usage before)) (λ before. gives (voided usage before))
    (only (h.rule Unused)) (λ x y is. alike_gives (same_voided usage is))

pub alike_cast : (origin : ℕ) (kind : Option Kind) {r s : Rows} → AlikeRows r s →
    AlikeRows (rows.cast_rows origin kind r) (rows.cast_rows origin kind s)
alike_cast origin None h = alike_act (λ usage. alike_void h usage)
alike_cast origin (Some Void) h = alike_act (λ usage. alike_void h usage)
alike_cast origin (Some (Value t)) h =
    alike_plain origin (alike_then (λ v. gives (cast_to t v)) (λ v. gives (cast_to t v))
    (h.rule Used)
    (λ x y is. alike_gives (same_cast_to t is)))

pub alike_number : (origin : ℕ) (t : IntType) (n : ℤ) →
    AlikeRows (rows.plain origin (gives (pure (Const t n))))
    (rows.plain origin (gives (pure (Const t n))))
alike_number origin t n = alike_plain origin (alike_gives (valued_self (pure (Const t n))))
