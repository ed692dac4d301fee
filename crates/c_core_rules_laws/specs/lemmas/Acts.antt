-- The rules on values and their statements are alike where these are.
use Rattle.std.proofs.Common.{◌≡◌, ℕ, Bool, true, false, ◌&&◌, List, [], ◌∷◌, ◌++◌}
use Rattle.std.proofs.Common.{refl, ap, ◌∙◌}
use Rattle.cpa_ints.specs.declared.integers.IntType.{IntType}
use Rattle.cpa_ints.specs.declared.integers.IntType.TheVariants as ty
use Rattle.cpa_ints.specs.Conversions.{common_type}
use Rattle.cpa_expr.specs.Shape.{type_of}
use Rattle.c_grammar_symbols.specs.declared.operators.BinaryOperator.{BinaryOperator}
use Rattle.c_grammar_symbols.specs.declared.operators.BinaryOperator.TheVariants as binary
use Rattle.c_grammar_tree.specs.declared.expression.UnaryOperator.{UnaryOperator}
use Rattle.c_core_rules.specs.declared.tree.Location.{Location}
use Rattle.c_core_rules.specs.declared.tree.Valued.{Valued}
use Rattle.c_core_rules.specs.Values.{is_constant, scalar, truth_of, int}
use Rattle.cpa_model_trees.specs.Numbering.{Trees}
use Rattle.c_core_rules.specs.Trees.{valued, set, choice}
use Rattle.c_core_rules.specs.Cells.{gives, then_by}
use Rattle.c_core_rules.specs.Acts.{is_pure, held, held_before, have_statements, hold_all}
use Rattle.c_core_rules.specs.Acts.{statements_of, values_of, operated, both_hold, one_holds}
use Rattle.c_core_rules.specs.Acts.{linked}
use Rattle.c_core_rules.specs.Acts.{signed, cast_to, chosen_by, chosen, dropped_value, fixed}
use Rattle.c_core_rules_laws.specs.Alike.{Alike, SameValue, SameValued, SameTrees, SameLocation}
use Rattle.c_core_rules_laws.specs.Alike.{Pairwise, none, more}
use Rattle.c_core_rules_laws.specs.lemmas.Values.{value_self, same_scalar, same_and, same_or}
use Rattle.c_core_rules_laws.specs.lemmas.Values.{same_conv, same_operator, same_signed, same_truth}
use Rattle.c_core_rules_laws.specs.lemmas.Values.{same_chosen, common_same}
use Rattle.c_core_rules_laws.specs.lemmas.Statements.{trees_self, same_append, same_choice}
use Rattle.c_core_rules_laws.specs.lemmas.Statements.{same_set}
use Rattle.c_core_rules_laws.specs.lemmas.Statements.{same_pure, same_valued}
use Rattle.c_core_rules_laws.specs.lemmas.Runs.{alike_gives, alike_then, alike_if, alike_fresh}

-- statements, and then a write to a place
abbrev stored : ℕ → Valued → Location → Trees
stored origin v place = v.statements ++ set origin place v.value ∷ []

pub same_stored : (origin : ℕ) {v w : Valued} (a b : Location) → SameValued v w → SameLocation a b →
    SameTrees (v.statements ++ set origin a v.value ∷ [])
    (w.statements ++ set origin b w.value ∷ [])
same_stored origin a b is at = same_append is.statements (same_set origin a b at is.value)

pub alike_held : (origin : ℕ) {v w : Valued} → SameValued v w →
    Alike SameValued (held origin v) (held origin w)
alike_held origin {v = v} {w = w} is =
    alike_then (λ t. gives (valued (stored origin v t) (scalar t)))
    (λ t. gives (valued (stored origin w t) (scalar t)))
    (alike_fresh (type_of v.value) (type_of w.value) is.value.type)
    (λ a b at. alike_gives (same_valued (same_stored origin a b is at) (same_scalar a b at)))

pub alike_held_before : (origin : ℕ) {v w x y : Valued} → SameValued v w → SameValued x y →
    Alike SameValued (held_before origin v x) (held_before origin w y)
alike_held_before origin {x = x} {y = y} is later =
    alike_if (is_pure x) (is_pure y) (same_pure later) (alike_gives is) (alike_held origin is)

abbrev some_more : Bool → Bool → Bool
some_more b others = elim b [ true ↦ others | false ↦ true ]

some_same : (b c d e : Bool) → b ≡ c → d ≡ e → some_more b d ≡ some_more c e
some_same b c d e is are = ap (λ x. some_more x d) is ∙ ap (some_more c) are

have_same : {vs ws : List Valued} → Pairwise SameValued vs ws →
    have_statements vs ≡ have_statements ws
have_same none = refl
have_same (more {x = v} {y = w} {xs = vs} {ys = ws} is all) =
    some_same (is_pure v) (is_pure w) (have_statements vs) (have_statements ws) (same_pure is)
    (have_same all)

pub alike_hold_all : (origin : ℕ) {vs ws : List Valued} → Pairwise SameValued vs ws →
    Alike (Pairwise SameValued) (hold_all origin vs) (hold_all origin ws)
alike_hold_all origin none = alike_gives none
alike_hold_all origin (more {xs = vs} {ys = ws} is all) =
    alike_then (λ first. then_by (hold_all origin vs) (λ rest. gives (first ∷ rest)))
    (λ first. then_by (hold_all origin ws) (λ rest. gives (first ∷ rest)))
    (alike_if (have_statements vs) (have_statements ws) (have_same all) (alike_held origin is)
    (alike_gives is))
    (λ x y first. alike_then (λ rest. gives (x ∷ rest)) (λ rest. gives (y ∷ rest))
    (alike_hold_all origin all) (λ xs ys rest. alike_gives (more first rest)))

pub same_statements : {vs ws : List Valued} → Pairwise SameValued vs ws →
    SameTrees (statements_of vs) (statements_of ws)
same_statements none = trees_self []
same_statements (more is all) = same_append is.statements (same_statements all)

pub same_values : {vs ws : List Valued} → Pairwise SameValued vs ws →
    Pairwise SameValue (values_of vs) (values_of ws)
same_values none = none
same_values (more is all) = more is.value (same_values all)

pub same_operated : (operator : BinaryOperator) {v w x y : Valued} → SameValued v w →
    SameValued x y → SameValued (operated operator v x) (operated operator w y)
same_operated operator is are =
    same_valued (same_append is.statements are.statements)
    (same_operator operator is.value are.value)

-- S1, if (v1) { first } else { second }
pub same_split : (origin : ℕ) {p q : Valued} {ks bs cs ds : Trees} → SameValued p q →
    SameTrees ks bs →
    SameTrees cs ds →
    SameTrees (p.statements ++ choice origin p.value ks cs ∷ [])
    (q.statements ++ choice origin q.value bs ds ∷ [])
same_split origin test first second =
    same_append test.statements (same_choice origin test.value first second)

-- t := !!v behind the statements of v, and t := n
same_tested : (origin : ℕ) {v w : Valued} (a b : Location) → SameValued v w → SameLocation a b →
    SameTrees (v.statements ++ set origin a (truth_of v.value) ∷ [])
    (w.statements ++ set origin b (truth_of w.value) ∷ [])
same_tested origin a b is at =
    same_append is.statements (same_set origin a b at (same_truth is.value))

same_int : (origin : ℕ) (n : ℕ) (a b : Location) → SameLocation a b →
    SameTrees (set origin a (int n) ∷ []) (set origin b (int n) ∷ [])
same_int origin n a b at = same_set origin a b at (value_self (int n))

alike_both : (origin : ℕ) {v w x y : Valued} → SameValued v w → SameValued x y →
    Alike SameValued (both_hold origin v x) (both_hold origin w y)
alike_both origin {v = v} {w = w} {x = x} {y = y} is are =
    alike_if (is_pure x) (is_pure y) (same_pure are)
    (alike_gives (same_valued is.statements (same_and is.value are.value)))
    (alike_then (λ t. gives (valued (v.statements ++ choice origin v.value
    (x.statements ++ set origin t (truth_of x.value) ∷ []) (set origin t (int 0) ∷ []) ∷ [])
    (scalar t)))
    (λ t. gives (valued (w.statements ++ choice origin w.value
    (y.statements ++ set origin t (truth_of y.value) ∷ []) (set origin t (int 0) ∷ []) ∷ [])
    (scalar t)))
    (alike_fresh ty.I32 ty.I32 refl)
    (λ a b at. alike_gives (same_valued
    (same_split origin is (same_tested origin a b are at) (same_int origin 0 a b at))
    (same_scalar a b at))))

alike_one : (origin : ℕ) {v w x y : Valued} → SameValued v w → SameValued x y →
    Alike SameValued (one_holds origin v x) (one_holds origin w y)
alike_one origin {v = v} {w = w} {x = x} {y = y} is are =
    alike_if (is_pure x) (is_pure y) (same_pure are)
    (alike_gives (same_valued is.statements (same_or is.value are.value)))
    (alike_then (λ t. gives (valued
    (v.statements ++ choice origin v.value (set origin t (int 1) ∷ [])
    (x.statements ++ set origin t (truth_of x.value) ∷ []) ∷ []) (scalar t)))
    (λ t. gives (valued (w.statements ++ choice origin w.value (set origin t (int 1) ∷ [])
    (y.statements ++ set origin t (truth_of y.value) ∷ []) ∷ []) (scalar t)))
    (alike_fresh ty.I32 ty.I32 refl)
    (λ a b at. alike_gives (same_valued
    (same_split origin is (same_int origin 1 a b at) (same_tested origin a b are at))
    (same_scalar a b at))))

alike_operands : (origin : ℕ) (operator : BinaryOperator) {v w x y : Valued} → SameValued v w →
    SameValued x y →
    Alike SameValued
    (then_by (held_before origin v x) (λ first. gives (operated operator first x)))
    (then_by (held_before origin w y) (λ first. gives (operated operator first y)))
alike_operands origin operator {x = x} {y = y} is are =
    alike_then (λ first. gives (operated operator first x))
    (λ first. gives (operated operator first y)) (alike_held_before origin is are)
    (λ a b first. alike_gives (same_operated operator first are))

pub alike_linked : (origin : ℕ) (operator : BinaryOperator) {v w x y : Valued} → SameValued v w →
    SameValued x y → Alike SameValued (linked origin operator v x) (linked origin operator w y)
alike_linked origin binary.LogicalAnd is are = alike_both origin is are
alike_linked origin binary.LogicalOr is are = alike_one origin is are
alike_linked origin binary.BitOr is are = alike_operands origin binary.BitOr is are
alike_linked origin binary.BitXor is are = alike_operands origin binary.BitXor is are
alike_linked origin binary.BitAnd is are = alike_operands origin binary.BitAnd is are
alike_linked origin binary.Equal is are = alike_operands origin binary.Equal is are
alike_linked origin binary.NotEqual is are = alike_operands origin binary.NotEqual is are
alike_linked origin binary.Less is are = alike_operands origin binary.Less is are
alike_linked origin binary.Greater is are = alike_operands origin binary.Greater is are
alike_linked origin binary.LessEqual is are = alike_operands origin binary.LessEqual is are
alike_linked origin binary.GreaterEqual is are = alike_operands origin binary.GreaterEqual is are
alike_linked origin binary.ShiftLeft is are = alike_operands origin binary.ShiftLeft is are
alike_linked origin binary.ShiftRight is are = alike_operands origin binary.ShiftRight is are
alike_linked origin binary.Add is are = alike_operands origin binary.Add is are
alike_linked origin binary.Subtract is are = alike_operands origin binary.Subtract is are
alike_linked origin binary.Multiply is are = alike_operands origin binary.Multiply is are
alike_linked origin binary.Divide is are = alike_operands origin binary.Divide is are
alike_linked origin binary.Remainder is are = alike_operands origin binary.Remainder is are

pub same_sign : (operator : UnaryOperator) {v w : Valued} → SameValued v w →
    SameValued (signed operator v) (signed operator w)
same_sign operator is = same_valued is.statements (same_signed operator is.value)

pub same_cast_to : (t : IntType) {v w : Valued} → SameValued v w →
    SameValued (cast_to t v) (cast_to t w)
same_cast_to t is = same_valued is.statements (same_conv t is.value)

alike_chosen_by : (origin : ℕ) (t u : IntType) {p q v w x y : Valued} → t ≡ u → SameValued p q →
    SameValued v w → SameValued x y →
    Alike SameValued (chosen_by origin t p v x) (chosen_by origin u q w y)
alike_chosen_by origin t u {p = p} {q = q} {v = v} {w = w} {x = x} {y = y} at test is are =
    alike_then (λ place. gives (valued
    (p.statements ++ choice origin p.value (stored origin v place)
    (stored origin x place) ∷ []) (scalar place)))
    (λ place. gives (valued (q.statements ++ choice origin q.value (stored origin w place)
    (stored origin y place) ∷ []) (scalar place)))
    (alike_fresh t u at)
    (λ a b one. alike_gives (same_valued
    (same_split origin test (same_stored origin a b is one) (same_stored origin a b are one))
    (same_scalar a b one)))

pub alike_chosen : (origin : ℕ) {p q v w x y : Valued} → SameValued p q → SameValued v w →
    SameValued x y →
    Alike SameValued (chosen origin p v x) (chosen origin q w y)
alike_chosen origin {p = p} {q = q} {v = v} {w = w} {x = x} {y = y} test is are =
    alike_if (is_pure v && is_pure x) (is_pure w && is_pure y)
    (ap (λ b. b && is_pure x) (same_pure is) ∙ ap (λ b. is_pure w && b) (same_pure are))
    (alike_gives (same_valued test.statements (same_chosen test.value is.value are.value)))
    (alike_chosen_by origin (common_type (type_of v.value) (type_of x.value))
    (common_type (type_of w.value) (type_of y.value)) (common_same is.value are.value) test is are)

pub alike_dropped : (origin : ℕ) {v w : Valued} → SameValued v w →
    Alike SameTrees (dropped_value origin v) (dropped_value origin w)
alike_dropped origin {v = v} {w = w} is =
    alike_if (is_constant v.value) (is_constant w.value) is.value.constant
    (alike_gives is.statements)
    (alike_then (λ kept. gives kept.statements) (λ kept. gives kept.statements)
    (alike_held origin is)
    (λ x y kept. alike_gives kept.statements))

pub alike_fixed : (origin : ℕ) {v w : Valued} → SameValued v w →
    Alike SameValued (fixed origin v) (fixed origin w)
alike_fixed origin {v = v} {w = w} is =
    alike_if (is_constant v.value) (is_constant w.value) is.value.constant (alike_gives is)
    (alike_held origin is)
