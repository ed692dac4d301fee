-- Values that are put together alike are alike.
use Rattle.std.proofs.Common.{◌≡◌, ℕ, ℤ, ◌+◌, max, Bool, true, false, if◌then◌else◌, refl, ap, sym}
use Rattle.std.proofs.Common.{◌∙◌}
use Rattle.std.proofs.Common.{subst}
use Rattle.cpa_ints.specs.declared.integers.IntType.{IntType}
use Rattle.cpa_ints.specs.declared.integers.IntType.TheVariants as ty
use Rattle.cpa_ints.specs.Conversions.{promoted, common_type}
use Rattle.cpa_ints.specs.Wrapping.{wrapped}
use Rattle.cpa_expr.specs.declared.tree.Expr.{Expr, roll-Expr}
use Rattle.cpa_expr.specs.declared.tree.Expr.TheViews.{out-roll-Expr}
use Rattle.cpa_expr.specs.declared.tree.Expr.TheOpen.{Expr-F}
use Rattle.cpa_expr.specs.declared.tree.Expr.TheVariants as expr
use Rattle.cpa_expr.specs.declared.tree.UnOp.{UnOp}
use Rattle.cpa_expr.specs.declared.tree.UnOp.TheVariants as un
use Rattle.cpa_expr.specs.declared.tree.BinOp.{BinOp}
use Rattle.cpa_expr.specs.declared.tree.BinOp.TheVariants as bin
use Rattle.cpa_expr.specs.declared.tree.CmpOp.{CmpOp}
use Rattle.cpa_expr.specs.declared.tree.CmpOp.TheVariants as cmp
use Rattle.cpa_expr.specs.Shape.{type_of, height}
use Rattle.cpa_expr.specs.Equality.{same_type}
use Rattle.cpa_expr.specs.Laws.{type_at_variants, height_at_variants}
use Rattle.c_grammar_symbols.specs.declared.operators.BinaryOperator.{BinaryOperator}
use Rattle.c_grammar_symbols.specs.declared.operators.BinaryOperator.TheVariants as binary
use Rattle.c_grammar_tree.specs.declared.expression.UnaryOperator.{UnaryOperator}
use Rattle.c_grammar_tree.specs.declared.expression.UnaryOperator.TheVariants as unary
use Rattle.c_types_rules.specs.Tables.{is_shift}
use Rattle.c_core_rules.specs.declared.tree.Location.{Location}
use Rattle.c_core_rules.specs.Values.{conv, promote, node_of, operator_value, signed_value}
use Rattle.c_core_rules.specs.Values.{chosen_value, truth_of, element, scalar, first_index}
use Rattle.c_core_rules.specs.Values.{is_constant, is_constant_node}
use Rattle.c_core_rules_laws.specs.Alike.{SameValue, SameLocation}

pub value_self : (v : Expr) → SameValue v v
value_self v = record { type = refl; height = refl; constant = refl }

-- whether a value is a constant, by its layer
constant_at : (x : Expr-F Expr) (e : Expr) → roll-Expr x ≡ e → is_constant e ≡ is_constant_node x
constant_at x e is =
    ap is_constant (sym is) ∙ ap (λ (y : Expr-F Expr). is_constant_node y) (out-roll-Expr x)

-- what two values have in common with a third each
by_height : {v w : Expr} (t u : IntType) (h k : ℕ) (b : Bool) → type_of v ≡ t → type_of w ≡ u →
    t ≡ u → height v ≡ h → height w ≡ k → h ≡ k → is_constant v ≡ b → is_constant w ≡ b →
    SameValue v w
by_height t u h k b tv tw is hv hw are cv cw = record {
  type = tv ∙ is ∙ sym tw;
  height = hv ∙ are ∙ sym hw;
  constant = cv ∙ sym cw;
}

-- the nodes

pub same_read : (a b : Location) {v w : Expr} → SameLocation a b → SameValue v w →
    SameValue (element a v) (element b w)
same_read a b {v = v} {w = w} at is =
    by_height a.ty b.ty (1 + height v) (1 + height w) false
    (type_at_variants.read a.ty a.base a.len v) (type_at_variants.read b.ty b.base b.len w) at.type
    (height_at_variants.read a.ty a.base a.len v) (height_at_variants.read b.ty b.base b.len w)
    (ap (λ n. 1 + n) is.height)
    (constant_at (Expr-F.Read a.ty a.base a.len v) (element a v)
    (expr.rolls-Read a.ty a.base a.len v))
    (constant_at (Expr-F.Read b.ty b.base b.len w) (element b w)
    (expr.rolls-Read b.ty b.base b.len w))

pub same_scalar : (a b : Location) → SameLocation a b → SameValue (scalar a) (scalar b)
same_scalar a b at = same_read a b at (value_self first_index)

same_un : (o : UnOp) (t : IntType) {v w : Expr} → SameValue v w →
    SameValue (expr.Un o t v) (expr.Un o t w)
same_un o t {v = v} {w = w} is =
    by_height t t (1 + height v) (1 + height w) false (type_at_variants.unary o t v)
    (type_at_variants.unary o t w) refl (height_at_variants.unary o t v)
    (height_at_variants.unary o t w) (ap (λ n. 1 + n) is.height)
    (constant_at (Expr-F.Un o t v) (expr.Un o t v) (expr.rolls-Un o t v))
    (constant_at (Expr-F.Un o t w) (expr.Un o t w) (expr.rolls-Un o t w))

both_heights : {a b c d : ℕ} → a ≡ b → c ≡ d → 1 + max a c ≡ 1 + max b d
both_heights {b = b} {c = c} is are = ap (λ n. 1 + max n c) is ∙ ap (λ n. 1 + max b n) are

same_bin : (o : BinOp) (t : IntType) {v w x y : Expr} → SameValue v w → SameValue x y →
    SameValue (expr.Bin o t v x) (expr.Bin o t w y)
same_bin o t {v = v} {w = w} {x = x} {y = y} is are =
    by_height t t (1 + max (height v) (height x)) (1 + max (height w) (height y)) false
    (type_at_variants.binary o t v x) (type_at_variants.binary o t w y) refl
    (height_at_variants.binary o t v x) (height_at_variants.binary o t w y)
    (both_heights is.height are.height)
    (constant_at (Expr-F.Bin o t v x) (expr.Bin o t v x) (expr.rolls-Bin o t v x))
    (constant_at (Expr-F.Bin o t w y) (expr.Bin o t w y) (expr.rolls-Bin o t w y))

same_cmp : (o : CmpOp) (t u : IntType) {v w x y : Expr} → SameValue v w → SameValue x y →
    SameValue (expr.Cmp o t v x) (expr.Cmp o u w y)
same_cmp o t u {v = v} {w = w} {x = x} {y = y} is are =
    by_height ty.I32 ty.I32 (1 + max (height v) (height x)) (1 + max (height w) (height y)) false
    (type_at_variants.comparison o t v x) (type_at_variants.comparison o u w y) refl
    (height_at_variants.comparison o t v x) (height_at_variants.comparison o u w y)
    (both_heights is.height are.height)
    (constant_at (Expr-F.Cmp o t v x) (expr.Cmp o t v x) (expr.rolls-Cmp o t v x))
    (constant_at (Expr-F.Cmp o u w y) (expr.Cmp o u w y) (expr.rolls-Cmp o u w y))

same_cast : (t : IntType) {v w : Expr} → SameValue v w →
    SameValue (expr.Cast t v) (expr.Cast t w)
same_cast t {v = v} {w = w} is =
    by_height t t (1 + height v) (1 + height w) false (type_at_variants.cast t v)
    (type_at_variants.cast t w) refl (height_at_variants.cast t v) (height_at_variants.cast t w)
    (ap (λ n. 1 + n) is.height)
    (constant_at (Expr-F.Cast t v) (expr.Cast t v) (expr.rolls-Cast t v))
    (constant_at (Expr-F.Cast t w) (expr.Cast t w) (expr.rolls-Cast t w))

pub same_and : {v w x y : Expr} → SameValue v w → SameValue x y →
    SameValue (expr.And v x) (expr.And w y)
same_and {v = v} {w = w} {x = x} {y = y} is are =
    by_height ty.I32 ty.I32 (1 + max (height v) (height x)) (1 + max (height w) (height y)) false
    (type_at_variants.conjunction v x) (type_at_variants.conjunction w y) refl
    (height_at_variants.conjunction v x) (height_at_variants.conjunction w y)
    (both_heights is.height are.height)
    (constant_at (Expr-F.And v x) (expr.And v x) (expr.rolls-And v x))
    (constant_at (Expr-F.And w y) (expr.And w y) (expr.rolls-And w y))

pub same_or : {v w x y : Expr} → SameValue v w → SameValue x y →
    SameValue (expr.Or v x) (expr.Or w y)
same_or {v = v} {w = w} {x = x} {y = y} is are =
    by_height ty.I32 ty.I32 (1 + max (height v) (height x)) (1 + max (height w) (height y)) false
    (type_at_variants.disjunction v x) (type_at_variants.disjunction w y) refl
    (height_at_variants.disjunction v x) (height_at_variants.disjunction w y)
    (both_heights is.height are.height)
    (constant_at (Expr-F.Or v x) (expr.Or v x) (expr.rolls-Or v x))
    (constant_at (Expr-F.Or w y) (expr.Or w y) (expr.rolls-Or w y))

same_not : {v w : Expr} → SameValue v w → SameValue (expr.Not v) (expr.Not w)
same_not {v = v} {w = w} is =
    by_height ty.I32 ty.I32 (1 + height v) (1 + height w) false (type_at_variants.negation v)
    (type_at_variants.negation w) refl (height_at_variants.negation v)
    (height_at_variants.negation w) (ap (λ n. 1 + n) is.height)
    (constant_at (Expr-F.Not v) (expr.Not v) (expr.rolls-Not v))
    (constant_at (Expr-F.Not w) (expr.Not w) (expr.rolls-Not w))

three_heights : {a b c d e f : ℕ} → a ≡ b → c ≡ d → e ≡ f →
    1 + max a (max c e) ≡ 1 + max b (max d f)
three_heights {b = b} {c = c} {d = d} {e = e} is are too =
    ap (λ n. 1 + max n (max c e)) is ∙ ap (λ n. 1 + max b (max n e)) are
    ∙ ap (λ n. 1 + max b (max d n)) too

same_cond : (t : IntType) {p q v w x y : Expr} → SameValue p q → SameValue v w → SameValue x y →
    SameValue (expr.Cond t p v x) (expr.Cond t q w y)
same_cond t {p = p} {q = q} {v = v} {w = w} {x = x} {y = y} test is are =
    by_height t t (1 + max (height p) (max (height v) (height x)))
    (1 + max (height q) (max (height w) (height y))) false
    (type_at_variants.conditional t p v x) (type_at_variants.conditional t q w y) refl
    (height_at_variants.conditional t p v x) (height_at_variants.conditional t q w y)
    (three_heights test.height is.height are.height)
    (constant_at (Expr-F.Cond t p v x) (expr.Cond t p v x) (expr.rolls-Cond t p v x))
    (constant_at (Expr-F.Cond t q w y) (expr.Cond t q w y) (expr.rolls-Cond t q w y))

-- conversions

conv_by : (b c : Bool) (t : IntType) {v w : Expr} → b ≡ c → SameValue v w →
    SameValue (if b then v else expr.Cast t v) (if c then w else expr.Cast t w)
conv_by true true t is same = same
conv_by false false t is same = same_cast t same
conv_by true false t is same = absurd (cc)
conv_by false true t is same = absurd (cc)

pub same_conv : (t : IntType) {v w : Expr} → SameValue v w → SameValue (conv v t) (conv w t)
same_conv t {v = v} {w = w} is =
    conv_by (same_type (type_of v) t) (same_type (type_of w) t) t
    (ap (λ u. same_type u t) is.type) is

pub conv_to : (t u : IntType) {v w : Expr} → t ≡ u → SameValue v w →
    SameValue (conv v t) (conv w u)
conv_to t u {v = v} {w = w} at is = subst (λ x. SameValue (conv v t) (conv w x)) at (same_conv t is)

pub same_promote : {v w : Expr} → SameValue v w → SameValue (promote v) (promote w)
same_promote {v = v} {w = w} is =
    conv_to (promoted (type_of v)) (promoted (type_of w)) (ap promoted is.type) is

-- whether a value is this number, converted
abbrev asked : IntType → ℤ → Expr
asked t n = expr.Const t (wrapped t n)

pub same_asked : (n : ℤ) {v w : Expr} → SameValue v w →
    SameValue (expr.Cmp cmp.Eq (type_of v) v (expr.Const (type_of v) (wrapped (type_of v) n)))
    (expr.Cmp cmp.Eq (type_of w) w (expr.Const (type_of w) (wrapped (type_of w) n)))
same_asked n {v = v} {w = w} is =
    same_cmp cmp.Eq (type_of v) (type_of w) is
    (subst (λ t. SameValue (asked (type_of v) n) (asked t n)) is.type
    (value_self (asked (type_of v) n)))

-- operators

same_node : (operator : BinaryOperator) (t : IntType) {v w x y : Expr} → SameValue v w →
    SameValue x y → SameValue (node_of operator t v x) (node_of operator t w y)
same_node binary.LogicalOr t is are = same_or is are
same_node binary.LogicalAnd t is are = same_and is are
same_node binary.BitOr t is are = same_bin bin.BitOr t is are
same_node binary.BitXor t is are = same_bin bin.BitXor t is are
same_node binary.BitAnd t is are = same_bin bin.BitAnd t is are
same_node binary.Equal t is are = same_cmp cmp.Eq t t is are
same_node binary.NotEqual t is are = same_cmp cmp.Ne t t is are
same_node binary.Less t is are = same_cmp cmp.Lt t t is are
same_node binary.Greater t is are = same_cmp cmp.Gt t t is are
same_node binary.LessEqual t is are = same_cmp cmp.Le t t is are
same_node binary.GreaterEqual t is are = same_cmp cmp.Ge t t is are
same_node binary.ShiftLeft t is are = same_bin bin.Shl t is are
same_node binary.ShiftRight t is are = same_bin bin.Shr t is are
same_node binary.Add t is are = same_bin bin.Add t is are
same_node binary.Subtract t is are = same_bin bin.Sub t is are
same_node binary.Multiply t is are = same_bin bin.Mul t is are
same_node binary.Divide t is are = same_bin bin.Div t is are
same_node binary.Remainder t is are = same_bin bin.Rem t is are

-- at the types of its operands
abbrev at_types : Bool → BinaryOperator → IntType → IntType → Expr → Expr → Expr
at_types shift operator t u left right =
    if shift then node_of operator (promoted t) (conv left (promoted t)) (conv right (promoted u))
    else node_of operator (common_type t u) (conv left (common_type t u))
    (conv right (common_type t u))

same_at : (shift : Bool) (operator : BinaryOperator) (t u : IntType) {v w x y : Expr} →
    SameValue v w → SameValue x y →
    SameValue (at_types shift operator t u v x) (at_types shift operator t u w y)
same_at true operator t u is are =
    same_node operator (promoted t) (same_conv (promoted t) is) (same_conv (promoted u) are)
same_at false operator t u is are =
    same_node operator (common_type t u) (same_conv (common_type t u) is)
    (same_conv (common_type t u) are)

pub same_operator : (operator : BinaryOperator) {v w x y : Expr} → SameValue v w → SameValue x y →
    SameValue (operator_value operator v x) (operator_value operator w y)
same_operator operator {v = v} {w = w} {x = x} {y = y} is are =
    let b = is_shift operator in
    subst (λ t. SameValue (at_types b operator (type_of v) (type_of x) v x)
    (at_types b operator t (type_of y) w y)) is.type
    (subst (λ u. SameValue (at_types b operator (type_of v) (type_of x) v x)
    (at_types b operator (type_of v) u w y)) are.type
    (same_at b operator (type_of v) (type_of x) is are))

same_signed_at : (o : UnOp) (t u : IntType) {v w : Expr} → t ≡ u → SameValue v w →
    SameValue (expr.Un o t v) (expr.Un o u w)
same_signed_at o t u {v = v} {w = w} at is =
    subst (λ x. SameValue (expr.Un o t v) (expr.Un o x w)) at (same_un o t is)

pub same_signed : (operator : UnaryOperator) {v w : Expr} → SameValue v w →
    SameValue (signed_value operator v) (signed_value operator w)
same_signed unary.Plus is = same_promote is
same_signed unary.Minus {v = v} {w = w} is =
    same_signed_at un.Neg (promoted (type_of v)) (promoted (type_of w)) (ap promoted is.type)
    (same_promote is)
same_signed unary.Complement {v = v} {w = w} is =
    same_signed_at un.Flip (promoted (type_of v)) (promoted (type_of w)) (ap promoted is.type)
    (same_promote is)
same_signed unary.Not is = same_not is

pub same_truth : {v w : Expr} → SameValue v w → SameValue (truth_of v) (truth_of w)
same_truth is = same_not (same_not is)

abbrev chosen_at : IntType → Expr → Expr → Expr → Expr
chosen_at t test first second = expr.Cond t test (conv first t) (conv second t)

-- the type of a conditional
pub common_same : {v w x y : Expr} → SameValue v w → SameValue x y →
    common_type (type_of v) (type_of x) ≡ common_type (type_of w) (type_of y)
common_same {w = w} {x = x} is are =
    ap (λ t. common_type t (type_of x)) is.type ∙ ap (common_type (type_of w)) are.type

pub same_chosen : {p q v w x y : Expr} → SameValue p q → SameValue v w → SameValue x y →
    SameValue (chosen_value p v x) (chosen_value q w y)
same_chosen {p = p} {q = q} {v = v} {w = w} {x = x} {y = y} test is are =
    let t = common_type (type_of v) (type_of x) in
    subst (λ u. SameValue (chosen_at t p v x) (chosen_at u q w y)) (common_same is are)
    (same_cond t test (same_conv t is) (same_conv t are))
