-- The checks of each variant, by those of its parts.
use Rattle.std.proofs.Common.{◌≡◌, ℕ, ℤ, None, Some, refl, sym, ap, ◌∙◌}
use Rattle.cpa_ints.specs.declared.integers.IntType.{IntType}
use Rattle.cpa_expr.specs.declared.tree.UnOp.{UnOp}
use Rattle.cpa_expr.specs.declared.tree.BinOp.{BinOp}
use Rattle.cpa_expr.specs.declared.tree.CmpOp.{CmpOp}
use Rattle.cpa_expr.specs.declared.tree.Expr.{Expr, out-Expr, roll-Expr}
use Rattle.cpa_expr.specs.declared.tree.Expr.TheViews.{roll-out-Expr}
use Rattle.cpa_expr.specs.declared.tree.Expr.TheVariants.{Const, Read, Un, Bin, Cmp, Cast, And, Or}
use Rattle.cpa_expr.specs.declared.tree.Expr.TheVariants.{Not, Cond, rolls-Const, rolls-Read}
use Rattle.cpa_expr.specs.declared.tree.Expr.TheVariants.{rolls-Un, rolls-Bin, rolls-Cmp}
use Rattle.cpa_expr.specs.declared.tree.Expr.TheVariants.{rolls-Cast, rolls-And, rolls-Or}
use Rattle.cpa_expr.specs.declared.tree.Expr.TheVariants.{rolls-Not, rolls-Cond}
use Rattle.cpa_expr.specs.declared.tree.Expr.TheOpen.{Expr-F}
use Rattle.cpa_expr.specs.declared.tree.Expr.TheFolds.{map-Expr, fold-Expr, fold-roll-Expr}
use Rattle.cpa_expr.specs.Shape.{OfParts}
use Rattle.cpa_expr.specs.lemmas.Parts.{by_parts}
use Rattle.cpa_trap_checks.specs.Checks.{Check, either, unless, where_nonzero, picked, own_trap}
use Rattle.cpa_trap_checks.specs.Checks.{index_trap, un_wraps, bin_wraps, Checked, trap_node}
use Rattle.cpa_trap_checks.specs.Checks.{over_then, over_node, checked_step, trap_check, over_check}
use Rattle.cpa_trap_checks.specs.Checks.{checked}

abbrev folded : Expr → Checked
folded = fold-Expr Checked checked_step

abbrev Kept : Expr → Type 0
Kept e = (folded e).whole ≡ e

abbrev wholes : Expr-F Expr → Expr-F Expr
wholes x = map-Expr Checked Expr (λ p. p.whole) (map-Expr Expr Checked folded x)

layer_kept : (x : Expr-F Expr) → OfParts Kept x → wholes x ≡ x
layer_kept (Expr-F.Const t n) h = refl
layer_kept (Expr-F.Read t base len index) h = ap (λ z. Expr-F.Read t base len z) h.0
layer_kept (Expr-F.Un o t arg) h = ap (λ z. Expr-F.Un o t z) h.0
layer_kept (Expr-F.Bin o t left right) h =
    ap (λ z. Expr-F.Bin o t z (folded right).whole) h.0
    ∙ ap (λ z. Expr-F.Bin o t left z) (h.1).0
layer_kept (Expr-F.Cmp o t left right) h =
    ap (λ z. Expr-F.Cmp o t z (folded right).whole) h.0
    ∙ ap (λ z. Expr-F.Cmp o t left z) (h.1).0
layer_kept (Expr-F.Cast t arg) h = ap (λ z. Expr-F.Cast t z) h.0
layer_kept (Expr-F.And left right) h =
    ap (λ z. Expr-F.And z (folded right).whole) h.0 ∙ ap (λ z. Expr-F.And left z) (h.1).0
layer_kept (Expr-F.Or left right) h =
    ap (λ z. Expr-F.Or z (folded right).whole) h.0 ∙ ap (λ z. Expr-F.Or left z) (h.1).0
layer_kept (Expr-F.Not arg) h = ap (λ z. Expr-F.Not z) h.0
layer_kept (Expr-F.Cond t test first second) h =
    ap (λ z. Expr-F.Cond t z (folded first).whole (folded second).whole) h.0
    ∙ ap (λ z. Expr-F.Cond t test z (folded second).whole) (h.1).0
    ∙ ap (λ z. Expr-F.Cond t test first z) ((h.1).1).0

folded_rolled : (x : Expr-F Expr)
    → folded (roll-Expr x) ≡ checked_step (map-Expr Expr Checked folded x)
folded_rolled x = fold-roll-Expr Checked checked_step x

kept : (e : Expr) → Kept e
kept = by_parts Kept (λ x h. ap (λ p. p.whole) (folded_rolled x) ∙ ap roll-Expr (layer_kept x h))

folded_is : (e : Expr) → folded e ≡ checked e
folded_is e = ap (λ (w : Expr). with_whole w (folded e)) (kept e)
  where
    with_whole : Expr → Checked → Checked
    with_whole w p = record { whole = w; trap = p.trap; over = p.over }

all_are : (x : Expr-F Expr) → map-Expr Expr Checked folded x ≡ map-Expr Expr Checked checked x
all_are (Expr-F.Const t n) = refl
all_are (Expr-F.Read t base len index) = ap (λ z. Expr-F.Read t base len z) (folded_is index)
all_are (Expr-F.Un o t arg) = ap (λ z. Expr-F.Un o t z) (folded_is arg)
all_are (Expr-F.Bin o t left right) =
    ap (λ z. Expr-F.Bin o t z (folded right)) (folded_is left)
    ∙ ap (λ z. Expr-F.Bin o t (checked left) z) (folded_is right)
all_are (Expr-F.Cmp o t left right) =
    ap (λ z. Expr-F.Cmp o t z (folded right)) (folded_is left)
    ∙ ap (λ z. Expr-F.Cmp o t (checked left) z) (folded_is right)
all_are (Expr-F.Cast t arg) = ap (λ z. Expr-F.Cast t z) (folded_is arg)
all_are (Expr-F.And left right) =
    ap (λ z. Expr-F.And z (folded right)) (folded_is left)
    ∙ ap (λ z. Expr-F.And (checked left) z) (folded_is right)
all_are (Expr-F.Or left right) =
    ap (λ z. Expr-F.Or z (folded right)) (folded_is left)
    ∙ ap (λ z. Expr-F.Or (checked left) z) (folded_is right)
all_are (Expr-F.Not arg) = ap (λ z. Expr-F.Not z) (folded_is arg)
all_are (Expr-F.Cond t test first second) =
    ap (λ z. Expr-F.Cond t z (folded first) (folded second)) (folded_is test)
    ∙ ap (λ z. Expr-F.Cond t (checked test) z (folded second)) (folded_is first)
    ∙ ap (λ z. Expr-F.Cond t (checked test) (checked first) z) (folded_is second)

step_rolled : (x : Expr-F Expr)
    → folded (roll-Expr x) ≡ checked_step (map-Expr Expr Checked checked x)
step_rolled x = folded_rolled x ∙ ap checked_step (all_are x)

-- at a node
pub trap_out : (e : Expr) → trap_check e ≡ trap_node (map-Expr Expr Checked checked (out-Expr e))
trap_out e =
    ap trap_check (sym (roll-out-Expr e)) ∙ ap (λ p. p.trap) (step_rolled (out-Expr e))

pub over_out : (e : Expr) → over_check e ≡ over_node (map-Expr Expr Checked checked (out-Expr e))
over_out e =
    ap over_check (sym (roll-out-Expr e)) ∙ ap (λ p. p.over) (step_rolled (out-Expr e))

trap_at : (e : Expr) (x : Expr-F Expr) → roll-Expr x ≡ e
    → trap_check e ≡ trap_node (map-Expr Expr Checked checked x)
trap_at e x is = ap trap_check (sym is) ∙ ap (λ p. p.trap) (step_rolled x)

over_at : (e : Expr) (x : Expr-F Expr) → roll-Expr x ≡ e
    → over_check e ≡ over_node (map-Expr Expr Checked checked x)
over_at e x is = ap over_check (sym is) ∙ ap (λ p. p.over) (step_rolled x)

-- ---- traps, at the variants

pub trap_constant : (t : IntType) (n : ℤ) → trap_check (Const t n) ≡ None
trap_constant t n = trap_at (Const t n) (Expr-F.Const t n) (rolls-Const t n)

pub trap_read : (t : IntType) (base len : ℕ) (index : Expr)
    → trap_check (Read t base len index) ≡ either (trap_check index) (index_trap len index)
trap_read t base len index =
    trap_at (Read t base len index) (Expr-F.Read t base len index) (rolls-Read t base len index)

pub trap_unary : (o : UnOp) (t : IntType) (arg : Expr) → trap_check (Un o t arg) ≡ trap_check arg
trap_unary o t arg = trap_at (Un o t arg) (Expr-F.Un o t arg) (rolls-Un o t arg)

pub trap_binary : (o : BinOp) (t : IntType) (left right : Expr)
    → trap_check (Bin o t left right)
    ≡ either (trap_check left) (either (trap_check right) (own_trap o t right))
trap_binary o t left right =
    trap_at (Bin o t left right) (Expr-F.Bin o t left right) (rolls-Bin o t left right)

pub trap_comparison : (o : CmpOp) (t : IntType) (left right : Expr)
    → trap_check (Cmp o t left right) ≡ either (trap_check left) (trap_check right)
trap_comparison o t left right =
    trap_at (Cmp o t left right) (Expr-F.Cmp o t left right) (rolls-Cmp o t left right)

pub trap_cast : (t : IntType) (arg : Expr) → trap_check (Cast t arg) ≡ trap_check arg
trap_cast t arg = trap_at (Cast t arg) (Expr-F.Cast t arg) (rolls-Cast t arg)

pub trap_conjunction : (left right : Expr)
    → trap_check (And left right)
    ≡ either (trap_check left) (where_nonzero left (trap_check right))
trap_conjunction left right =
    trap_at (And left right) (Expr-F.And left right) (rolls-And left right)

pub trap_disjunction : (left right : Expr)
    → trap_check (Or left right)
    ≡ either (trap_check left) (where_nonzero (Not left) (trap_check right))
trap_disjunction left right =
    trap_at (Or left right) (Expr-F.Or left right) (rolls-Or left right)

pub trap_negation : (arg : Expr) → trap_check (Not arg) ≡ trap_check arg
trap_negation arg = trap_at (Not arg) (Expr-F.Not arg) (rolls-Not arg)

pub trap_conditional : (t : IntType) (test first second : Expr)
    → trap_check (Cond t test first second)
    ≡ either (trap_check test) (picked test (trap_check first) (trap_check second))
trap_conditional t test first second =
    trap_at (Cond t test first second) (Expr-F.Cond t test first second)
    (rolls-Cond t test first second)

-- ---- overflows, at the variants

pub over_constant : (t : IntType) (n : ℤ) → over_check (Const t n) ≡ None
over_constant t n = over_at (Const t n) (Expr-F.Const t n) (rolls-Const t n)

pub over_read : (t : IntType) (base len : ℕ) (index : Expr)
    → over_check (Read t base len index) ≡ over_check index
over_read t base len index =
    over_at (Read t base len index) (Expr-F.Read t base len index) (rolls-Read t base len index)

pub over_unary : (o : UnOp) (t : IntType) (arg : Expr)
    → over_check (Un o t arg) ≡ over_then (checked arg) (un_wraps o t arg)
over_unary o t arg = over_at (Un o t arg) (Expr-F.Un o t arg) (rolls-Un o t arg)

pub over_binary : (o : BinOp) (t : IntType) (left right : Expr)
    → over_check (Bin o t left right)
    ≡ over_then (checked left) (over_then (checked right) (bin_wraps o t left right))
over_binary o t left right =
    over_at (Bin o t left right) (Expr-F.Bin o t left right) (rolls-Bin o t left right)

pub over_comparison : (o : CmpOp) (t : IntType) (left right : Expr)
    → over_check (Cmp o t left right) ≡ over_then (checked left) (over_check right)
over_comparison o t left right =
    over_at (Cmp o t left right) (Expr-F.Cmp o t left right) (rolls-Cmp o t left right)

pub over_cast : (t : IntType) (arg : Expr) → over_check (Cast t arg) ≡ over_check arg
over_cast t arg = over_at (Cast t arg) (Expr-F.Cast t arg) (rolls-Cast t arg)

pub over_conjunction : (left right : Expr)
    → over_check (And left right)
    ≡ over_then (checked left) (where_nonzero left (over_check right))
over_conjunction left right =
    over_at (And left right) (Expr-F.And left right) (rolls-And left right)

pub over_disjunction : (left right : Expr)
    → over_check (Or left right)
    ≡ over_then (checked left) (where_nonzero (Not left) (over_check right))
over_disjunction left right =
    over_at (Or left right) (Expr-F.Or left right) (rolls-Or left right)

pub over_negation : (arg : Expr) → over_check (Not arg) ≡ over_check arg
over_negation arg = over_at (Not arg) (Expr-F.Not arg) (rolls-Not arg)

pub over_conditional : (t : IntType) (test first second : Expr)
    → over_check (Cond t test first second)
    ≡ over_then (checked test) (picked test (over_check first) (over_check second))
over_conditional t test first second =
    over_at (Cond t test first second) (Expr-F.Cond t test first second)
    (rolls-Cond t test first second)

-- nothing comes after
pub then_none : (e : Expr) → over_then (checked e) None ≡ over_check e
then_none e = by (over_check e) (trap_check e)
  where
    by : (o t : Check) → either o (unless t None) ≡ o
    by None None = refl
    by None (Some t) = refl
    by (Some o) None = refl
    by (Some o) (Some t) = refl
