-- The test of a trap: its type, its height, what it reads, and that it is well typed.
use Rattle.std.proofs.Common.{◌≡◌, ℕ, zero, suc, ◌+◌, ◌*◌, ◌^◌, ◌<◌, ◌≤◌, max, ℤ, pos, Bool}
use Rattle.std.proofs.Common.{◌||◌, IsTrue, List, length, refl, sym, ap, ◌∙◌, subst}
use Rattle.std.proofs.Common.{arith}
use Rattle.std.proofs.Math.Nat.{le-max_left, le-max_right, max-le}
use Rattle.std.proofs.lemmas.Int.{ints}
use Rattle.std.proofs.lemmas.Option.{slice_get_within}
use Rattle.cpa_ints.specs.declared.integers.IntType.{IntType}
use Rattle.cpa_ints.specs.declared.integers.IntType.TheVariants as ty
use Rattle.cpa_ints.specs.Integers.{width}
use Rattle.cpa_expr.specs.declared.tree.UnOp.{UnOp}
use Rattle.cpa_expr.specs.declared.tree.BinOp.{BinOp}
use Rattle.cpa_expr.specs.declared.tree.BinOp.TheVariants as bin
use Rattle.cpa_expr.specs.declared.tree.CmpOp.{CmpOp}
use Rattle.cpa_expr.specs.declared.tree.CmpOp.TheVariants as cmp
use Rattle.cpa_expr.specs.declared.tree.Expr.{Expr, out-Expr, roll-Expr}
use Rattle.cpa_expr.specs.declared.tree.Expr.TheViews.{roll-out-Expr}
use Rattle.cpa_expr.specs.declared.tree.Expr.TheVariants.{Const, Read, Un, Bin, Cmp, Cast, And, Or}
use Rattle.cpa_expr.specs.declared.tree.Expr.TheVariants.{Not, Cond, rolls-Const, rolls-Read}
use Rattle.cpa_expr.specs.declared.tree.Expr.TheVariants.{rolls-Un, rolls-Bin, rolls-Cmp}
use Rattle.cpa_expr.specs.declared.tree.Expr.TheVariants.{rolls-Cast, rolls-And, rolls-Or}
use Rattle.cpa_expr.specs.declared.tree.Expr.TheVariants.{rolls-Not, rolls-Cond}
use Rattle.cpa_expr.specs.declared.tree.Expr.TheOpen.{Expr-F}
use Rattle.cpa_expr.specs.declared.tree.Expr.TheFolds.{map-Expr, fold-Expr, fold-roll-Expr}
use Rattle.cpa_expr.specs.Shape.{OfParts, AreCells, type_of, height, IsTyped}
use Rattle.cpa_expr.specs.Cells.{is_within, may_read}
use Rattle.cpa_expr.specs.Laws.{type_at_variants, typed_at_variants, reads_at_variants}
use Rattle.cpa_expr.specs.Laws.{height_at_variants}
use Rattle.cpa_expr.specs.Induction.{Cases, by_variants}
use Rattle.cpa_expr.specs.lemmas.Parts.{by_parts}
use Rattle.cpa_expr.specs.lemmas.CellsRead.{or_left, or_right}
use Rattle.cpa_form_renaming.specs.lemmas.Nodes.{or_cases}
use Rattle.cpa_form_renaming.specs.TrapTests.{no, is_outside, Tested, right_test, node_test}
use Rattle.cpa_form_renaming.specs.TrapTests.{tested_step}
use Rattle.cpa_form_renaming.specs.TrapTests.{trap_test, tested}

-- ---- at the variants

abbrev pair : Expr → Tested
pair = fold-Expr Tested tested_step

abbrev Kept : Expr → Type 0
Kept e = (pair e).whole ≡ e

abbrev wholes : Expr-F Expr → Expr-F Expr
wholes x = map-Expr Tested Expr (λ p. p.whole) (map-Expr Expr Tested pair x)

layer_kept : (x : Expr-F Expr) → OfParts Kept x → wholes x ≡ x
layer_kept (Expr-F.Const t n) h = refl
layer_kept (Expr-F.Read t base len index) h = ap (λ z. Expr-F.Read t base len z) h.0
layer_kept (Expr-F.Un o t arg) h = ap (λ z. Expr-F.Un o t z) h.0
layer_kept (Expr-F.Bin o t left right) h =
    ap (λ z. Expr-F.Bin o t z (pair right).whole) h.0 ∙ ap (λ z. Expr-F.Bin o t left z) (h.1).0
layer_kept (Expr-F.Cmp o t left right) h =
    ap (λ z. Expr-F.Cmp o t z (pair right).whole) h.0 ∙ ap (λ z. Expr-F.Cmp o t left z) (h.1).0
layer_kept (Expr-F.Cast t arg) h = ap (λ z. Expr-F.Cast t z) h.0
layer_kept (Expr-F.And left right) h =
    ap (λ z. Expr-F.And z (pair right).whole) h.0 ∙ ap (λ z. Expr-F.And left z) (h.1).0
layer_kept (Expr-F.Or left right) h =
    ap (λ z. Expr-F.Or z (pair right).whole) h.0 ∙ ap (λ z. Expr-F.Or left z) (h.1).0
layer_kept (Expr-F.Not arg) h = ap (λ z. Expr-F.Not z) h.0
layer_kept (Expr-F.Cond t test first second) h =
    ap (λ z. Expr-F.Cond t z (pair first).whole (pair second).whole) h.0 ∙
    ap (λ z. Expr-F.Cond t test z (pair second).whole) (h.1).0
    ∙ ap (λ z. Expr-F.Cond t test first z) ((h.1).1).0

pair_rolled : (x : Expr-F Expr) → pair (roll-Expr x) ≡ tested_step (map-Expr Expr Tested pair x)
pair_rolled x = fold-roll-Expr Tested tested_step x

kept : (e : Expr) → Kept e
kept = by_parts Kept (λ x h. ap (λ p. p.whole) (pair_rolled x) ∙ ap roll-Expr (layer_kept x h))

pair_is : (e : Expr) → pair e ≡ tested e
pair_is e = ap (λ (w : Expr). with_whole w (pair e)) (kept e)
  where
    with_whole : Expr → Tested → Tested
    with_whole w p = record { whole = w; test = p.test }

pairs_are : (x : Expr-F Expr) → map-Expr Expr Tested pair x ≡ map-Expr Expr Tested tested x
pairs_are (Expr-F.Const t n) = refl
pairs_are (Expr-F.Read t base len index) = ap (λ z. Expr-F.Read t base len z) (pair_is index)
pairs_are (Expr-F.Un o t arg) = ap (λ z. Expr-F.Un o t z) (pair_is arg)
pairs_are (Expr-F.Bin o t left right) =
    ap (λ z. Expr-F.Bin o t z (pair right)) (pair_is left)
    ∙ ap (λ z. Expr-F.Bin o t (tested left) z) (pair_is right)
pairs_are (Expr-F.Cmp o t left right) =
    ap (λ z. Expr-F.Cmp o t z (pair right)) (pair_is left)
    ∙ ap (λ z. Expr-F.Cmp o t (tested left) z) (pair_is right)
pairs_are (Expr-F.Cast t arg) = ap (λ z. Expr-F.Cast t z) (pair_is arg)
pairs_are (Expr-F.And left right) =
    ap (λ z. Expr-F.And z (pair right)) (pair_is left)
    ∙ ap (λ z. Expr-F.And (tested left) z) (pair_is right)
pairs_are (Expr-F.Or left right) =
    ap (λ z. Expr-F.Or z (pair right)) (pair_is left)
    ∙ ap (λ z. Expr-F.Or (tested left) z) (pair_is right)
pairs_are (Expr-F.Not arg) = ap (λ z. Expr-F.Not z) (pair_is arg)
pairs_are (Expr-F.Cond t test first second) =
    ap (λ z. Expr-F.Cond t z (pair first) (pair second)) (pair_is test)
    ∙ ap (λ z. Expr-F.Cond t (tested test) z (pair second)) (pair_is first)
    ∙ ap (λ z. Expr-F.Cond t (tested test) (tested first) z) (pair_is second)

pub test_rolled : (x : Expr-F Expr)
    → trap_test (roll-Expr x) ≡ node_test (map-Expr Expr Tested tested x)
test_rolled x = ap (λ p. p.test) (pair_rolled x) ∙ ap node_test (pairs_are x)

pub test_node : (e : Expr)
    → trap_test e ≡ node_test (map-Expr Expr Tested tested (out-Expr e))
test_node e = ap trap_test (sym (roll-out-Expr e)) ∙ test_rolled (out-Expr e)

test_at : (e : Expr) (x : Expr-F Expr) → roll-Expr x ≡ e
    → trap_test e ≡ node_test (map-Expr Expr Tested tested x)
test_at e x is = ap trap_test (sym is) ∙ test_rolled x

pub test_constant : (t : IntType) (n : ℤ) → trap_test (Const t n) ≡ no
test_constant t n = test_at (Const t n) (Expr-F.Const t n) (rolls-Const t n)

pub test_read : (t : IntType) (base len : ℕ) (index : Expr)
    → trap_test (Read t base len index) ≡ Or (trap_test index) (is_outside index len)
test_read t base len index =
    test_at (Read t base len index) (Expr-F.Read t base len index) (rolls-Read t base len index)

pub test_unary : (o : UnOp) (t : IntType) (arg : Expr) → trap_test (Un o t arg) ≡ trap_test arg
test_unary o t arg = test_at (Un o t arg) (Expr-F.Un o t arg) (rolls-Un o t arg)

pub test_binary : (o : BinOp) (t : IntType) (left right : Expr)
    → trap_test (Bin o t left right) ≡ Or (trap_test left) (right_test o t (tested right))
test_binary o t left right =
    test_at (Bin o t left right) (Expr-F.Bin o t left right) (rolls-Bin o t left right)

pub test_comparison : (o : CmpOp) (t : IntType) (left right : Expr)
    → trap_test (Cmp o t left right) ≡ Or (trap_test left) (trap_test right)
test_comparison o t left right =
    test_at (Cmp o t left right) (Expr-F.Cmp o t left right) (rolls-Cmp o t left right)

pub test_cast : (t : IntType) (arg : Expr) → trap_test (Cast t arg) ≡ trap_test arg
test_cast t arg = test_at (Cast t arg) (Expr-F.Cast t arg) (rolls-Cast t arg)

pub test_and : (left right : Expr)
    → trap_test (And left right) ≡ Or (trap_test left) (And left (trap_test right))
test_and left right = test_at (And left right) (Expr-F.And left right) (rolls-And left right)

pub test_or : (left right : Expr)
    → trap_test (Or left right) ≡ Or (trap_test left) (And (Not left) (trap_test right))
test_or left right = test_at (Or left right) (Expr-F.Or left right) (rolls-Or left right)

pub test_not : (arg : Expr) → trap_test (Not arg) ≡ trap_test arg
test_not arg = test_at (Not arg) (Expr-F.Not arg) (rolls-Not arg)

pub test_cond : (t : IntType) (test first second : Expr)
    → trap_test (Cond t test first second)
    ≡ Or (trap_test test) (Cond ty.I32 test (trap_test first) (trap_test second))
test_cond t test first second =
    test_at (Cond t test first second) (Expr-F.Cond t test first second)
    (rolls-Cond t test first second)

-- ---- its type

or_int : (left right : Expr) → type_of (Or left right) ≡ ty.I32
or_int left right = type_at_variants.disjunction left right

pub is_int : (e : Expr) → type_of (trap_test e) ≡ ty.I32
is_int = by_variants (λ e. type_of (trap_test e) ≡ ty.I32) (record {
  constant = λ t n. ap type_of (test_constant t n) ∙ type_at_variants.constant ty.I32 (pos 0);
  read = λ t base len index h.
      ap type_of (test_read t base len index) ∙ or_int (trap_test index) (is_outside index len);
  unary = λ o t arg h. ap type_of (test_unary o t arg) ∙ h;
  binary = λ o t left right h k.
      ap type_of (test_binary o t left right)
      ∙ or_int (trap_test left) (right_test o t (tested right));
  comparison = λ o t left right h k.
      ap type_of (test_comparison o t left right) ∙ or_int (trap_test left) (trap_test right);
  cast = λ t arg h. ap type_of (test_cast t arg) ∙ h;
  conjunction = λ left right h k.
      ap type_of (test_and left right) ∙ or_int (trap_test left) (And left (trap_test right));
  disjunction = λ left right h k.
      ap type_of (test_or left right)
      ∙ or_int (trap_test left) (And (Not left) (trap_test right));
  negation = λ arg h. ap type_of (test_not arg) ∙ h;
  conditional = λ t test first second h k l.
      ap type_of (test_cond t test first second)
      ∙ or_int (trap_test test) (Cond ty.I32 test (trap_test first) (trap_test second));
})

-- ---- its height

-- a height is 1 at least
tall : (e : Expr) → 1 ≤ height e
tall = by_variants (λ e. 1 ≤ height e) (record {
  constant = λ t n. let h = height_at_variants.constant t n in omega arith;
  read = λ t base len index k. let h = height_at_variants.read t base len index in omega arith;
  unary = λ o t arg k. let h = height_at_variants.unary o t arg in omega arith;
  binary = λ o t left right k l.
      above (max (height left) (height right)) (height_at_variants.binary o t left right);
  comparison = λ o t left right k l.
      above (max (height left) (height right)) (height_at_variants.comparison o t left right);
  cast = λ t arg k. let h = height_at_variants.cast t arg in omega arith;
  conjunction = λ left right k l.
      above (max (height left) (height right)) (height_at_variants.conjunction left right);
  disjunction = λ left right k l.
      above (max (height left) (height right)) (height_at_variants.disjunction left right);
  negation = λ arg k. let h = height_at_variants.negation arg in omega arith;
  conditional = λ t test first second k l m.
      above (max (height test) (max (height first) (height second)))
      (height_at_variants.conditional t test first second);
})
  where
    above : {n : ℕ} (m : ℕ) → n ≡ 1 + m → 1 ≤ n
    above m is = omega (arith, is)

or_height : (left right : Expr) (n : ℕ) → height left ≤ n → height right ≤ n
    → height (Or left right) ≤ suc n
or_height left right n h k =
    subst (λ m. m ≤ suc n) (sym (height_at_variants.disjunction left right))
    (let most = max-le h k in omega (arith, most))

and_height : (left right : Expr) (n : ℕ) → height left ≤ n → height right ≤ n
    → height (And left right) ≤ suc n
and_height left right n h k =
    subst (λ m. m ≤ suc n) (sym (height_at_variants.conjunction left right))
    (let most = max-le h k in omega (arith, most))

not_height : (e : Expr) (n : ℕ) → height e ≤ n → height (Not e) ≤ suc n
not_height e n h = let is = height_at_variants.negation e in omega arith

cond_height : (test first second : Expr) (n : ℕ) → height test ≤ n → height first ≤ n
    → height second ≤ n → height (Cond ty.I32 test first second) ≤ suc n
cond_height test first second n h k l =
    subst (λ m. m ≤ suc n) (sym (height_at_variants.conditional ty.I32 test first second))
    (let most = max-le h (max-le k l) in omega (arith, most))

outside_height : (e : Expr) (n m : ℕ) → suc (height e) ≤ m → height (is_outside e n) ≤ suc m
outside_height e n m h =
    let cast = height_at_variants.cast ty.U64 e in
    let constant = height_at_variants.constant ty.U64 (pos n) in
    let high = tall e in
    let one : height (Cast ty.U64 e) ≤ m = omega arith in
    let other : height (Const ty.U64 (pos n)) ≤ m = omega arith in
    subst (λ k. k ≤ suc m)
    (sym (height_at_variants.comparison cmp.Ge ty.U64 (Cast ty.U64 e) (Const ty.U64 (pos n))))
    (let most = max-le one other in omega (arith, most))

abbrev High : Expr → Type 0
High e = height (trap_test e) ≤ 3 * height e

zero_right_height : (e : Expr) (m : ℕ) → High e → height e ≤ m
    → height (Or (trap_test e) (Not e)) ≤ suc (3 * m)
zero_right_height e m h k =
    let high = tall e in
    let one = not_height e m k in
    or_height (trap_test e) (Not e) (3 * m) (omega (arith, h, k)) (omega (arith, one, high, k))

outside_right_height : (e : Expr) (n m : ℕ) → High e → height e ≤ m
    → height (Or (trap_test e) (is_outside e n)) ≤ suc (3 * m)
outside_right_height e n m h k =
    let high = tall e in
    let one = outside_height e n (suc m) (omega (arith, k)) in
    or_height (trap_test e) (is_outside e n) (3 * m) (omega (arith, h, k))
    (omega (arith, one, high, k))

right_height : (o : BinOp) (t : IntType) (e : Expr) (m : ℕ) → High e → height e ≤ m
    → height (right_test o t (tested e)) ≤ suc (3 * m)
right_height bin.Add t e m h k = omega (arith, h, k)
right_height bin.Sub t e m h k = omega (arith, h, k)
right_height bin.Mul t e m h k = omega (arith, h, k)
right_height bin.BitAnd t e m h k = omega (arith, h, k)
right_height bin.BitOr t e m h k = omega (arith, h, k)
right_height bin.BitXor t e m h k = omega (arith, h, k)
right_height bin.Div t e m h k = zero_right_height e m h k
right_height bin.Rem t e m h k = zero_right_height e m h k
right_height bin.Shl t e m h k = outside_right_height e (width t) m h k
right_height bin.Shr t e m h k = outside_right_height e (width t) m h k

-- a test of so many levels is high enough below a node
below_node : {test : Expr} (e : Expr) (m : ℕ) → trap_test e ≡ test → height e ≡ 1 + m
    → height test ≤ suc (suc (3 * m)) → High e
below_node e m is level most =
    subst (λ d. height d ≤ 3 * height e) (sym is) (omega (arith, level, most))

same_below : (e arg : Expr) → trap_test e ≡ trap_test arg → height e ≡ 1 + height arg → High arg
    → High e
same_below e arg is level h =
    subst (λ d. height d ≤ 3 * height e) (sym is) (omega (arith, level, h))

pub height_at_most : (e : Expr) → height (trap_test e) ≤ 3 * height e
height_at_most = by_variants High (record {
  constant = λ t n.
      let one = height_at_variants.constant ty.I32 (pos 0) in
      let high = tall (Const t n) in
      subst (λ d. height d ≤ 3 * height (Const t n)) (sym (test_constant t n))
      (omega (arith, one, high));
  read = λ t base len index h.
      below_node (Read t base len index) (height index) (test_read t base len index)
      (height_at_variants.read t base len index)
      (let most = outside_right_height index len (height index) h (omega arith) in
      omega (arith, most));
  unary = λ o t arg h.
      same_below (Un o t arg) arg (test_unary o t arg) (height_at_variants.unary o t arg) h;
  binary = λ o t left right h k. two (Bin o t left right) left right
      (right_test o t (tested right)) (test_binary o t left right)
      (height_at_variants.binary o t left right) h
      (right_height o t right (max (height left) (height right)) k
      (le-max_right (height left) (height right)));
  comparison = λ o t left right h k. two (Cmp o t left right) left right (trap_test right)
      (test_comparison o t left right) (height_at_variants.comparison o t left right) h
      (more right (max (height left) (height right)) k
      (le-max_right (height left) (height right)));
  cast = λ t arg h.
      same_below (Cast t arg) arg (test_cast t arg) (height_at_variants.cast t arg) h;
  conjunction = λ left right h k. two (And left right) left right (And left (trap_test right))
      (test_and left right) (height_at_variants.conjunction left right) h
      (guarded left right left k (le-max_left (height left) (height right))
      (le-max_right (height left) (height right)) (let high = tall left in
      let most = le-max_left (height left) (height right) in omega (arith, high, most)));
  disjunction = λ left right h k. two (Or left right) left right
      (And (Not left) (trap_test right)) (test_or left right)
      (height_at_variants.disjunction left right) h
      (guarded left right (Not left) k (le-max_left (height left) (height right))
      (le-max_right (height left) (height right)) (let high = tall left in
      let is = height_at_variants.negation left in
      let most = le-max_left (height left) (height right) in omega (arith, high, is, most)));
  negation = λ arg h.
      same_below (Not arg) arg (test_not arg) (height_at_variants.negation arg) h;
  conditional = λ t test first second h k l.
      let m = max (height test) (max (height first) (height second)) in
      let of_test = le-max_left (height test) (max (height first) (height second)) in
      let of_ends = le-max_right (height test) (max (height first) (height second)) in
      let of_first = le-max_left (height first) (height second) in
      let of_second = le-max_right (height first) (height second) in
      let high = tall test in
      below_node (Cond t test first second) m (test_cond t test first second)
      (height_at_variants.conditional t test first second)
      (or_height (trap_test test) (Cond ty.I32 test (trap_test first) (trap_test second))
      (suc (3 * m)) (omega (arith, h, of_test))
      (cond_height test (trap_test first) (trap_test second) (3 * m) (omega (arith, of_test, high))
      (omega (arith, k, of_first, of_ends)) (omega (arith, l, of_second, of_ends))));
})
  where
    two : (e left right by_right : Expr) → trap_test e ≡ Or (trap_test left) by_right
        → height e ≡ 1 + max (height left) (height right) → High left
        → height by_right ≤ suc (3 * max (height left) (height right)) → High e
    two e left right by_right is level h k =
        let most = le-max_left (height left) (height right) in
        below_node e (max (height left) (height right)) is level
        (or_height (trap_test left) by_right (suc (3 * max (height left) (height right)))
        (omega (arith, h, most)) k)

    more : (e : Expr) (m : ℕ) → High e → height e ≤ m → height (trap_test e) ≤ suc (3 * m)
    more e m h k = omega (arith, h, k)

    guarded : (left right guard : Expr) → High right
        → height left ≤ max (height left) (height right)
        → height right ≤ max (height left) (height right)
        → height guard ≤ 3 * max (height left) (height right)
        → height (And guard (trap_test right)) ≤ suc (3 * max (height left) (height right))
    guarded left right guard h below also most =
        and_height guard (trap_test right) (3 * max (height left) (height right)) most
        (omega (arith, h, also))

-- ---- what it reads

abbrev Below : ℕ → Expr → Type 0
Below cell e = IsTrue (may_read (trap_test e) cell) → IsTrue (may_read e cell)

module _ (cell : ℕ) where
  abbrev read_by : Expr → Bool
  read_by e = may_read e cell

  of_or : {Q : Type 0} (a b : Expr) → IsTrue (read_by (Or a b)) → (IsTrue (read_by a) → Q)
      → (IsTrue (read_by b) → Q) → Q
  of_or a b h k l =
      or_cases (read_by a) (read_by b) (sym (reads_at_variants.disjunction a b cell) ∙ h) k l

  of_and : {Q : Type 0} (a b : Expr) → IsTrue (read_by (And a b)) → (IsTrue (read_by a) → Q)
      → (IsTrue (read_by b) → Q) → Q
  of_and a b h k l =
      or_cases (read_by a) (read_by b) (sym (reads_at_variants.conjunction a b cell) ∙ h) k l

  of_not : (a : Expr) → IsTrue (read_by (Not a)) → IsTrue (read_by a)
  of_not a h = sym (reads_at_variants.negation a cell) ∙ h

  of_outside : (a : Expr) (n : ℕ) → IsTrue (read_by (is_outside a n)) → IsTrue (read_by a)
  of_outside a n h =
      or_cases (read_by (Cast ty.U64 a)) (read_by (Const ty.U64 (pos n)))
      (sym (reads_at_variants.comparison cmp.Ge ty.U64 (Cast ty.U64 a) (Const ty.U64 (pos n)) cell)
      ∙ h)
      (λ k. sym (reads_at_variants.cast ty.U64 a cell) ∙ k)
      (λ k. let none = reads_at_variants.constant ty.U64 (pos n) cell in absurd (cc))

  of_right : (o : BinOp) (t : IntType) (e : Expr) → Below cell e
      → IsTrue (read_by (right_test o t (tested e))) → IsTrue (read_by e)
  of_right bin.Add t e h k = h k
  of_right bin.Sub t e h k = h k
  of_right bin.Mul t e h k = h k
  of_right bin.BitAnd t e h k = h k
  of_right bin.BitOr t e h k = h k
  of_right bin.BitXor t e h k = h k
  of_right bin.Div t e h k = of_or (trap_test e) (Not e) k h (of_not e)
  of_right bin.Rem t e h k = of_or (trap_test e) (Not e) k h (of_not e)
  of_right bin.Shl t e h k =
      of_or (trap_test e) (is_outside e (width t)) k h (of_outside e (width t))
  of_right bin.Shr t e h k =
      of_or (trap_test e) (is_outside e (width t)) k h (of_outside e (width t))

  at_test : {test : Expr} (e : Expr) → trap_test e ≡ test → IsTrue (read_by (trap_test e))
      → IsTrue (read_by test)
  at_test e is h = subst (λ d. IsTrue (read_by d)) is h

  below_variants : Cases (Below cell)
  below_variants = record {
    constant = λ t n h.
        let none = reads_at_variants.constant ty.I32 (pos 0) cell in
        let k = at_test (Const t n) (test_constant t n) h in absurd (cc);
    read = λ t base len index h k.
        let inner : IsTrue (read_by index) =
        of_or (trap_test index) (is_outside index len)
        (at_test (Read t base len index) (test_read t base len index) k) h
        (of_outside index len) in
        reads_at_variants.read t base len index cell
        ∙ or_right (is_within base len cell) (read_by index) inner;
    unary = λ o t arg h k.
        reads_at_variants.unary o t arg cell ∙ h (at_test (Un o t arg) (test_unary o t arg) k);
    binary = λ o t left right h l k.
        reads_at_variants.binary o t left right cell
        ∙ of_or (trap_test left) (right_test o t (tested right))
        (at_test (Bin o t left right) (test_binary o t left right) k)
        (λ m. or_left (read_by left) (read_by right) (h m))
        (λ m. or_right (read_by left) (read_by right) (of_right o t right l m));
    comparison = λ o t left right h l k.
        reads_at_variants.comparison o t left right cell
        ∙ of_or (trap_test left) (trap_test right)
        (at_test (Cmp o t left right) (test_comparison o t left right) k)
        (λ m. or_left (read_by left) (read_by right) (h m))
        (λ m. or_right (read_by left) (read_by right) (l m));
    cast = λ t arg h k.
        reads_at_variants.cast t arg cell ∙ h (at_test (Cast t arg) (test_cast t arg) k);
    conjunction = λ left right h l k.
        reads_at_variants.conjunction left right cell
        ∙ of_or (trap_test left) (And left (trap_test right))
        (at_test (And left right) (test_and left right) k)
        (λ m. or_left (read_by left) (read_by right) (h m))
        (λ m. of_and left (trap_test right) m (or_left (read_by left) (read_by right))
        (λ n. or_right (read_by left) (read_by right) (l n)));
    disjunction = λ left right h l k.
        reads_at_variants.disjunction left right cell
        ∙ of_or (trap_test left) (And (Not left) (trap_test right))
        (at_test (Or left right) (test_or left right) k)
        (λ m. or_left (read_by left) (read_by right) (h m))
        (λ m. of_and (Not left) (trap_test right) m
        (λ n. or_left (read_by left) (read_by right) (of_not left n))
        (λ n. or_right (read_by left) (read_by right) (l n)));
    negation = λ arg h k.
        reads_at_variants.negation arg cell ∙ h (at_test (Not arg) (test_not arg) k);
    conditional = λ t test first second h l m k.
        reads_at_variants.conditional t test first second cell
        ∙ of_or (trap_test test) (Cond ty.I32 test (trap_test first) (trap_test second))
        (at_test (Cond t test first second) (test_cond t test first second) k)
        (λ n. in_first test first second (or_left (read_by test) (read_by first) (h n)))
        (λ n. or_cases (read_by test || read_by (trap_test first)) (read_by (trap_test second))
        (sym (reads_at_variants.conditional ty.I32 test (trap_test first) (trap_test second) cell)
        ∙ n)
        (λ p. in_first test first second
        (or_cases (read_by test) (read_by (trap_test first)) p
        (or_left (read_by test) (read_by first))
        (λ q. or_right (read_by test) (read_by first) (l q))))
        (λ p. or_right (read_by test || read_by first) (read_by second) (m p)));
  }
    where
      in_first : (test first second : Expr) → IsTrue (read_by test || read_by first)
          → IsTrue (read_by test || read_by first || read_by second)
      in_first test first second n = or_left (read_by test || read_by first) (read_by second) n

pub reads : (e : Expr) (cell : ℕ) → IsTrue (may_read (trap_test e) cell) → IsTrue (may_read e cell)
reads e cell = by_variants (Below cell) (below_variants cell) e

-- ---- well typed

module _ (cells : List IntType) (few : length cells < 2 ^ 63) where
  abbrev Fits : Expr → Type 0
  Fits e = IsTyped cells e → IsTyped cells (trap_test e)

  or_typed : (a b : Expr) → IsTyped cells a → IsTyped cells b → IsTyped cells (Or a b)
  or_typed a b h k = (typed_at_variants.disjunction cells a b).1 (h, k)

  and_typed : (a b : Expr) → IsTyped cells a → IsTyped cells b → IsTyped cells (And a b)
  and_typed a b h k = (typed_at_variants.conjunction cells a b).1 (h, k)

  not_typed : (a : Expr) → IsTyped cells a → IsTyped cells (Not a)
  not_typed a h = (typed_at_variants.negation cells a).1 h

  outside_typed : (a : Expr) (n : ℕ) → n < 2 ^ 63 → IsTyped cells a → IsTyped cells (is_outside a n)
  outside_typed a n small h =
      (typed_at_variants.comparison cells cmp.Ge ty.U64 (Cast ty.U64 a) (Const ty.U64 (pos n))).1 (
        type_at_variants.cast ty.U64 a,
        type_at_variants.constant ty.U64 (pos n),
        (typed_at_variants.cast cells ty.U64 a).1 h,
        (typed_at_variants.constant cells ty.U64 (pos n)).1 (
          omega (arith, ints),
          omega (arith, ints, small),
        ),
      )

  pub narrow : (t : IntType) → width t < 2 ^ 63
  narrow ty.Bool = omega arith
  narrow ty.I8 = omega arith
  narrow ty.U8 = omega arith
  narrow ty.I16 = omega arith
  narrow ty.U16 = omega arith
  narrow ty.I32 = omega arith
  narrow ty.U32 = omega arith
  narrow ty.I64 = omega arith
  narrow ty.U64 = omega arith

  right_typed : (o : BinOp) (t : IntType) (e : Expr) → IsTyped cells e → IsTyped cells (trap_test e)
      → IsTyped cells (right_test o t (tested e))
  right_typed bin.Add t e h k = k
  right_typed bin.Sub t e h k = k
  right_typed bin.Mul t e h k = k
  right_typed bin.BitAnd t e h k = k
  right_typed bin.BitOr t e h k = k
  right_typed bin.BitXor t e h k = k
  right_typed bin.Div t e h k = or_typed (trap_test e) (Not e) k (not_typed e h)
  right_typed bin.Rem t e h k = or_typed (trap_test e) (Not e) k (not_typed e h)
  right_typed bin.Shl t e h k =
      or_typed (trap_test e) (is_outside e (width t)) k (outside_typed e (width t) (narrow t) h)
  right_typed bin.Shr t e h k =
      or_typed (trap_test e) (is_outside e (width t)) k (outside_typed e (width t) (narrow t) h)

  -- an array has no more cells than there are
  pub short : (base len : ℕ) (t : IntType) → 1 ≤ len → AreCells cells base len t → len < 2 ^ 63
  short base zero t some are = absurd (omega (arith, some))
  short base (suc n) t some are =
      let within = slice_get_within cells (base + n) t (are n (omega arith)) in
      omega (arith, within, few)

  as_test : {test : Expr} (e : Expr) → trap_test e ≡ test → IsTyped cells test
      → IsTyped cells (trap_test e)
  as_test e is h = subst (IsTyped cells) (sym is) h

  fits_variants : Cases Fits
  fits_variants = record {
    constant = λ t n h.
        as_test (Const t n) (test_constant t n)
        ((typed_at_variants.constant cells ty.I32 (pos 0)).1 (
          omega (arith, ints),
          omega (arith, ints),
        ));
    read = λ t base len index h typed.
        let parts = (typed_at_variants.read cells t base len index).0 typed in
        as_test (Read t base len index) (test_read t base len index)
        (or_typed (trap_test index) (is_outside index len) (h parts.2)
        (outside_typed index len (short base len t parts.0 parts.1) parts.2));
    unary = λ o t arg h typed.
        as_test (Un o t arg) (test_unary o t arg)
        (h ((typed_at_variants.unary cells o t arg).0 typed).2);
    binary = λ o t left right h k typed.
        let parts = (typed_at_variants.binary cells o t left right).0 typed in
        as_test (Bin o t left right) (test_binary o t left right)
        (or_typed (trap_test left) (right_test o t (tested right)) (h parts.3)
        (right_typed o t right parts.4 (k parts.4)));
    comparison = λ o t left right h k typed.
        let parts = (typed_at_variants.comparison cells o t left right).0 typed in
        as_test (Cmp o t left right) (test_comparison o t left right)
        (or_typed (trap_test left) (trap_test right) (h parts.2) (k parts.3));
    cast = λ t arg h typed.
        as_test (Cast t arg) (test_cast t arg) (h ((typed_at_variants.cast cells t arg).0 typed));
    conjunction = λ left right h k typed.
        let parts = (typed_at_variants.conjunction cells left right).0 typed in
        as_test (And left right) (test_and left right)
        (or_typed (trap_test left) (And left (trap_test right)) (h parts.0)
        (and_typed left (trap_test right) parts.0 (k parts.1)));
    disjunction = λ left right h k typed.
        let parts = (typed_at_variants.disjunction cells left right).0 typed in
        as_test (Or left right) (test_or left right)
        (or_typed (trap_test left) (And (Not left) (trap_test right)) (h parts.0)
        (and_typed (Not left) (trap_test right) (not_typed left parts.0) (k parts.1)));
    negation = λ arg h typed.
        as_test (Not arg) (test_not arg) (h ((typed_at_variants.negation cells arg).0 typed));
    conditional = λ t test first second h k l typed.
        let parts = (typed_at_variants.conditional cells t test first second).0 typed in
        as_test (Cond t test first second) (test_cond t test first second)
        (or_typed (trap_test test) (Cond ty.I32 test (trap_test first) (trap_test second))
        (h parts.2)
        ((typed_at_variants.conditional cells ty.I32 test (trap_test first) (trap_test second)).1
        (is_int first, is_int second, parts.2, k parts.3, l parts.4)));
  }

pub typed : (cells : List IntType) (e : Expr) → length cells < 2 ^ 63 → IsTyped cells e
    → IsTyped cells (trap_test e)
typed cells e few = by_variants (Fits cells few) (fits_variants cells few) e
