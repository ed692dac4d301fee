-- What is said of an expression, at each variant: the equation at the layer, and that the layer
-- rolls to the variant.
use Rattle.std.proofs.Common.{◌≡◌, ◌↔◌, ℕ, ◌+◌, ◌≤◌, max, ℤ, Bool, true, false, ◌||◌, IsTrue, List}
use Rattle.std.proofs.Common.{Some, option_map, option_and_then, refl, sym, ap, ◌∙◌, subst, arith}
use Rattle.cpa_ints.specs.declared.integers.IntType.{IntType}
use Rattle.cpa_ints.specs.declared.integers.IntType.TheVariants as ty
use Rattle.cpa_ints.specs.Integers.{IsInRange}
use Rattle.cpa_ints.specs.Wrapping.{wrapped}
use Rattle.cpa_expr.specs.declared.tree.UnOp.{UnOp}
use Rattle.cpa_expr.specs.declared.tree.BinOp.{BinOp}
use Rattle.cpa_expr.specs.declared.tree.CmpOp.{CmpOp}
use Rattle.cpa_expr.specs.declared.tree.Expr.{Expr, roll-Expr}
use Rattle.cpa_expr.specs.declared.tree.Expr.TheVariants.{Const, Read, Un, Bin, Cmp, Cast, And, Or}
use Rattle.cpa_expr.specs.declared.tree.Expr.TheVariants.{Not, Cond, rolls-Const, rolls-Read}
use Rattle.cpa_expr.specs.declared.tree.Expr.TheVariants.{rolls-Un, rolls-Bin, rolls-Cmp}
use Rattle.cpa_expr.specs.declared.tree.Expr.TheVariants.{rolls-Cast, rolls-And, rolls-Or}
use Rattle.cpa_expr.specs.declared.tree.Expr.TheVariants.{rolls-Not, rolls-Cond}
use Rattle.cpa_expr.specs.declared.tree.Expr.TheOpen.{Expr-F}
use Rattle.cpa_expr.specs.declared.tree.Expr.TheFolds.{map-Expr}
use Rattle.cpa_expr.specs.Shape.{is_arithmetic, is_shift, node_type, type_of, size_step, size}
use Rattle.cpa_expr.specs.Shape.{height_step, height, AreCells, OfParts, IsTypedHere, IsTyped}
use Rattle.cpa_expr.specs.Values.{un_value, bin_value, cell_at, evaluated, comparison, logical_and}
use Rattle.cpa_expr.specs.Values.{logical_or, logical_not, conditional, value_step, value_of}
use Rattle.cpa_expr.specs.Cells.{is_within, reads_step, may_read}
use Rattle.cpa_expr.specs.lemmas.Parts.{every_rolled, every_of_parts}
use Rattle.cpa_expr.specs.lemmas.Layers.{values_in, value_rolled, type_rolled, size_rolled}
use Rattle.cpa_expr.specs.lemmas.Layers.{height_rolled, reads_rolled}

-- an equation at the layer, at the expression
value_at : (e : Expr) (x : Expr-F Expr) (values : List ℤ) → roll-Expr x ≡ e →
    value_of e values ≡ value_step values (values_in values x)
value_at e x values is = ap (λ d. value_of d values) (sym is) ∙ value_rolled values x

type_at : (e : Expr) (x : Expr-F Expr) → roll-Expr x ≡ e →
    type_of e ≡ node_type (map-Expr Expr IntType type_of x)
type_at e x is = ap type_of (sym is) ∙ type_rolled x

reads_at : (e : Expr) (x : Expr-F Expr) (cell : ℕ) → roll-Expr x ≡ e →
    may_read e cell ≡ reads_step cell (map-Expr Expr Bool (λ d. may_read d cell) x)
reads_at e x cell is = ap (λ d. may_read d cell) (sym is) ∙ reads_rolled cell x

size_at : (e : Expr) (x : Expr-F Expr) → roll-Expr x ≡ e →
    size e ≡ size_step (map-Expr Expr ℕ size x)
size_at e x is = ap size (sym is) ∙ size_rolled x

height_at : (e : Expr) (x : Expr-F Expr) → roll-Expr x ≡ e →
    height e ≡ height_step (map-Expr Expr ℕ height x)
height_at e x is = ap height (sym is) ∙ height_rolled x

-- well typed at the layer: the node and its parts
typed_at : (cells : List IntType) (e : Expr) (x : Expr-F Expr) → roll-Expr x ≡ e → IsTyped cells e ↔
    (IsTypedHere cells x × OfParts (IsTyped cells) x)
typed_at cells e x is =
    subst (λ d. IsTyped cells d ↔ (IsTypedHere cells x × OfParts (IsTyped cells) x)) is
    (every_rolled (IsTypedHere cells) x, λ h. every_of_parts (IsTypedHere cells) x h.0 h.1)

-- ---- the value

pub value_constant : (t : IntType) (n : ℤ) (values : List ℤ)
    → value_of (Const t n) values ≡ Some n
value_constant t n values = value_at (Const t n) (Expr-F.Const t n) values (rolls-Const t n)

pub value_read : (t : IntType) (base len : ℕ) (index : Expr) (values : List ℤ)
    → value_of (Read t base len index) values ≡ option_and_then (cell_at values base len)
    (value_of index values)
value_read t base len index values =
    value_at (Read t base len index) (Expr-F.Read t base len index) values
    (rolls-Read t base len index)

pub value_unary : (o : UnOp) (t : IntType) (arg : Expr) (values : List ℤ)
    → value_of (Un o t arg) values ≡ option_map (un_value o t) (value_of arg values)
value_unary o t arg values = value_at (Un o t arg) (Expr-F.Un o t arg) values (rolls-Un o t arg)

pub value_binary : (o : BinOp) (t : IntType) (left right : Expr) (values : List ℤ)
    → value_of (Bin o t left right) values ≡ evaluated (bin_value o t) (value_of left values)
    (value_of right values)
value_binary o t left right values =
    value_at (Bin o t left right) (Expr-F.Bin o t left right) values (rolls-Bin o t left right)

pub value_comparison : (o : CmpOp) (t : IntType) (left right : Expr) (values : List ℤ)
    → value_of (Cmp o t left right) values ≡ comparison o (value_of left values)
    (value_of right values)
value_comparison o t left right values =
    value_at (Cmp o t left right) (Expr-F.Cmp o t left right) values (rolls-Cmp o t left right)

pub value_cast : (t : IntType) (arg : Expr) (values : List ℤ)
    → value_of (Cast t arg) values ≡ option_map (wrapped t) (value_of arg values)
value_cast t arg values = value_at (Cast t arg) (Expr-F.Cast t arg) values (rolls-Cast t arg)

pub value_conjunction : (left right : Expr) (values : List ℤ)
    → value_of (And left right) values ≡ logical_and (value_of left values) (value_of right values)
value_conjunction left right values =
    value_at (And left right) (Expr-F.And left right) values (rolls-And left right)

pub value_disjunction : (left right : Expr) (values : List ℤ)
    → value_of (Or left right) values ≡ logical_or (value_of left values) (value_of right values)
value_disjunction left right values =
    value_at (Or left right) (Expr-F.Or left right) values (rolls-Or left right)

pub value_negation : (arg : Expr) (values : List ℤ)
    → value_of (Not arg) values ≡ logical_not (value_of arg values)
value_negation arg values = value_at (Not arg) (Expr-F.Not arg) values (rolls-Not arg)

pub value_conditional : (t : IntType) (test first second : Expr) (values : List ℤ)
    → value_of (Cond t test first second) values ≡ conditional (value_of test values)
    (value_of first values) (value_of second values)
value_conditional t test first second values =
    value_at (Cond t test first second) (Expr-F.Cond t test first second) values
    (rolls-Cond t test first second)

-- ---- the type

pub type_constant : (t : IntType) (n : ℤ) → type_of (Const t n) ≡ t
type_constant t n = type_at (Const t n) (Expr-F.Const t n) (rolls-Const t n)

pub type_read : (t : IntType) (base len : ℕ) (index : Expr) → type_of (Read t base len index) ≡ t
type_read t base len index =
    type_at (Read t base len index) (Expr-F.Read t base len index) (rolls-Read t base len index)

pub type_unary : (o : UnOp) (t : IntType) (arg : Expr) → type_of (Un o t arg) ≡ t
type_unary o t arg = type_at (Un o t arg) (Expr-F.Un o t arg) (rolls-Un o t arg)

pub type_binary : (o : BinOp) (t : IntType) (left right : Expr) → type_of (Bin o t left right) ≡ t
type_binary o t left right =
    type_at (Bin o t left right) (Expr-F.Bin o t left right) (rolls-Bin o t left right)

pub type_comparison : (o : CmpOp) (t : IntType) (left right : Expr) →
    type_of (Cmp o t left right) ≡ ty.I32
type_comparison o t left right =
    type_at (Cmp o t left right) (Expr-F.Cmp o t left right) (rolls-Cmp o t left right)

pub type_cast : (t : IntType) (arg : Expr) → type_of (Cast t arg) ≡ t
type_cast t arg = type_at (Cast t arg) (Expr-F.Cast t arg) (rolls-Cast t arg)

pub type_conjunction : (left right : Expr) → type_of (And left right) ≡ ty.I32
type_conjunction left right =
    type_at (And left right) (Expr-F.And left right) (rolls-And left right)

pub type_disjunction : (left right : Expr) → type_of (Or left right) ≡ ty.I32
type_disjunction left right = type_at (Or left right) (Expr-F.Or left right) (rolls-Or left right)

pub type_negation : (arg : Expr) → type_of (Not arg) ≡ ty.I32
type_negation arg = type_at (Not arg) (Expr-F.Not arg) (rolls-Not arg)

pub type_conditional : (t : IntType) (test first second : Expr) →
    type_of (Cond t test first second) ≡ t
type_conditional t test first second =
    type_at (Cond t test first second) (Expr-F.Cond t test first second)
    (rolls-Cond t test first second)

-- ---- the typing

pub typed_constant : (cells : List IntType) (t : IntType) (n : ℤ)
    → IsTyped cells (Const t n) ↔ IsInRange t n
typed_constant cells t n =
    let whole = typed_at cells (Const t n) (Expr-F.Const t n) (rolls-Const t n) in
    (λ e. let h = whole.0 e in h.0, λ k. whole.1 (k, tt))

pub typed_read : (cells : List IntType) (t : IntType) (base len : ℕ) (index : Expr)
    → IsTyped cells (Read t base len index) ↔
    ((1 ≤ len) × AreCells cells base len t × IsTyped cells index)
typed_read cells t base len index =
    let whole = typed_at cells (Read t base len index) (Expr-F.Read t base len index)
    (rolls-Read t base len index) in
    (λ e. let h = whole.0 e in ((h.0).0, (h.0).1, (h.1).0), λ k. whole.1 ((k.0, k.1), (k.2, tt)))

pub typed_unary : (cells : List IntType) (o : UnOp) (t : IntType) (arg : Expr)
    → IsTyped cells (Un o t arg) ↔
    (IsTrue (is_arithmetic t) × (type_of arg ≡ t) × IsTyped cells arg)
typed_unary cells o t arg =
    let whole = typed_at cells (Un o t arg) (Expr-F.Un o t arg) (rolls-Un o t arg) in
    (λ e. let h = whole.0 e in ((h.0).0, (h.0).1, (h.1).0), λ k. whole.1 ((k.0, k.1), (k.2, tt)))

pub typed_binary : (cells : List IntType) (o : BinOp) (t : IntType) (left right : Expr)
    → IsTyped cells (Bin o t left right) ↔
    (IsTrue (is_arithmetic t) × (type_of left ≡ t) × (is_shift o ≡ false → type_of right ≡ t)
    × IsTyped cells left × IsTyped cells right)
typed_binary cells o t left right =
    let whole = typed_at cells (Bin o t left right) (Expr-F.Bin o t left right)
    (rolls-Bin o t left right) in (
      λ e. let h = whole.0 e in ((h.0).0, (h.0).1, (h.0).2, (h.1).0, ((h.1).1).0),
      λ k. whole.1 ((k.0, k.1, k.2), (k.3, (k.4, tt))),
    )

pub typed_comparison : (cells : List IntType) (o : CmpOp) (t : IntType) (left right : Expr)
    → IsTyped cells (Cmp o t left right) ↔
    ((type_of left ≡ t) × (type_of right ≡ t) × IsTyped cells left × IsTyped cells right)
typed_comparison cells o t left right =
    let whole = typed_at cells (Cmp o t left right) (Expr-F.Cmp o t left right)
    (rolls-Cmp o t left right) in (
      λ e. let h = whole.0 e in ((h.0).0, (h.0).1, (h.1).0, ((h.1).1).0),
      λ k. whole.1 ((k.0, k.1), (k.2, (k.3, tt))),
    )

pub typed_cast : (cells : List IntType) (t : IntType) (arg : Expr)
    → IsTyped cells (Cast t arg) ↔ IsTyped cells arg
typed_cast cells t arg =
    let whole = typed_at cells (Cast t arg) (Expr-F.Cast t arg) (rolls-Cast t arg) in
    (λ e. let h = whole.0 e in (h.1).0, λ k. whole.1 (tt, (k, tt)))

pub typed_conjunction : (cells : List IntType) (left right : Expr)
    → IsTyped cells (And left right) ↔ (IsTyped cells left × IsTyped cells right)
typed_conjunction cells left right =
    let whole = typed_at cells (And left right) (Expr-F.And left right) (rolls-And left right) in
    (λ e. let h = whole.0 e in ((h.1).0, ((h.1).1).0), λ k. whole.1 (tt, (k.0, (k.1, tt))))

pub typed_disjunction : (cells : List IntType) (left right : Expr)
    → IsTyped cells (Or left right) ↔ (IsTyped cells left × IsTyped cells right)
typed_disjunction cells left right =
    let whole = typed_at cells (Or left right) (Expr-F.Or left right) (rolls-Or left right) in
    (λ e. let h = whole.0 e in ((h.1).0, ((h.1).1).0), λ k. whole.1 (tt, (k.0, (k.1, tt))))

pub typed_negation : (cells : List IntType) (arg : Expr)
    → IsTyped cells (Not arg) ↔ IsTyped cells arg
typed_negation cells arg =
    let whole = typed_at cells (Not arg) (Expr-F.Not arg) (rolls-Not arg) in
    (λ e. let h = whole.0 e in (h.1).0, λ k. whole.1 (tt, (k, tt)))

pub typed_conditional : (cells : List IntType) (t : IntType) (test first second : Expr)
    → IsTyped cells (Cond t test first second) ↔
    ((type_of first ≡ t) × (type_of second ≡ t) × IsTyped cells test × IsTyped cells first
    × IsTyped cells second)
typed_conditional cells t test first second =
    let whole = typed_at cells (Cond t test first second) (Expr-F.Cond t test first second)
    (rolls-Cond t test first second) in (
      λ e. let h = whole.0 e in ((h.0).0, (h.0).1, (h.1).0, ((h.1).1).0, (((h.1).1).1).0),
      λ k. whole.1 ((k.0, k.1), (k.2, (k.3, (k.4, tt)))),
    )

-- ---- the cells that may be read

or_false : (a : Bool) → (a || false) ≡ a
or_false true = refl
or_false false = refl

or_three : (a b c : Bool) → (a || (b || (c || false))) ≡ (a || b || c)
or_three true b c = refl
or_three false b c = ap (λ d. b || d) (or_false c)

pub reads_constant : (t : IntType) (n : ℤ) (cell : ℕ) → may_read (Const t n) cell ≡ false
reads_constant t n cell = reads_at (Const t n) (Expr-F.Const t n) cell (rolls-Const t n)

pub reads_read : (t : IntType) (base len : ℕ) (index : Expr) (cell : ℕ) →
    may_read (Read t base len index) cell ≡ (is_within base len cell || may_read index cell)
reads_read t base len index cell =
    reads_at (Read t base len index) (Expr-F.Read t base len index) cell
    (rolls-Read t base len index)
    ∙ ap (λ b. is_within base len cell || b) (or_false (may_read index cell))

pub reads_unary : (o : UnOp) (t : IntType) (arg : Expr) (cell : ℕ) →
    may_read (Un o t arg) cell ≡ may_read arg cell
reads_unary o t arg cell =
    reads_at (Un o t arg) (Expr-F.Un o t arg) cell (rolls-Un o t arg) ∙ or_false (may_read arg cell)

pub reads_binary : (o : BinOp) (t : IntType) (left right : Expr) (cell : ℕ) →
    may_read (Bin o t left right) cell ≡ (may_read left cell || may_read right cell)
reads_binary o t left right cell =
    reads_at (Bin o t left right) (Expr-F.Bin o t left right) cell (rolls-Bin o t left right)
    ∙ ap (λ b. may_read left cell || b) (or_false (may_read right cell))

pub reads_comparison : (o : CmpOp) (t : IntType) (left right : Expr) (cell : ℕ) →
    may_read (Cmp o t left right) cell ≡ (may_read left cell || may_read right cell)
reads_comparison o t left right cell =
    reads_at (Cmp o t left right) (Expr-F.Cmp o t left right) cell (rolls-Cmp o t left right)
    ∙ ap (λ b. may_read left cell || b) (or_false (may_read right cell))

pub reads_cast : (t : IntType) (arg : Expr) (cell : ℕ) →
    may_read (Cast t arg) cell ≡ may_read arg cell
reads_cast t arg cell =
    reads_at (Cast t arg) (Expr-F.Cast t arg) cell (rolls-Cast t arg) ∙ or_false (may_read arg cell)

pub reads_conjunction : (left right : Expr) (cell : ℕ) →
    may_read (And left right) cell ≡ (may_read left cell || may_read right cell)
reads_conjunction left right cell =
    reads_at (And left right) (Expr-F.And left right) cell (rolls-And left right)
    ∙ ap (λ b. may_read left cell || b) (or_false (may_read right cell))

pub reads_disjunction : (left right : Expr) (cell : ℕ) →
    may_read (Or left right) cell ≡ (may_read left cell || may_read right cell)
reads_disjunction left right cell =
    reads_at (Or left right) (Expr-F.Or left right) cell (rolls-Or left right)
    ∙ ap (λ b. may_read left cell || b) (or_false (may_read right cell))

pub reads_negation : (arg : Expr) (cell : ℕ) → may_read (Not arg) cell ≡ may_read arg cell
reads_negation arg cell =
    reads_at (Not arg) (Expr-F.Not arg) cell (rolls-Not arg) ∙ or_false (may_read arg cell)

pub reads_conditional : (t : IntType) (test first second : Expr) (cell : ℕ) →
    may_read (Cond t test first second) cell ≡ (may_read test cell || may_read first cell ||
    may_read second cell)
reads_conditional t test first second cell =
    reads_at (Cond t test first second) (Expr-F.Cond t test first second) cell
    (rolls-Cond t test first second)
    ∙ or_three (may_read test cell) (may_read first cell) (may_read second cell)

-- ---- the size

pub size_constant : (t : IntType) (n : ℤ) → size (Const t n) ≡ 1
size_constant t n =
    let whole = size_at (Const t n) (Expr-F.Const t n) (rolls-Const t n) in omega (arith, whole)

pub size_read : (t : IntType) (base len : ℕ) (index : Expr) →
    size (Read t base len index) ≡ 1 + size index
size_read t base len index =
    let whole = size_at (Read t base len index) (Expr-F.Read t base len index)
    (rolls-Read t base len index) in omega (arith, whole)

pub size_unary : (o : UnOp) (t : IntType) (arg : Expr) → size (Un o t arg) ≡ 1 + size arg
size_unary o t arg =
    let whole = size_at (Un o t arg) (Expr-F.Un o t arg) (rolls-Un o t arg) in omega (arith, whole)

pub size_binary : (o : BinOp) (t : IntType) (left right : Expr) →
    size (Bin o t left right) ≡ 1 + size left + size right
size_binary o t left right =
    let whole = size_at (Bin o t left right) (Expr-F.Bin o t left right)
    (rolls-Bin o t left right) in omega (arith, whole)

pub size_comparison : (o : CmpOp) (t : IntType) (left right : Expr) →
    size (Cmp o t left right) ≡ 1 + size left + size right
size_comparison o t left right =
    let whole = size_at (Cmp o t left right) (Expr-F.Cmp o t left right)
    (rolls-Cmp o t left right) in omega (arith, whole)

pub size_cast : (t : IntType) (arg : Expr) → size (Cast t arg) ≡ 1 + size arg
size_cast t arg =
    let whole = size_at (Cast t arg) (Expr-F.Cast t arg) (rolls-Cast t arg) in omega (arith, whole)

pub size_conjunction : (left right : Expr) → size (And left right) ≡ 1 + size left + size right
size_conjunction left right =
    let whole = size_at (And left right) (Expr-F.And left right) (rolls-And left right) in
    omega (arith, whole)

pub size_disjunction : (left right : Expr) → size (Or left right) ≡ 1 + size left + size right
size_disjunction left right =
    let whole = size_at (Or left right) (Expr-F.Or left right) (rolls-Or left right) in
    omega (arith, whole)

pub size_negation : (arg : Expr) → size (Not arg) ≡ 1 + size arg
size_negation arg =
    let whole = size_at (Not arg) (Expr-F.Not arg) (rolls-Not arg) in omega (arith, whole)

pub size_conditional : (t : IntType) (test first second : Expr) →
    size (Cond t test first second) ≡ 1 + size test + size first + size second
size_conditional t test first second =
    let whole = size_at (Cond t test first second) (Expr-F.Cond t test first second)
    (rolls-Cond t test first second) in omega (arith, whole)

-- ---- the height

pub height_constant : (t : IntType) (n : ℤ) → height (Const t n) ≡ 1
height_constant t n =
    let whole = height_at (Const t n) (Expr-F.Const t n) (rolls-Const t n) in omega (arith, whole)

pub height_read : (t : IntType) (base len : ℕ) (index : Expr) →
    height (Read t base len index) ≡ 1 + height index
height_read t base len index =
    let whole = height_at (Read t base len index) (Expr-F.Read t base len index)
    (rolls-Read t base len index) in omega (arith, whole)

pub height_unary : (o : UnOp) (t : IntType) (arg : Expr) → height (Un o t arg) ≡ 1 + height arg
height_unary o t arg =
    let whole = height_at (Un o t arg) (Expr-F.Un o t arg) (rolls-Un o t arg) in
    omega (arith, whole)

pub height_binary : (o : BinOp) (t : IntType) (left right : Expr) →
    height (Bin o t left right) ≡ 1 + max (height left) (height right)
height_binary o t left right =
    let whole = height_at (Bin o t left right) (Expr-F.Bin o t left right)
    (rolls-Bin o t left right) in omega (arith, whole)

pub height_comparison : (o : CmpOp) (t : IntType) (left right : Expr) →
    height (Cmp o t left right) ≡ 1 + max (height left) (height right)
height_comparison o t left right =
    let whole = height_at (Cmp o t left right) (Expr-F.Cmp o t left right)
    (rolls-Cmp o t left right) in omega (arith, whole)

pub height_cast : (t : IntType) (arg : Expr) → height (Cast t arg) ≡ 1 + height arg
height_cast t arg =
    let whole = height_at (Cast t arg) (Expr-F.Cast t arg) (rolls-Cast t arg) in
    omega (arith, whole)

pub height_conjunction : (left right : Expr) →
    height (And left right) ≡ 1 + max (height left) (height right)
height_conjunction left right =
    let whole = height_at (And left right) (Expr-F.And left right) (rolls-And left right) in
    omega (arith, whole)

pub height_disjunction : (left right : Expr) →
    height (Or left right) ≡ 1 + max (height left) (height right)
height_disjunction left right =
    let whole = height_at (Or left right) (Expr-F.Or left right) (rolls-Or left right) in
    omega (arith, whole)

pub height_negation : (arg : Expr) → height (Not arg) ≡ 1 + height arg
height_negation arg =
    let whole = height_at (Not arg) (Expr-F.Not arg) (rolls-Not arg) in omega (arith, whole)

pub height_conditional : (t : IntType) (test first second : Expr) →
    height (Cond t test first second) ≡ 1 + max (height test) (max (height first) (height second))
height_conditional t test first second =
    let whole = height_at (Cond t test first second) (Expr-F.Cond t test first second)
    (rolls-Cond t test first second) in omega (arith, whole)
