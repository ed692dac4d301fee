-- The type, the parts, the size and the height of an expression, and which expressions are well
-- typed (C11 6.5, over the types after conversion; size, height and the bound on it are this
-- project's own).
use Rattle.std.specs.Prelude.{◌≡◌, ℕ, ◌+◌, ◌<◌, ◌≤◌, max, Bool, true, false, IsTrue, List, [], ◌∷◌}
use Rattle.std.specs.Prelude.{sum, Some, slice_get, ⊤}
use Rattle.std.specs.List.{AllByRecursion}
use Rattle.cpa_ints.specs.declared.integers.IntType.{IntType}
use Rattle.cpa_ints.specs.declared.integers.IntType.TheVariants as ty
use Rattle.cpa_ints.specs.Integers.{IsInRange}
use Rattle.cpa_expr.specs.declared.shape.TheConstants.{MAX_HEIGHT}
use Rattle.cpa_expr.specs.declared.tree.BinOp.{BinOp}
use Rattle.cpa_expr.specs.declared.tree.BinOp.TheVariants as op
use Rattle.cpa_expr.specs.declared.tree.Expr.{Expr}
use Rattle.cpa_expr.specs.declared.tree.Expr.TheOpen.{Expr-F}
use Rattle.cpa_expr.specs.declared.tree.Expr.TheFolds.{fold-Expr, every-Expr}

-- the type of a node, whatever stands for its parts
abbrev pub node_type : {A : Type 0} → Expr-F A → IntType
node_type (Expr-F.Const t n) = t
node_type (Expr-F.Read t base len index) = t
node_type (Expr-F.Un o t arg) = t
node_type (Expr-F.Bin o t left right) = t
node_type (Expr-F.Cmp o t left right) = ty.I32
node_type (Expr-F.Cast t arg) = t
node_type (Expr-F.And left right) = ty.I32
node_type (Expr-F.Or left right) = ty.I32
node_type (Expr-F.Not arg) = ty.I32
node_type (Expr-F.Cond t test first second) = t

-- the type of an expression: that of its node; comparisons and logical operators give an int
-- (C11 6.5.3.3, 6.5.8, 6.5.9, 6.5.13, 6.5.14)
abbrev pub type_of : Expr → IntType
type_of = fold-Expr IntType node_type

-- the parts of a node, from left to right, whatever stands for them; a read's index is its part
abbrev pub parts : {A : Type 0} → Expr-F A → List A
parts (Expr-F.Const t n) = []
parts (Expr-F.Read t base len index) = index ∷ []
parts (Expr-F.Un o t arg) = arg ∷ []
parts (Expr-F.Bin o t left right) = left ∷ right ∷ []
parts (Expr-F.Cmp o t left right) = left ∷ right ∷ []
parts (Expr-F.Cast t arg) = arg ∷ []
parts (Expr-F.And left right) = left ∷ right ∷ []
parts (Expr-F.Or left right) = left ∷ right ∷ []
parts (Expr-F.Not arg) = arg ∷ []
parts (Expr-F.Cond t test first second) = test ∷ first ∷ second ∷ []

-- P holds of each part of a node
abbrev pub OfParts : (Expr → Type 0) → Expr-F Expr → Type 0
OfParts P node = AllByRecursion P (parts node)

-- a node, with the size of each part in its place
abbrev pub size_step : Expr-F ℕ → ℕ
size_step node = 1 + sum (parts node)

-- how many nodes an expression has
abbrev pub size : Expr → ℕ
size = fold-Expr ℕ size_step

-- the greatest number of a list; 0 of none
abbrev pub greatest : List ℕ → ℕ
greatest [] = 0
greatest (n ∷ ns) = max n (greatest ns)

-- a node, with the height of each part in its place
abbrev pub height_step : Expr-F ℕ → ℕ
height_step node = 1 + greatest (parts node)

-- how many nodes lie on the longest way from the root to a node without parts; such a node has
-- height 1, and a read stands one above its index
abbrev pub height : Expr → ℕ
height = fold-Expr ℕ height_step

-- the types that operands have after the integer promotions (C11 6.3.1.1)
abbrev pub is_arithmetic : IntType → Bool
is_arithmetic ty.I32 = true
is_arithmetic ty.U32 = true
is_arithmetic ty.I64 = true
is_arithmetic ty.U64 = true
is_arithmetic _ = false

-- a shift, whose right operand may have another type than the left one (C11 6.5.7)
abbrev pub is_shift : BinOp → Bool
is_shift op.Shl = true
is_shift op.Shr = true
is_shift _ = false

-- len cells from base on are there, and each has the type t
abbrev pub AreCells : List IntType → ℕ → ℕ → IntType → Type 0
AreCells cells base len t = (i : ℕ) → i < len → slice_get cells (base + i) ≡ Some t

-- a node is well typed over the cells, where its parts are (C11 6.5.3.3, 6.5.5 to 6.5.15: operands
-- stand after the usual conversions, 6.3.1.8)
abbrev pub IsTypedHere : List IntType → Expr-F Expr → Type 0
IsTypedHere cells (Expr-F.Const t n) = IsInRange t n
IsTypedHere cells (Expr-F.Read t base len index) = (1 ≤ len) × AreCells cells base len t
IsTypedHere cells (Expr-F.Un o t arg) = IsTrue (is_arithmetic t) × (type_of arg ≡ t)
IsTypedHere cells (Expr-F.Bin o t left right) =
    IsTrue (is_arithmetic t) × (type_of left ≡ t) × (is_shift o ≡ false → type_of right ≡ t)
IsTypedHere cells (Expr-F.Cmp o t left right) = (type_of left ≡ t) × (type_of right ≡ t)
IsTypedHere cells (Expr-F.Cast t arg) = ⊤
IsTypedHere cells (Expr-F.And left right) = ⊤
IsTypedHere cells (Expr-F.Or left right) = ⊤
IsTypedHere cells (Expr-F.Not arg) = ⊤
IsTypedHere cells (Expr-F.Cond t test first second) = (type_of first ≡ t) × (type_of second ≡ t)

-- every node is well typed over the cells
abbrev pub IsTyped : List IntType → Expr → Type 0
IsTyped cells = every-Expr (IsTypedHere cells)

-- an expression over the cells: well typed, and no higher than MAX_HEIGHT (a bound of this project)
pub record IsExpr (cells : List IntType) (e : Expr) : Type 0 where
  pub typed : IsTyped cells e
  pub height : height e ≤ MAX_HEIGHT
