-- What each variant of an expression means, in terms of its parts: its value (C11 6.5), its type
-- (C11 6.5.8 to 6.5.14) and typing, the cells that it reads, its size and its height. A fold does
-- not compute at a variant, so every proof about expressions stands on these equations. Each record
-- is the contract of a law of src/laws.rt. The lemma below it is its proof, which a lemma of
-- another crate cites; a function may call the law, and its answers cite the call's clause. After
-- them come the laws of whole expressions, in the same form.
use Rattle.std.specs.Prelude.{◌≡◌, ◌↔◌, ℕ, ◌+◌, ◌≤◌, max, ℤ, pos, ◌≤ℤ◌, ◌<ℤ◌, ◌<◌, ◌⊎◌, false, ◌||◌}
use Rattle.std.specs.Prelude.{IsTrue, List, Some, None, IsSome, IfSome, length, slice_get}
use Rattle.std.specs.Prelude.{slice_set, if◌then◌else◌, option_map, option_and_then}
use Rattle.cpa_ints.specs.declared.integers.IntType.{IntType}
use Rattle.cpa_ints.specs.declared.integers.IntType.TheVariants as ty
use Rattle.cpa_ints.specs.Integers.{IsInRange}
use Rattle.cpa_ints.specs.Wrapping.{wrapped}
use Rattle.cpa_expr.specs.declared.tree.UnOp.{UnOp}
use Rattle.cpa_expr.specs.declared.tree.BinOp.{BinOp}
use Rattle.cpa_expr.specs.declared.tree.CmpOp.{CmpOp}
use Rattle.cpa_expr.specs.declared.tree.Expr.{Expr, out-Expr}
use Rattle.cpa_expr.specs.declared.tree.Expr.TheVariants.{Const, Read, Un, Bin, Cmp, Cast, And, Or}
use Rattle.cpa_expr.specs.declared.tree.Expr.TheVariants.{Not, Cond}
use Rattle.cpa_expr.specs.Shape.{is_arithmetic, is_shift, type_of, size, height, AreCells, IsTyped}
use Rattle.cpa_expr.specs.Shape.{IsExpr}
use Rattle.cpa_expr.specs.Values.{un_value, bin_value, cell_at, evaluated, comparison as compared}
use Rattle.cpa_expr.specs.Values.{logical_and, logical_or, logical_not, conditional as chosen}
use Rattle.cpa_expr.specs.Values.{value_of}
use Rattle.cpa_expr.specs.Cells.{is_within, may_read, AgreesWhereRead, AreValues, scalar_read}
use Rattle.cpa_expr.specs.Cells.{is_scalar_read, ReadsAsScalar, replaced, with_parts}
use Rattle.cpa_expr.specs.Traps.{Traps}
use Rattle.cpa_expr.specs.Equality.{same_expr}
use Rattle.cpa_expr.specs.lemmas.Variants as at
use Rattle.cpa_expr.specs.lemmas.ValueRanges.{value_in_range}
use Rattle.cpa_expr.specs.lemmas.CellsRead.{value_agrees}
use Rattle.cpa_expr.specs.lemmas.Substitution.{replaced_node, replaced_value, replaced_type}
use Rattle.cpa_expr.specs.lemmas.Substitution.{replaced_typed, replaced_height}
use Rattle.cpa_expr.specs.lemmas.TrapsKept.{replaced_trap}
use Rattle.cpa_expr.specs.lemmas.Unread.{replaced_unread}
use Rattle.cpa_expr.specs.lemmas.Traps.{read_some, none_traps}
use Rattle.cpa_expr.specs.lemmas.SameTrees.{same_expr_decides}
use Rattle.cpa_expr.specs.lemmas.ScalarReads.{constant_expr, scalar_type, scalar_value, scalar_expr}

-- the value of each variant on a store
pub record ValueAtVariants : Type 0 where
  pub constant : (t : IntType) (n : ℤ) (values : List ℤ) → value_of (Const t n) values ≡ Some n
  pub read : (t : IntType) (base len : ℕ) (index : Expr) (values : List ℤ)
      → value_of (Read t base len index) values
      ≡ option_and_then (cell_at values base len) (value_of index values)
  pub unary : (o : UnOp) (t : IntType) (arg : Expr) (values : List ℤ)
      → value_of (Un o t arg) values ≡ option_map (un_value o t) (value_of arg values)
  pub binary : (o : BinOp) (t : IntType) (left right : Expr) (values : List ℤ)
      → value_of (Bin o t left right) values
      ≡ evaluated (bin_value o t) (value_of left values) (value_of right values)
  pub comparison : (o : CmpOp) (t : IntType) (left right : Expr) (values : List ℤ)
      → value_of (Cmp o t left right) values
      ≡ compared o (value_of left values) (value_of right values)
  pub cast : (t : IntType) (arg : Expr) (values : List ℤ)
      → value_of (Cast t arg) values ≡ option_map (wrapped t) (value_of arg values)
  pub conjunction : (left right : Expr) (values : List ℤ)
      → value_of (And left right) values
      ≡ logical_and (value_of left values) (value_of right values)
  pub disjunction : (left right : Expr) (values : List ℤ)
      → value_of (Or left right) values ≡ logical_or (value_of left values) (value_of right values)
  pub negation : (arg : Expr) (values : List ℤ)
      → value_of (Not arg) values ≡ logical_not (value_of arg values)
  pub conditional : (t : IntType) (test first second : Expr) (values : List ℤ)
      → value_of (Cond t test first second) values
      ≡ chosen (value_of test values) (value_of first values) (value_of second values)

pub value_at_variants : ValueAtVariants
value_at_variants = record {
  constant = at.value_constant;
  read = at.value_read;
  unary = at.value_unary;
  binary = at.value_binary;
  comparison = at.value_comparison;
  cast = at.value_cast;
  conjunction = at.value_conjunction;
  disjunction = at.value_disjunction;
  negation = at.value_negation;
  conditional = at.value_conditional;
}

-- the type of each variant
pub record TypeAtVariants : Type 0 where
  pub constant : (t : IntType) (n : ℤ) → type_of (Const t n) ≡ t
  pub read : (t : IntType) (base len : ℕ) (index : Expr) → type_of (Read t base len index) ≡ t
  pub unary : (o : UnOp) (t : IntType) (arg : Expr) → type_of (Un o t arg) ≡ t
  pub binary : (o : BinOp) (t : IntType) (left right : Expr) → type_of (Bin o t left right) ≡ t
  pub comparison : (o : CmpOp) (t : IntType) (left right : Expr)
      → type_of (Cmp o t left right) ≡ ty.I32
  pub cast : (t : IntType) (arg : Expr) → type_of (Cast t arg) ≡ t
  pub conjunction : (left right : Expr) → type_of (And left right) ≡ ty.I32
  pub disjunction : (left right : Expr) → type_of (Or left right) ≡ ty.I32
  pub negation : (arg : Expr) → type_of (Not arg) ≡ ty.I32
  pub conditional : (t : IntType) (test first second : Expr)
      → type_of (Cond t test first second) ≡ t

pub type_at_variants : TypeAtVariants
type_at_variants = record {
  constant = at.type_constant;
  read = at.type_read;
  unary = at.type_unary;
  binary = at.type_binary;
  comparison = at.type_comparison;
  cast = at.type_cast;
  conjunction = at.type_conjunction;
  disjunction = at.type_disjunction;
  negation = at.type_negation;
  conditional = at.type_conditional;
}

-- each variant is well typed exactly where the node is and its parts are
pub record TypedAtVariants : Type 0 where
  pub constant : (cells : List IntType) (t : IntType) (n : ℤ)
      → IsTyped cells (Const t n) ↔ IsInRange t n
  pub read : (cells : List IntType) (t : IntType) (base len : ℕ) (index : Expr)
      → IsTyped cells (Read t base len index)
      ↔ ((1 ≤ len) × AreCells cells base len t × IsTyped cells index)
  pub unary : (cells : List IntType) (o : UnOp) (t : IntType) (arg : Expr)
      → IsTyped cells (Un o t arg)
      ↔ (IsTrue (is_arithmetic t) × (type_of arg ≡ t) × IsTyped cells arg)
  pub binary : (cells : List IntType) (o : BinOp) (t : IntType) (left right : Expr)
      → IsTyped cells (Bin o t left right)
      ↔ (IsTrue (is_arithmetic t) × (type_of left ≡ t) × (is_shift o ≡ false → type_of right ≡ t)
      × IsTyped cells left × IsTyped cells right)
  pub comparison : (cells : List IntType) (o : CmpOp) (t : IntType) (left right : Expr)
      → IsTyped cells (Cmp o t left right)
      ↔ ((type_of left ≡ t) × (type_of right ≡ t) × IsTyped cells left × IsTyped cells right)
  pub cast : (cells : List IntType) (t : IntType) (arg : Expr)
      → IsTyped cells (Cast t arg) ↔ IsTyped cells arg
  pub conjunction : (cells : List IntType) (left right : Expr)
      → IsTyped cells (And left right) ↔ (IsTyped cells left × IsTyped cells right)
  pub disjunction : (cells : List IntType) (left right : Expr)
      → IsTyped cells (Or left right) ↔ (IsTyped cells left × IsTyped cells right)
  pub negation : (cells : List IntType) (arg : Expr) → IsTyped cells (Not arg) ↔ IsTyped cells arg
  pub conditional : (cells : List IntType) (t : IntType) (test first second : Expr)
      → IsTyped cells (Cond t test first second)
      ↔ ((type_of first ≡ t) × (type_of second ≡ t)
      × IsTyped cells test × IsTyped cells first × IsTyped cells second)

pub typed_at_variants : TypedAtVariants
typed_at_variants = record {
  constant = at.typed_constant;
  read = at.typed_read;
  unary = at.typed_unary;
  binary = at.typed_binary;
  comparison = at.typed_comparison;
  cast = at.typed_cast;
  conjunction = at.typed_conjunction;
  disjunction = at.typed_disjunction;
  negation = at.typed_negation;
  conditional = at.typed_conditional;
}

-- which cells each variant may read
pub record ReadsAtVariants : Type 0 where
  pub constant : (t : IntType) (n : ℤ) (cell : ℕ) → may_read (Const t n) cell ≡ false
  pub read : (t : IntType) (base len : ℕ) (index : Expr) (cell : ℕ)
      → may_read (Read t base len index) cell ≡ (is_within base len cell || may_read index cell)
  pub unary : (o : UnOp) (t : IntType) (arg : Expr) (cell : ℕ)
      → may_read (Un o t arg) cell ≡ may_read arg cell
  pub binary : (o : BinOp) (t : IntType) (left right : Expr) (cell : ℕ)
      → may_read (Bin o t left right) cell ≡ (may_read left cell || may_read right cell)
  pub comparison : (o : CmpOp) (t : IntType) (left right : Expr) (cell : ℕ)
      → may_read (Cmp o t left right) cell ≡ (may_read left cell || may_read right cell)
  pub cast : (t : IntType) (arg : Expr) (cell : ℕ) → may_read (Cast t arg) cell ≡ may_read arg cell
  pub conjunction : (left right : Expr) (cell : ℕ)
      → may_read (And left right) cell ≡ (may_read left cell || may_read right cell)
  pub disjunction : (left right : Expr) (cell : ℕ)
      → may_read (Or left right) cell ≡ (may_read left cell || may_read right cell)
  pub negation : (arg : Expr) (cell : ℕ) → may_read (Not arg) cell ≡ may_read arg cell
  pub conditional : (t : IntType) (test first second : Expr) (cell : ℕ)
      → may_read (Cond t test first second) cell
      ≡ (may_read test cell || may_read first cell || may_read second cell)

pub reads_at_variants : ReadsAtVariants
reads_at_variants = record {
  constant = at.reads_constant;
  read = at.reads_read;
  unary = at.reads_unary;
  binary = at.reads_binary;
  comparison = at.reads_comparison;
  cast = at.reads_cast;
  conjunction = at.reads_conjunction;
  disjunction = at.reads_disjunction;
  negation = at.reads_negation;
  conditional = at.reads_conditional;
}

-- the size of each variant
pub record SizeAtVariants : Type 0 where
  pub constant : (t : IntType) (n : ℤ) → size (Const t n) ≡ 1
  pub read : (t : IntType) (base len : ℕ) (index : Expr)
      → size (Read t base len index) ≡ 1 + size index
  pub unary : (o : UnOp) (t : IntType) (arg : Expr) → size (Un o t arg) ≡ 1 + size arg
  pub binary : (o : BinOp) (t : IntType) (left right : Expr)
      → size (Bin o t left right) ≡ 1 + size left + size right
  pub comparison : (o : CmpOp) (t : IntType) (left right : Expr)
      → size (Cmp o t left right) ≡ 1 + size left + size right
  pub cast : (t : IntType) (arg : Expr) → size (Cast t arg) ≡ 1 + size arg
  pub conjunction : (left right : Expr) → size (And left right) ≡ 1 + size left + size right
  pub disjunction : (left right : Expr) → size (Or left right) ≡ 1 + size left + size right
  pub negation : (arg : Expr) → size (Not arg) ≡ 1 + size arg
  pub conditional : (t : IntType) (test first second : Expr)
      → size (Cond t test first second) ≡ 1 + size test + size first + size second

pub size_at_variants : SizeAtVariants
size_at_variants = record {
  constant = at.size_constant;
  read = at.size_read;
  unary = at.size_unary;
  binary = at.size_binary;
  comparison = at.size_comparison;
  cast = at.size_cast;
  conjunction = at.size_conjunction;
  disjunction = at.size_disjunction;
  negation = at.size_negation;
  conditional = at.size_conditional;
}

-- the height of each variant: a node without parts has the height 1
pub record HeightAtVariants : Type 0 where
  pub constant : (t : IntType) (n : ℤ) → height (Const t n) ≡ 1
  pub read : (t : IntType) (base len : ℕ) (index : Expr)
      → height (Read t base len index) ≡ 1 + height index
  pub unary : (o : UnOp) (t : IntType) (arg : Expr) → height (Un o t arg) ≡ 1 + height arg
  pub binary : (o : BinOp) (t : IntType) (left right : Expr)
      → height (Bin o t left right) ≡ 1 + max (height left) (height right)
  pub comparison : (o : CmpOp) (t : IntType) (left right : Expr)
      → height (Cmp o t left right) ≡ 1 + max (height left) (height right)
  pub cast : (t : IntType) (arg : Expr) → height (Cast t arg) ≡ 1 + height arg
  pub conjunction : (left right : Expr)
      → height (And left right) ≡ 1 + max (height left) (height right)
  pub disjunction : (left right : Expr)
      → height (Or left right) ≡ 1 + max (height left) (height right)
  pub negation : (arg : Expr) → height (Not arg) ≡ 1 + height arg
  pub conditional : (t : IntType) (test first second : Expr)
      → height (Cond t test first second)
      ≡ 1 + max (height test) (max (height first) (height second))

pub height_at_variants : HeightAtVariants
height_at_variants = record {
  constant = at.height_constant;
  read = at.height_read;
  unary = at.height_unary;
  binary = at.height_binary;
  comparison = at.height_comparison;
  cast = at.height_cast;
  conjunction = at.height_conjunction;
  disjunction = at.height_disjunction;
  negation = at.height_negation;
  conditional = at.height_conditional;
}

-- ---- constants and scalars

-- a constant is an expression where its number lies in its type's range
abbrev pub ConstantIsItsNumber : Type 0
ConstantIsItsNumber =
    (cells : List IntType) (t : IntType) (n : ℤ) → IsExpr cells (Const t n) ↔ IsInRange t n

pub a_constant_is_its_number : ConstantIsItsNumber
a_constant_is_its_number = constant_expr

-- the read of a scalar has the type and the value of its cell, and is an expression where the cell
-- has that type
pub record ScalarIsItsCell : Type 0 where
  pub ty : (t : IntType) (cell : ℕ) → type_of (scalar_read t cell) ≡ t
  pub value : (t : IntType) (cell : ℕ) (values : List ℤ)
      → value_of (scalar_read t cell) values ≡ slice_get values cell
  pub expr : (cells : List IntType) (t : IntType) (cell : ℕ)
      → IsExpr cells (scalar_read t cell) ↔ (slice_get cells cell ≡ Some t)

pub a_scalar_is_its_cell : ScalarIsItsCell
a_scalar_is_its_cell = record { ty = scalar_type; value = scalar_value; expr = scalar_expr }

-- ---- values

-- a value of a well-typed expression lies in the range of its type, where each cell's value does
abbrev pub ValuesLieInRange : Type 0
ValuesLieInRange =
    (cells : List IntType) (e : Expr) (values : List ℤ) → IsTyped cells e → AreValues cells values
    → IfSome (value_of e values) (IsInRange (type_of e))

pub values_lie_in_range : ValuesLieInRange
values_lie_in_range = value_in_range

-- a well-typed read whose index has a value has one exactly where that lies from 0 to len - 1
abbrev pub ReadsWithinTheArray : Type 0
ReadsWithinTheArray =
    (cells : List IntType) (t : IntType) (base len : ℕ) (index : Expr) (values : List ℤ) (i : ℤ)
    → IsTyped cells (Read t base len index) → AreValues cells values
    → value_of index values ≡ Some i
    → IsSome (value_of (Read t base len index) values) ↔ ((pos 0 ≤ℤ i) × (i <ℤ pos len))

pub reads_have_values_within_the_array : ReadsWithinTheArray
reads_have_values_within_the_array = read_some

-- a well-typed expression has no value exactly where its evaluation traps
abbrev pub NoneIsATrap : Type 0
NoneIsATrap =
    (cells : List IntType) (e : Expr) (values : List ℤ) → IsTyped cells e → AreValues cells values
    → (value_of e values ≡ None) ↔ Traps values e

pub no_value_is_a_trap : NoneIsATrap
no_value_is_a_trap = none_traps

-- a value, and a trap, depends on no cell but those that the expression may read
abbrev pub DependsOnWhatIsRead : Type 0
DependsOnWhatIsRead =
    (e : Expr) (values others : List ℤ) → AgreesWhereRead e values others
    → value_of e values ≡ value_of e others

pub value_depends_on_what_is_read : DependsOnWhatIsRead
value_depends_on_what_is_read = value_agrees

-- ---- a cell replaced

-- a node that reads the cell as a scalar becomes `by`; any other keeps its form, each part replaced
abbrev pub ReplacedAtNodes : Type 0
ReplacedAtNodes =
    (e : Expr) (cell : ℕ) (by : Expr) → replaced e cell by
    ≡ (if is_scalar_read cell (out-Expr e) then by
    else with_parts (λ part. replaced part cell by) e)

pub replaced_at_nodes : ReplacedAtNodes
replaced_at_nodes = replaced_node

-- v is the value that `by` brings to a cell of the store that e reads as a scalar alone
pub record ReplacesFor (e : Expr) (cell : ℕ) (by : Expr) (values : List ℤ) (v : ℤ) : Type 0 where
  pub scalar : ReadsAsScalar cell e
  pub inside : cell < length values
  pub value : value_of by values ≡ Some v

-- to replace a cell that is read as a scalar alone is to set it: where `by` has a value, values and
-- traps are those on the store with the cell set; where `by` traps, the result traps or does not
-- depend on the cell. An expression that does not read the cell stays as it is.
pub record ReplacingIsSetting : Type 0 where
  pub set : (e : Expr) (cell : ℕ) (by : Expr) (values : List ℤ) (v : ℤ)
      → ReplacesFor e cell by values v
      → value_of (replaced e cell by) values ≡ value_of e (slice_set values cell v)
  pub traps : (e : Expr) (cell : ℕ) (by : Expr) (values : List ℤ) (v : ℤ)
      → ReadsAsScalar cell e → value_of by values ≡ None
      → (value_of (replaced e cell by) values ≡ None)
      ⊎ (value_of (replaced e cell by) values ≡ value_of e (slice_set values cell v))
  pub unread : (e : Expr) (cell : ℕ) (by : Expr) → may_read e cell ≡ false → replaced e cell by ≡ e

pub to_replace_is_to_set : ReplacingIsSetting
to_replace_is_to_set = record {
  set = λ e cell by values v h. replaced_value e cell by values v h.scalar h.inside h.value;
  traps = replaced_trap;
  unread = replaced_unread;
}

-- to replace a cell by an expression of its type keeps the type and what is well typed; the heights
-- add up at most
pub record ReplacingKeepsTypes : Type 0 where
  pub same_type : (cells : List IntType) (e : Expr) (cell : ℕ) (by : Expr)
      → IsTyped cells e → slice_get cells cell ≡ Some (type_of by)
      → type_of (replaced e cell by) ≡ type_of e
  pub typed : (cells : List IntType) (e : Expr) (cell : ℕ) (by : Expr)
      → IsTyped cells e → IsTyped cells by → slice_get cells cell ≡ Some (type_of by)
      → IsTyped cells (replaced e cell by)
  pub heights : (e : Expr) (cell : ℕ) (by : Expr)
      → height (replaced e cell by) ≤ height e + height by

pub to_replace_keeps_types : ReplacingKeepsTypes
to_replace_keeps_types = record {
  same_type = replaced_type;
  typed = replaced_typed;
  heights = replaced_height;
}

-- ---- equality

-- the test of two expressions is true exactly where they are equal
abbrev pub SameWhereEqual : Type 0
SameWhereEqual = (e f : Expr) → IsTrue (same_expr e f) ↔ (e ≡ f)

pub same_where_equal : SameWhereEqual
same_where_equal = same_expr_decides
