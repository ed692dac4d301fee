-- The scalar that an expression reads has its value and type.
use Rattle.std.proofs.Common.{◌≡◌, ℕ, ◌+◌, ◌<◌, ◌≤ℤ◌, ℤ, pos, ◌&&◌, Bool, true, false, List, []}
use Rattle.std.proofs.Common.{◌∷◌, refl, sym, ap, ◌∙◌, subst, arith, cond, add-zero}
use Rattle.std.specs.Prelude.{zero, suc, ◌==◌, nat_lt, int_le, Option, None, Some, slice_get}
use Rattle.std.specs.Prelude.{option_map, option_and_then, IsSomeAnd}
use Rattle.std.proofs.lemmas.Bool.{and_parts}
use Rattle.std.proofs.lemmas.Int.{ints}
use Rattle.std.proofs.lemmas.Bool.Decides.{Decides-eqb}
use Rattle.cpa_ints.specs.declared.integers.IntType.{IntType}
use Rattle.cpa_ints.specs.declared.integers.IntType.TheVariants as ty
use Rattle.cpa_ints.specs.Integers.{IsInRange, least, greatest}
use Rattle.cpa_ints.specs.Wrapping.{wrapped}
use Rattle.cpa_expr.specs.declared.tree.Expr.{Expr, out-Expr}
use Rattle.cpa_expr.specs.declared.tree.Expr.TheOpen.{Expr-F}
use Rattle.cpa_expr.specs.declared.tree.Expr.TheViews.{roll-out-Expr}
use Rattle.cpa_expr.specs.Cells.{AreValues, is_zero}
use Rattle.cpa_expr.specs.Shape.{OfParts, IsTyped, IsTypedHere}
use Rattle.cpa_expr.specs.Values.{value_of, value_step, cell_at}
use Rattle.cpa_expr.specs.lemmas.Layers.{value_rolled, values_in}
use Rattle.cpa_expr.specs.lemmas.Parts.{every_iff}
use Rattle.cpa_folds.specs.declared.scalars.Scalar.{Scalar}
use Rattle.cpa_folds.specs.Scalars.{scalar_of, holds_type, held, read_of}

-- the value of a node
pub value_out : (e : Expr) (values : List ℤ)
    → value_of e values ≡ value_step values (values_in values (out-Expr e))
value_out e values = ap (λ x. value_of x values) (sym (roll-out-Expr e))
    ∙ value_rolled values (out-Expr e)

-- the number 0 has the value 0
zero_node : (x : Expr-F Expr) (values : List ℤ) → is_zero x ≡ true
    → value_step values (values_in values x) ≡ Some (pos 0)
zero_node (Expr-F.Const ty.I32 n) values h = let none : n ≡ pos 0 = grind (arith, ints) in
    ap Some none
zero_node (Expr-F.Const ty.Bool n) values h = absurd (cc)
zero_node (Expr-F.Const ty.I8 n) values h = absurd (cc)
zero_node (Expr-F.Const ty.U8 n) values h = absurd (cc)
zero_node (Expr-F.Const ty.I16 n) values h = absurd (cc)
zero_node (Expr-F.Const ty.U16 n) values h = absurd (cc)
zero_node (Expr-F.Const ty.U32 n) values h = absurd (cc)
zero_node (Expr-F.Const ty.I64 n) values h = absurd (cc)
zero_node (Expr-F.Const ty.U64 n) values h = absurd (cc)
zero_node (Expr-F.Read t base len index) values h = absurd (cc)
zero_node (Expr-F.Un o t arg) values h = absurd (cc)
zero_node (Expr-F.Bin o t left right) values h = absurd (cc)
zero_node (Expr-F.Cmp o t left right) values h = absurd (cc)
zero_node (Expr-F.Cast t arg) values h = absurd (cc)
zero_node (Expr-F.And left right) values h = absurd (cc)
zero_node (Expr-F.Or left right) values h = absurd (cc)
zero_node (Expr-F.Not arg) values h = absurd (cc)
zero_node (Expr-F.Cond t test first second) values h = absurd (cc)

-- a scalar of the type stands at the cell, and has the value
pub record IsScalar (types : List IntType) (values : List ℤ) (value : Option ℤ)
    (read : Scalar) : Type 0 where
  pub typed : slice_get types read.cell ≡ Some read.ty
  pub value_is : value ≡ slice_get values read.cell

-- the read of one cell at index 0
one_cell : (types : List IntType) (values : List ℤ) (t : IntType) (base len : ℕ) (index : Expr)
    (read : Scalar)
    → IsTypedHere types (Expr-F.Read t base len index) → (b : Bool)
    → (len == 1 && is_zero (out-Expr index)) ≡ b
    → cond b (Some (let r : Scalar = record { cell = base; ty = t } in r)) None ≡ Some read
    → IsScalar types values (option_and_then (cell_at values base len) (value_of index values)) read
one_cell types values t base len index read typed false other is = absurd (cc)
one_cell types values t base len index read typed true same is =
    let both = and_parts (len == 1) (is_zero (out-Expr index)) same in
    let one : len ≡ 1 = (Decides-eqb len 1).0 both.0 in
    let cell : base ≡ read.cell = ap (λ o. cell_of o) is in
    let type : t ≡ read.ty = ap (λ o. type_or t o) is in
    let first : 0 < len = omega arith in
    let here : slice_get types (base + 0) ≡ Some t = typed.1 0 first in
    let at : slice_get types base ≡ Some t =
    subst (λ k. slice_get types k ≡ Some t) (add-zero base) here in
    let index_value : value_of index values ≡ Some (pos 0) = value_out index values
    ∙ zero_node (out-Expr index) values both.1 in
    record {
      typed = subst (λ k. slice_get types k ≡ Some read.ty) cell (at ∙ ap Some type);
      value_is =
          ap (option_and_then (cell_at values base len)) index_value
          ∙ (ap (λ n. cond (nat_lt 0 n) (slice_get values (base + 0)) None) one
          ∙ (ap (slice_get values) (add-zero base) ∙ ap (slice_get values) cell));
    } where
      cell_of : Option Scalar → ℕ
      cell_of (Some r) = r.cell
      cell_of None = 0

      type_or : IntType → Option Scalar → IntType
      type_or t (Some r) = r.ty
      type_or t None = t

pub scalar_node : (types : List IntType) (values : List ℤ) (x : Expr-F Expr) (read : Scalar)
    → IsTypedHere types x → scalar_of x ≡ Some read
    → IsScalar types values (value_step values (values_in values x)) read
scalar_node types values (Expr-F.Read t base len index) read typed is =
    one_cell types values t base len index read typed (len == 1 && is_zero (out-Expr index)) refl is
scalar_node types values (Expr-F.Const t n) read typed is = absurd (cc)
scalar_node types values (Expr-F.Un o t arg) read typed is = absurd (cc)
scalar_node types values (Expr-F.Bin o t left right) read typed is = absurd (cc)
scalar_node types values (Expr-F.Cmp o t left right) read typed is = absurd (cc)
scalar_node types values (Expr-F.Cast t arg) read typed is = absurd (cc)
scalar_node types values (Expr-F.And left right) read typed is = absurd (cc)
scalar_node types values (Expr-F.Or left right) read typed is = absurd (cc)
scalar_node types values (Expr-F.Not arg) read typed is = absurd (cc)
scalar_node types values (Expr-F.Cond t test first second) read typed is = absurd (cc)

pub scalar_value : (types : List IntType) (values : List ℤ) (e : Expr) (read : Scalar)
    → IsTyped types e → scalar_of (out-Expr e) ≡ Some read
    → IsScalar types values (value_of e values) read
scalar_value types values e read typed is =
    subst (λ o. IsScalar types values o read) (sym (value_out e values))
    (scalar_node types values (out-Expr e) read ((every_iff (IsTypedHere types) e).0 typed).0 is)

-- the value of a cell lies in the range of its type
pub value_at : (types : List IntType) (values : List ℤ) (k : ℕ) (t : IntType)
    → AreValues types values → slice_get types k ≡ Some t
    → IsSomeAnd (slice_get values k) (IsInRange t)
value_at [] [] k t all at = absurd (cc)
value_at [] (v ∷ values) k t all at = absurd all
value_at (u ∷ types) [] k t all at = absurd all
value_at (u ∷ types) (v ∷ values) zero t all at = let same : u ≡ t = cc in
    subst (λ x. IsInRange x v) same all.0
value_at (u ∷ types) (v ∷ values) (suc k) t all at = value_at types values k t all.1 at

-- a number that wraps to itself, where it lies in the range of the type
abbrev pub StaysInRange : Type 0
StaysInRange = (t : IntType) (n : ℤ) → IsInRange t n → wrapped t n ≡ n

pub int_le-means : (a b : ℤ) → int_le a b ≡ true → a ≤ℤ b
int_le-means a b h = grind (arith, ints)

wider : (t u : IntType) (v : ℤ) → holds_type t u ≡ true → IsInRange u v → IsInRange t v
wider t u v holds within =
    let both = and_parts (int_le (least t) (least u)) (int_le (greatest u) (greatest t)) holds in
    let low : least t ≤ℤ least u = int_le-means (least t) (least u) both.0 in
    let high : greatest u ≤ℤ greatest t = int_le-means (greatest u) (greatest t) both.1 in
    (omega (arith, ints, within.0), omega (arith, ints, within.1))

-- to convert a scalar to a type that holds all its values keeps its value
cast_value : (stays : StaysInRange) (types : List IntType) (values : List ℤ) (t : IntType)
    (o : Option ℤ) (read : Scalar) → AreValues types values
    → holds_type t read.ty ≡ true → IsScalar types values o read
    → IsScalar types values (option_map (wrapped t) o) read
cast_value stays types values t o read all holds scalar = record {
  typed = scalar.typed;
  value_is = ap (option_map (wrapped t)) scalar.value_is
      ∙ by (slice_get values read.cell) (value_at types values read.cell read.ty all scalar.typed);
} where
  by : (p : Option ℤ) → IsSomeAnd p (IsInRange read.ty) → option_map (wrapped t) p ≡ p
  by None lies = absurd lies
  by (Some v) lies = ap Some (stays t v (wider t read.ty v holds lies))

held_means : (t : IntType) (o : Option Scalar) (read : Scalar) → held t o ≡ Some read
    → (o ≡ Some read) × (holds_type t read.ty ≡ true)
held_means t None read is = absurd (cc)
held_means t (Some own) read is = by (holds_type t own.ty) refl is where
  by : (b : Bool) → holds_type t own.ty ≡ b → cond b (Some own) None ≡ Some read
      → (Some own ≡ Some read) × (holds_type t read.ty ≡ true)
  by true holds is = let same : own ≡ read = cc in
      (ap Some same, subst (λ r. holds_type t r.ty ≡ true) same holds)
  by false other is = absurd (cc)

read_node : (stays : StaysInRange) (types : List IntType) (values : List ℤ) (x : Expr-F Expr)
    (read : Scalar) → AreValues types values
    → IsTypedHere types x → OfParts (IsTyped types) x → read_of x ≡ Some read
    → IsScalar types values (value_step values (values_in values x)) read
read_node stays types values (Expr-F.Cast t arg) read all typed parts is =
    let means = held_means t (scalar_of (out-Expr arg)) read is in
    cast_value stays types values t (value_of arg values) read all means.1
    (scalar_value types values arg read parts.0 means.0)
read_node stays types values (Expr-F.Read t base len index) read all typed parts is =
    scalar_node types values (Expr-F.Read t base len index) read typed is
read_node stays types values (Expr-F.Const t n) read all typed parts is = absurd (cc)
read_node stays types values (Expr-F.Un o t arg) read all typed parts is = absurd (cc)
read_node stays types values (Expr-F.Bin o t left right) read all typed parts is = absurd (cc)
read_node stays types values (Expr-F.Cmp o t left right) read all typed parts is = absurd (cc)
read_node stays types values (Expr-F.And left right) read all typed parts is = absurd (cc)
read_node stays types values (Expr-F.Or left right) read all typed parts is = absurd (cc)
read_node stays types values (Expr-F.Not arg) read all typed parts is = absurd (cc)
read_node stays types values (Expr-F.Cond t test first second) read all typed parts is = absurd (cc)

-- an expression that reads a scalar, perhaps under a conversion, has its value
pub read_value : (stays : StaysInRange) (types : List IntType) (values : List ℤ) (e : Expr)
    (read : Scalar) → AreValues types values → IsTyped types e
    → read_of (out-Expr e) ≡ Some read → IsScalar types values (value_of e values) read
read_value stays types values e read all typed is =
    let split = (every_iff (IsTypedHere types) e).0 typed in
    subst (λ o. IsScalar types values o read) (sym (value_out e values))
    (read_node stays types values (out-Expr e) read all split.0 split.1 is)
