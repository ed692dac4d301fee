-- What a constant and the read of a scalar are.
use Rattle.std.proofs.Common.{◌≡◌, ◌↔◌, ℕ, ◌+◌, max, ℤ, pos, List, Some, slice_get, option_and_then}
use Rattle.std.proofs.Common.{ap, sym, ◌∙◌, subst, arith, lit≤, add-zero}
use Rattle.std.proofs.lemmas.Int.{ints}
use Rattle.cpa_ints.specs.declared.integers.IntType.{IntType}
use Rattle.cpa_ints.specs.declared.integers.IntType.TheVariants as ty
use Rattle.cpa_ints.specs.Integers.{IsInRange}
use Rattle.cpa_expr.specs.declared.tree.Expr.{Expr, roll-Expr}
use Rattle.cpa_expr.specs.declared.tree.Expr.TheVariants.{Const, rolls-Const, rolls-Read}
use Rattle.cpa_expr.specs.declared.tree.Expr.TheOpen.{Expr-F}
use Rattle.cpa_expr.specs.Shape.{AreCells, type_of, height, IsTypedHere, IsTyped, IsExpr}
use Rattle.cpa_expr.specs.Values.{value_of, cell_at}
use Rattle.cpa_expr.specs.Cells.{scalar_read}
use Rattle.cpa_expr.specs.lemmas.Parts.{every_of_parts, every_rolled}
use Rattle.cpa_expr.specs.lemmas.Layers.{value_rolled, type_rolled, height_rolled}

abbrev index : Expr
index = Const ty.I32 (pos 0)

abbrev layer : IntType → ℕ → Expr-F Expr
layer t cell = Expr-F.Read t cell 1 index

rolled : (t : IntType) (cell : ℕ) → roll-Expr (layer t cell) ≡ scalar_read t cell
rolled t cell = rolls-Read t cell 1 index

pub constant_value : (t : IntType) (n : ℤ) (values : List ℤ) → value_of (Const t n) values ≡ Some n
constant_value t n values =
    ap (λ e. value_of e values) (sym (rolls-Const t n)) ∙ value_rolled values (Expr-F.Const t n)

pub constant_typed : (cells : List IntType) (t : IntType) (n : ℤ) →
    IsTypedHere cells (Expr-F.Const t n) → IsTyped cells (Const t n)
constant_typed cells t n within =
    subst (IsTyped cells) (rolls-Const t n) (every_of_parts (IsTypedHere cells) (Expr-F.Const t n)
    within tt)

pub constant_type : (t : IntType) (n : ℤ) → type_of (Const t n) ≡ t
constant_type t n = ap type_of (sym (rolls-Const t n)) ∙ type_rolled (Expr-F.Const t n)

constant_height : (t : IntType) (n : ℤ) → height (Const t n) ≡ 1
constant_height t n = ap height (sym (rolls-Const t n)) ∙ height_rolled (Expr-F.Const t n)

typed_constant : (cells : List IntType) (t : IntType) (n : ℤ) → IsTyped cells (Const t n) →
    IsInRange t n
typed_constant cells t n typed =
    (every_rolled (IsTypedHere cells) (Expr-F.Const t n)
    (subst (IsTyped cells) (sym (rolls-Const t n)) typed)).0

pub constant_expr : (cells : List IntType) (t : IntType) (n : ℤ) → IsExpr cells (Const t n) ↔
    IsInRange t n
constant_expr cells t n = (
  λ e. typed_constant cells t n e.typed,
  λ within. record {
    typed = constant_typed cells t n within;
    height = let h = constant_height t n in omega arith;
  },
)

pub scalar_type : (t : IntType) (cell : ℕ) → type_of (scalar_read t cell) ≡ t
scalar_type t cell = ap type_of (sym (rolled t cell)) ∙ type_rolled (layer t cell)

pub scalar_value : (t : IntType) (cell : ℕ) (values : List ℤ) →
    value_of (scalar_read t cell) values ≡ slice_get values cell
scalar_value t cell values =
    ap (λ e. value_of e values) (sym (rolled t cell)) ∙ (value_rolled values (layer t cell)
    ∙ (ap (option_and_then (cell_at values cell 1)) (constant_value ty.I32 (pos 0) values)
    ∙ ap (slice_get values) (add-zero cell)))

scalar_height : (t : IntType) (cell : ℕ) → height (scalar_read t cell) ≡ 2
scalar_height t cell =
    ap height (sym (rolled t cell))
    ∙ (height_rolled (layer t cell) ∙ ap (λ n. 1 + max n 0) (constant_height ty.I32 (pos 0)))

scalar_typed : (cells : List IntType) (t : IntType) (cell : ℕ) → slice_get cells cell ≡ Some t →
    IsTyped cells (scalar_read t cell)
scalar_typed cells t cell at =
    let here : AreCells cells cell 1 t = λ i below. let same : cell ≡ cell + i = omega arith in
    subst (λ k. slice_get cells k ≡ Some t) same at in
    subst (IsTyped cells) (rolled t cell)
    (every_of_parts (IsTypedHere cells) (layer t cell) (
      lit≤ tt,
      here,
    ) (
      constant_typed cells ty.I32 (pos 0) (omega (arith, ints), omega (arith, ints)),
      tt,
    ))

typed_scalar : (cells : List IntType) (t : IntType) (cell : ℕ) →
    IsTyped cells (scalar_read t cell) → slice_get cells cell ≡ Some t
typed_scalar cells t cell typed =
    let here = every_rolled (IsTypedHere cells) (layer t cell)
    (subst (IsTyped cells) (sym (rolled t cell)) typed) in
    let same : cell + 0 ≡ cell = add-zero cell in
    subst (λ k. slice_get cells k ≡ Some t) same ((here.0).1 0 (omega arith))

pub scalar_expr : (cells : List IntType) (t : IntType) (cell : ℕ) →
    IsExpr cells (scalar_read t cell) ↔ (slice_get cells cell ≡ Some t)
scalar_expr cells t cell = (
  λ e. typed_scalar cells t cell e.typed,
  λ at. record {
    typed = scalar_typed cells t cell at;
    height = let h = scalar_height t cell in omega arith;
  },
)
