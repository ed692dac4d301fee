-- The expression of a bit: well typed, which cell it reads, its size and its height.
use Rattle.std.proofs.Common.{◌≡◌, ℕ, ◌+◌, ◌<◌, ◌≤◌, Bool, true, false, ◌||◌, ◌&&◌, ℤ, pos}
use Rattle.std.proofs.Common.{List, refl, sym, ap, ◌∙◌, arith, inl, inr}
use Rattle.std.specs.Prelude.{◌==◌, nat_lt}
use Rattle.std.proofs.lemmas.Bool.{cases_eq, cases_lt, eq-eqb, ne_eqb, lt-ltb, le-ltb, le-leb}
use Rattle.std.proofs.lemmas.Bool.{lt-leb}
use Rattle.std.proofs.lemmas.Int.{ints}
use Rattle.cpa_ints.specs.declared.integers.IntType.{IntType}
use Rattle.cpa_ints.specs.declared.integers.IntType.TheVariants as ty
use Rattle.cpa_ints.specs.Integers.{width, IsInRange}
use Rattle.cpa_expr.specs.declared.tree.BinOp.TheVariants as op
use Rattle.cpa_expr.specs.declared.tree.CmpOp.TheVariants as cmp
use Rattle.cpa_expr.specs.declared.tree.Expr.TheVariants.{Const, Bin, Cast}
use Rattle.cpa_expr.specs.Shape.{size, height, IsTyped}
use Rattle.cpa_expr.specs.Cells.{is_within, may_read, scalar_read}
use Rattle.cpa_expr.specs.Laws.{type_at_variants, typed_at_variants, reads_at_variants}
use Rattle.cpa_expr.specs.Laws.{size_at_variants, height_at_variants, a_scalar_is_its_cell}
use Rattle.cpa_interpolant_bits.specs.declared.bits.Bit.{Bit}
use Rattle.cpa_interpolant_bits.specs.Bits.{IsBitOf, shifted, bit_read, bit_is}

constant_typed : (cells : List IntType) (t : IntType) (n : ℤ) → IsInRange t n
    → IsTyped cells (Const t n)
constant_typed cells t n r = (typed_at_variants.constant cells t n).1 r

module _ (cells : List IntType) (bit : Bit) (is : IsBitOf cells bit) (below : bit.place < 64) where
  wide_typed : IsTyped cells (Cast ty.U64 (scalar_read bit.ty bit.cell))
  wide_typed =
      (typed_at_variants.cast cells ty.U64 (scalar_read bit.ty bit.cell)).1
      ((a_scalar_is_its_cell.expr cells bit.ty bit.cell).1 is.at).typed

  shifted_typed : IsTyped cells (shifted bit)
  shifted_typed =
      (typed_at_variants.binary cells op.Shr ty.U64 (Cast ty.U64 (scalar_read bit.ty bit.cell))
      (Const ty.I32 (pos bit.place))).1 (
        refl,
        type_at_variants.cast ty.U64 (scalar_read bit.ty bit.cell),
        λ e. absurd (cc),
        wide_typed,
        constant_typed cells ty.I32 (pos bit.place)
            (omega (arith, ints), omega (arith, ints)),
      )

  low_typed : IsTyped cells (Bin op.BitAnd ty.U64 (shifted bit) (Const ty.U64 (pos 1)))
  low_typed =
      (typed_at_variants.binary cells op.BitAnd ty.U64 (shifted bit) (Const ty.U64 (pos 1))).1 (
        refl,
        type_at_variants.binary op.Shr ty.U64 (Cast ty.U64 (scalar_read bit.ty bit.cell))
            (Const ty.I32 (pos bit.place)),
        λ e. type_at_variants.constant ty.U64 (pos 1),
        shifted_typed,
        constant_typed cells ty.U64 (pos 1) (omega (arith, ints), omega (arith, ints)),
      )

  positive_typed : IsTyped cells (bit_read bit)
  positive_typed =
      (typed_at_variants.comparison cells cmp.Ne ty.U64
      (Bin op.BitAnd ty.U64 (shifted bit) (Const ty.U64 (pos 1))) (Const ty.U64 (pos 0))).1 (
        type_at_variants.binary op.BitAnd ty.U64 (shifted bit) (Const ty.U64 (pos 1)),
        type_at_variants.constant ty.U64 (pos 0),
        low_typed,
        constant_typed cells ty.U64 (pos 0) (omega (arith, ints), omega (arith, ints)),
      )

width_small : (t : IntType) → width t ≤ 64
width_small ty.Bool = omega arith
width_small ty.I8 = omega arith
width_small ty.U8 = omega arith
width_small ty.I16 = omega arith
width_small ty.U16 = omega arith
width_small ty.I32 = omega arith
width_small ty.U32 = omega arith
width_small ty.I64 = omega arith
width_small ty.U64 = omega arith

pub place_small : (cells : List IntType) (bit : Bit) → IsBitOf cells bit → bit.place < 64
place_small cells bit is = let in_type = is.inside in omega (arith, width_small bit.ty)

pub read_typed : (cells : List IntType) (bit : Bit) (set : Bool) → IsBitOf cells bit
    → IsTyped cells (bit_is bit set)
read_typed cells bit true is = positive_typed cells bit is (place_small cells bit is)
read_typed cells bit false is =
    (typed_at_variants.negation cells (bit_read bit)).1
    (positive_typed cells bit is (place_small cells bit is))

-- ---- what is read

within_one : (base cell : ℕ) → is_within base 1 cell ≡ (base == cell)
within_one base cell =
    elim (cases_eq base cell) [
      | inl h ↦
          let above : base ≤ cell = omega arith in
          let below : cell < base + 1 = omega arith in
          ap (λ b. b && nat_lt cell (base + 1)) (le-leb base cell above)
          ∙ lt-ltb cell (base + 1) below ∙ sym (eq-eqb base cell h)
      | inr h ↦ elim (cases_lt cell base) [
        | inl less ↦
            ap (λ b. b && nat_lt cell (base + 1)) (lt-leb base cell less)
            ∙ sym (ne_eqb base cell h)
        | inr more ↦
            let far : base + 1 ≤ cell = omega arith in
            ap (λ b. b && nat_lt cell (base + 1)) (le-leb base cell more)
            ∙ le-ltb cell (base + 1) far ∙ sym (ne_eqb base cell h)
      ]
    ]

or_false : (b : Bool) → (b || false) ≡ b
or_false true = refl
or_false false = refl

module _ (bit : Bit) (cell : ℕ) where
  scalar_cells : may_read (scalar_read bit.ty bit.cell) cell ≡ (bit.cell == cell)
  scalar_cells =
      reads_at_variants.read bit.ty bit.cell 1 (Const ty.I32 (pos 0)) cell
      ∙ ap (λ b. is_within bit.cell 1 cell || b)
      (reads_at_variants.constant ty.I32 (pos 0) cell)
      ∙ or_false (is_within bit.cell 1 cell) ∙ within_one bit.cell cell

  shifted_cells : may_read (shifted bit) cell ≡ (bit.cell == cell)
  shifted_cells =
      reads_at_variants.binary op.Shr ty.U64 (Cast ty.U64 (scalar_read bit.ty bit.cell))
      (Const ty.I32 (pos bit.place)) cell
      ∙ ap (λ b. may_read (Cast ty.U64 (scalar_read bit.ty bit.cell)) cell || b)
      (reads_at_variants.constant ty.I32 (pos bit.place) cell)
      ∙ or_false (may_read (Cast ty.U64 (scalar_read bit.ty bit.cell)) cell)
      ∙ reads_at_variants.cast ty.U64 (scalar_read bit.ty bit.cell) cell ∙ scalar_cells

  positive_cells : may_read (bit_read bit) cell ≡ (bit.cell == cell)
  positive_cells =
      let low = Bin op.BitAnd ty.U64 (shifted bit) (Const ty.U64 (pos 1)) in
      reads_at_variants.comparison cmp.Ne ty.U64 low (Const ty.U64 (pos 0)) cell
      ∙ ap (λ b. may_read low cell || b) (reads_at_variants.constant ty.U64 (pos 0) cell)
      ∙ or_false (may_read low cell)
      ∙ reads_at_variants.binary op.BitAnd ty.U64 (shifted bit) (Const ty.U64 (pos 1)) cell
      ∙ ap (λ b. may_read (shifted bit) cell || b)
      (reads_at_variants.constant ty.U64 (pos 1) cell)
      ∙ or_false (may_read (shifted bit) cell) ∙ shifted_cells

pub read_cells : (bit : Bit) (set : Bool) (cell : ℕ)
    → may_read (bit_is bit set) cell ≡ (bit.cell == cell)
read_cells bit true cell = positive_cells bit cell
read_cells bit false cell =
    reads_at_variants.negation (bit_read bit) cell ∙ positive_cells bit cell

-- ---- how large it is

pub read_size : (bit : Bit) → size (bit_read bit) ≡ 9
read_size bit =
    let wide = Cast ty.U64 (scalar_read bit.ty bit.cell) in
    let low = Bin op.BitAnd ty.U64 (shifted bit) (Const ty.U64 (pos 1)) in
    let a = size_at_variants.constant ty.I32 (pos 0) in
    let b = size_at_variants.read bit.ty bit.cell 1 (Const ty.I32 (pos 0)) in
    let c = size_at_variants.cast ty.U64 (scalar_read bit.ty bit.cell) in
    let d = size_at_variants.constant ty.I32 (pos bit.place) in
    let e = size_at_variants.binary op.Shr ty.U64 wide (Const ty.I32 (pos bit.place)) in
    let f = size_at_variants.constant ty.U64 (pos 1) in
    let g = size_at_variants.binary op.BitAnd ty.U64 (shifted bit) (Const ty.U64 (pos 1)) in
    let h = size_at_variants.constant ty.U64 (pos 0) in
    let i = size_at_variants.comparison cmp.Ne ty.U64 low (Const ty.U64 (pos 0)) in
    omega (arith, a, b, c, d, e, f, g, h, i)

pub read_height : (bit : Bit) → height (bit_read bit) ≡ 6
read_height bit =
    let wide = Cast ty.U64 (scalar_read bit.ty bit.cell) in
    let low = Bin op.BitAnd ty.U64 (shifted bit) (Const ty.U64 (pos 1)) in
    let a = height_at_variants.constant ty.I32 (pos 0) in
    let b = height_at_variants.read bit.ty bit.cell 1 (Const ty.I32 (pos 0)) in
    let c = height_at_variants.cast ty.U64 (scalar_read bit.ty bit.cell) in
    let d = height_at_variants.constant ty.I32 (pos bit.place) in
    let e = height_at_variants.binary op.Shr ty.U64 wide (Const ty.I32 (pos bit.place)) in
    let f = height_at_variants.constant ty.U64 (pos 1) in
    let g = height_at_variants.binary op.BitAnd ty.U64 (shifted bit) (Const ty.U64 (pos 1)) in
    let h = height_at_variants.constant ty.U64 (pos 0) in
    let i = height_at_variants.comparison cmp.Ne ty.U64 low (Const ty.U64 (pos 0)) in
    omega (arith, a, b, c, d, e, f, g, h, i)
