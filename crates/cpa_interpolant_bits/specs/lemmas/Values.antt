-- The value of the expression of a bit, and the bits of a number below the width of its type.
use Rattle.std.proofs.Common.{◌≡◌, ◌≢◌, ℕ, zero, suc, ◌+◌, ◌-◌, ◌/◌, ◌%◌, ◌^◌, ◌<◌, ◌≤◌, Bool}
use Rattle.std.proofs.Common.{true, false, not, ℤ, pos, negsuc, List, length, Option, Some, None}
use Rattle.std.proofs.Common.{IsSomeAnd}
use Rattle.std.proofs.Common.{option_map, bit_and, refl, sym, ap, subst, ◌∙◌, arith}
use Rattle.std.specs.Prelude.{◌==◌, slice_index_or, if◌then◌else◌}
use Rattle.std.specs.Int.{int_div_euclid}
use Rattle.std.specs.Ordering.{int_eq}
use Rattle.std.proofs.Math.Nat.{mod-eq_of_lt}
use Rattle.std.proofs.lemmas.Nat.{and_mask, field_of, mod-pow-add, mod_low, mod_below}
use Rattle.std.proofs.lemmas.Nat.{shr_le}
use Rattle.std.proofs.lemmas.Int.{ints}
use Rattle.std.proofs.lemmas.Option.{slice_get-get_or}
use Rattle.std.proofs.lemmas.Bool.{lt-ltb}
use mathlib.Core.Logic.{⊎_elim}
use Rattle.cpa_ints.specs.declared.integers.IntType.{IntType}
use Rattle.cpa_ints.specs.declared.integers.IntType.TheVariants as ty
use Rattle.cpa_ints.specs.Integers.{width, IsInRange}
use Rattle.cpa_ints.specs.Wrapping.{wrapped}
use Rattle.cpa_ints.specs.Bits.{bits_of}
use Rattle.cpa_ints.specs.lemmas.WrapLaws.{is_boolean}
use Rattle.cpa_ints.specs.lemmas.Arithmetic.{wrapped_of_range, wrapped_narrower}
use Rattle.cpa_ints.specs.lemmas.Bits.{bits_below, wrapped_bits, bits_wrapped}
use Rattle.cpa_expr.specs.declared.tree.BinOp.TheVariants as op
use Rattle.cpa_expr.specs.declared.tree.CmpOp.TheVariants as cmp
use Rattle.cpa_expr.specs.declared.tree.Expr.TheVariants.{Const, Bin, Cast}
use Rattle.cpa_expr.specs.Values.{amount_of, bin_value, evaluated, comparison, truth, is_nonzero}
use Rattle.cpa_expr.specs.Values.{value_of, logical_not, HasTruth}
use Rattle.cpa_expr.specs.Cells.{scalar_read}
use Rattle.cpa_expr.specs.Laws.{value_at_variants, a_scalar_is_its_cell}
use Rattle.cpa_interpolant_bits.specs.declared.bits.Bit.{Bit}
use Rattle.cpa_interpolant_bits.specs.Bits.{bit_of, bit_in, shifted, bit_read, bit_is}

-- the truth of a bit that is to be set, or not
abbrev pub wanted_truth : Bool → Bool → Bool
wanted_truth b set = if set then b else not b

-- ---- the number of 64 bits

not_boolean : ty.U64 ≢ ty.Bool
not_boolean e = cc

small : (r : ℕ) → r < 2 ^ 64 → IsInRange ty.U64 (pos r)
small r h = (omega (arith, ints), omega (arith, ints))

widened : (v : ℤ) → wrapped ty.U64 v ≡ pos (bits_of ty.U64 v)
widened v =
    sym (wrapped_bits ty.U64 not_boolean v)
    ∙ wrapped_of_range ty.U64 (pos (bits_of ty.U64 v)) (small _ (bits_below ty.U64 v))

-- ---- moved, masked and compared

amount : (k : ℕ) → k < 64 → amount_of ty.U64 (pos k) ≡ Some k
amount k h = ap (λ b. if b then Some k else None) (lt-ltb k 64 h)

moved : (m k : ℕ) → k < 64 → bin_value op.Shr ty.U64 (pos m) (pos k) ≡ Some (pos (m / 2 ^ k))
moved m k h = ap (option_map (λ n. int_div_euclid (pos m) (pos (2 ^ n)))) (amount k h)

masked : (q : ℕ) → q < 2 ^ 64
    → bin_value op.BitAnd ty.U64 (pos q) (pos 1) ≡ Some (pos (q % 2))
masked q h =
    let low : q % 2 < 2 = mod_below q 2 (omega arith) in
    ap (λ n. Some (wrapped ty.U64 (pos n)))
    (ap (λ n. bit_and n 1) (mod-eq_of_lt h) ∙ and_mask q 1)
    ∙ ap Some (wrapped_of_range ty.U64 (pos (q % 2)) (small _ (omega arith)))

one_or_none : (r : ℕ) → r < 2 → not (int_eq (pos r) (pos 0)) ≡ (r == 1)
one_or_none zero h = refl
one_or_none (suc zero) h = refl
one_or_none (suc (suc n)) h = absurd (omega arith)

-- ---- the expression

module _ (bit : Bit) (values : List ℤ) (there : bit.cell < length values) (below : bit.place < 64)
  where
    value : ℤ
    value = slice_index_or values bit.cell (pos 0)

    pattern : ℕ
    pattern = bits_of ty.U64 (slice_index_or values bit.cell (pos 0))

    quotient : ℕ
    quotient = bits_of ty.U64 (slice_index_or values bit.cell (pos 0)) / 2 ^ bit.place

    cell_value : value_of (Cast ty.U64 (scalar_read bit.ty bit.cell)) values
        ≡ Some (pos (bits_of ty.U64 (slice_index_or values bit.cell (pos 0))))
    cell_value =
        value_at_variants.cast ty.U64 (scalar_read bit.ty bit.cell) values
        ∙ ap (option_map (wrapped ty.U64)) (a_scalar_is_its_cell.value bit.ty bit.cell values
        ∙ slice_get-get_or values bit.cell (pos 0) there)
        ∙ ap Some (widened (slice_index_or values bit.cell (pos 0)))

    shifted_value : value_of (shifted bit) values
        ≡ Some (pos (bits_of ty.U64 (slice_index_or values bit.cell (pos 0)) / 2 ^ bit.place))
    shifted_value =
        let wide = Cast ty.U64 (scalar_read bit.ty bit.cell) in
        let by = Const ty.I32 (pos bit.place) in
        value_at_variants.binary op.Shr ty.U64 wide by values
        ∙ ap (λ o. evaluated (bin_value op.Shr ty.U64) o (value_of by values)) cell_value
        ∙ ap (λ o. evaluated (bin_value op.Shr ty.U64)
        (Some (pos (bits_of ty.U64 (slice_index_or values bit.cell (pos 0))))) o)
        (value_at_variants.constant ty.I32 (pos bit.place) values)
        ∙ moved (bits_of ty.U64 (slice_index_or values bit.cell (pos 0))) bit.place below

    low_value : value_of (Bin op.BitAnd ty.U64 (shifted bit) (Const ty.U64 (pos 1))) values
        ≡ Some (pos (bits_of ty.U64 (slice_index_or values bit.cell (pos 0)) / 2 ^ bit.place % 2))
    low_value =
        let one = Const ty.U64 (pos 1) in
        let m = bits_of ty.U64 (slice_index_or values bit.cell (pos 0)) in
        let under = bits_below ty.U64 (slice_index_or values bit.cell (pos 0)) in
        let less = shr_le m bit.place in
        value_at_variants.binary op.BitAnd ty.U64 (shifted bit) one values
        ∙ ap (λ o. evaluated (bin_value op.BitAnd ty.U64) o (value_of one values)) shifted_value
        ∙ ap (λ o. evaluated (bin_value op.BitAnd ty.U64) (Some (pos (m / 2 ^ bit.place))) o)
        (value_at_variants.constant ty.U64 (pos 1) values)
        ∙ masked (m / 2 ^ bit.place) (omega arith)

    pub read_value : value_of (bit_read bit) values ≡ Some (truth (bit_in values bit))
    read_value =
        let low = Bin op.BitAnd ty.U64 (shifted bit) (Const ty.U64 (pos 1)) in
        let none = Const ty.U64 (pos 0) in
        let r = bits_of ty.U64 (slice_index_or values bit.cell (pos 0)) / 2 ^ bit.place % 2 in
        let q = bits_of ty.U64 (slice_index_or values bit.cell (pos 0)) / 2 ^ bit.place in
        value_at_variants.comparison cmp.Ne ty.U64 low none values
        ∙ ap (λ o. comparison cmp.Ne o (value_of none values)) low_value
        ∙ ap (λ o. comparison cmp.Ne (Some (pos r)) o)
        (value_at_variants.constant ty.U64 (pos 0) values)
        ∙ ap (λ b. Some (truth b)) (one_or_none r (mod_below q 2 (omega arith)))

pub truth_nonzero : (b : Bool) → is_nonzero (truth b) ≡ b
truth_nonzero true = refl
truth_nonzero false = refl

truth_zero : (b : Bool) → is_nonzero (truth (not (is_nonzero (truth b)))) ≡ not b
truth_zero true = refl
truth_zero false = refl

pub read_truth : (bit : Bit) (set : Bool) (values : List ℤ) → bit.cell < length values
    → bit.place < 64 → HasTruth values (bit_is bit set) (wanted_truth (bit_in values bit) set)
read_truth bit true values there below =
    let P = λ (o : Option ℤ). IsSomeAnd o (λ a. is_nonzero a ≡ bit_in values bit) in
    subst P (sym (read_value bit values there below)) (truth_nonzero (bit_in values bit))
read_truth bit false values there below =
    let P = λ (o : Option ℤ). IsSomeAnd o (λ a. is_nonzero a ≡ not (bit_in values bit)) in
    subst P (sym (value_at_variants.negation (bit_read bit) values
    ∙ ap logical_not (read_value bit values there below))) (truth_zero (bit_in values bit))

-- ---- a type's own pattern

low_bit : (n j : ℕ) → 0 < j → n % 2 ^ j % 2 ≡ n % 2
low_bit n j h =
    let whole : j - 1 + 1 ≡ j = omega arith in
    ap (λ i. n % 2 ^ i % 2) (sym whole) ∙ ap (λ k. k % 2) (mod-pow-add n (j - 1) 1)
    ∙ mod_low (n / 2 ^ 1 % 2 ^ (j - 1)) 1 (n % 2) (mod_below n 2 (omega arith))

inner : (n w k : ℕ) → k < w → n % 2 ^ w / 2 ^ k % 2 ≡ n / 2 ^ k % 2
inner n w k h =
    let whole : w - k + k ≡ w = omega arith in
    ap (λ i. n % 2 ^ i / 2 ^ k % 2) (sym whole) ∙ ap (λ m. m % 2) (field_of n (w - k) k)
    ∙ low_bit (n / 2 ^ k) (w - k) (omega arith)

at_most_wide : (t : IntType) → width t ≤ 64
at_most_wide ty.Bool = omega arith
at_most_wide ty.I8 = omega arith
at_most_wide ty.U8 = omega arith
at_most_wide ty.I16 = omega arith
at_most_wide ty.U16 = omega arith
at_most_wide ty.I32 = omega arith
at_most_wide ty.U32 = omega arith
at_most_wide ty.I64 = omega arith
at_most_wide ty.U64 = omega arith

pub own_pattern : (t : IntType) (v : ℤ) → t ≢ ty.Bool
    → bits_of t v ≡ bits_of ty.U64 v % 2 ^ width t
own_pattern t v other =
    sym (bits_wrapped t other v)
    ∙ ap (bits_of t) (sym (wrapped_narrower t ty.U64 other (at_most_wide t) v))
    ∙ bits_wrapped t other (wrapped ty.U64 v) ∙ ap (bits_of t) (widened v)

boolean_bit : (v : ℤ) (place : ℕ) → IsInRange ty.Bool v → place < 1
    → bit_of place v ≡ (bits_of ty.Bool v / 2 ^ place % 2 == 1)
boolean_bit (pos zero) zero r h = refl
boolean_bit (pos (suc zero)) zero r h = refl
boolean_bit (pos (suc (suc n))) zero r h = let high = r.1 in absurd (omega (arith, ints))
boolean_bit (negsuc n) zero r h = let low = r.0 in absurd (omega (arith, ints))
boolean_bit v (suc k) r h = absurd (omega arith)

pub inner_bit : (t : IntType) (v : ℤ) (place : ℕ) → IsInRange t v → place < width t
    → bit_of place v ≡ (bits_of t v / 2 ^ place % 2 == 1)
inner_bit t v place r h = ⊎_elim boolean other (is_boolean t)
  where
    boolean : t ≡ ty.Bool → bit_of place v ≡ (bits_of t v / 2 ^ place % 2 == 1)
    boolean e =
        subst (λ s. bit_of place v ≡ (bits_of s v / 2 ^ place % 2 == 1)) (sym e)
        (boolean_bit v place (subst (λ s. IsInRange s v) e r)
        (subst (λ s. place < width s) e h))

    other : t ≢ ty.Bool → bit_of place v ≡ (bits_of t v / 2 ^ place % 2 == 1)
    other e =
        ap (λ n. n == 1) (sym (ap (λ n. n / 2 ^ place % 2) (own_pattern t v e)
        ∙ inner (bits_of ty.U64 v) (width t) place h))
