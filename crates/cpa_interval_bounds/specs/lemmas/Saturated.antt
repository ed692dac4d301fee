-- Ends that stop where 128 bits end fit the same types.
use Rattle.std.proofs.Common.{◌≡◌, ◌^◌, ℤ, pos, negsuc, neg_ℤ, ◌≤ℤ◌, ◌<ℤ◌, Bool, true, false, refl}
use Rattle.std.proofs.Common.{sym, ap, ◌∙◌, arith, ◌&&◌, cond, FitsSigned}
use Rattle.std.specs.Prelude.{int_le}
use Rattle.std.specs.Int.{w128, int_max, int_min, saturate_signed}
use Rattle.std.proofs.lemmas.Int.{ints, clamps, by_lt_z}
use Rattle.std.proofs.lemmas.Bool.{and_parts}
use Rattle.cpa_ints.specs.declared.integers.IntType.{IntType}
use Rattle.cpa_ints.specs.declared.integers.IntType.TheVariants as ty
use Rattle.cpa_ints.specs.Integers.{least, greatest}
use Rattle.cpa_interval_bounds.specs.declared.bounds.Bounds.{Bounds}
use Rattle.cpa_interval_bounds.specs.Bounds.{bounds, only, range_of, has, is_inside, hull, fitted}
use Rattle.cpa_interval_bounds.specs.Arithmetic.{saturated, of_ends}

abbrev far : ℤ
far = pos (2 ^ 64)

-- a number within 128 bits stays
pub saturate_fits : (z : ℤ) → FitsSigned w128 z → saturate_signed w128 z ≡ z
saturate_fits (pos n) f = let h = f.sfits in omega (arith, ints)
saturate_fits (negsuc n) f = let h = f.sfits in omega (arith, ints)

-- so do all near zero, and those further out stay on their side
saturate_near : (z : ℤ) → neg_ℤ far ≤ℤ z → z ≤ℤ far → saturate_signed w128 z ≡ z
saturate_near (pos n) low high = omega (arith, ints)
saturate_near (negsuc n) low high = omega (arith, ints)

saturate_above : (l z : ℤ) → neg_ℤ far ≤ℤ l → l ≤ℤ far → l ≤ℤ z → l ≤ℤ saturate_signed w128 z
saturate_above l (pos n) low high h = omega (arith, ints)
saturate_above l (negsuc n) low high h = omega (arith, ints)

saturate_below : (l z : ℤ) → neg_ℤ far ≤ℤ l → l ≤ℤ far → z <ℤ l → saturate_signed w128 z <ℤ l
saturate_below l (pos n) low high h = omega (arith, ints)
saturate_below l (negsuc n) low high h = omega (arith, ints)

saturate_under : (l z : ℤ) → neg_ℤ far ≤ℤ l → l ≤ℤ far → z ≤ℤ l → saturate_signed w128 z ≤ℤ l
saturate_under l (pos n) low high h = omega (arith, ints)
saturate_under l (negsuc n) low high h = omega (arith, ints)

saturate_over : (l z : ℤ) → neg_ℤ far ≤ℤ l → l ≤ℤ far → l <ℤ z → l <ℤ saturate_signed w128 z
saturate_over l (pos n) low high h = omega (arith, ints)
saturate_over l (negsuc n) low high h = omega (arith, ints)

le_true : (a b : ℤ) → a ≤ℤ b → int_le a b ≡ true
le_true a b h = grind (arith, ints)

le_false : (a b : ℤ) → b <ℤ a → int_le a b ≡ false
le_false a b h = grind (arith, ints)

from_le : (a b : ℤ) → int_le a b ≡ true → a ≤ℤ b
from_le a b h = grind (arith, ints)

-- the test of a lower, and of an upper end
low_alike : (l z : ℤ) → neg_ℤ far ≤ℤ l → l ≤ℤ far
    → int_le l (saturate_signed w128 z) ≡ int_le l z
low_alike l z low high =
    by_lt_z z l
    (λ h. le_false l (saturate_signed w128 z) (saturate_below l z low high h)
    ∙ sym (le_false l z h))
    (λ h. le_true l (saturate_signed w128 z) (saturate_above l z low high h) ∙ sym (le_true l z h))

high_alike : (l z : ℤ) → neg_ℤ far ≤ℤ l → l ≤ℤ far
    → int_le (saturate_signed w128 z) l ≡ int_le z l
high_alike l z low high =
    by_lt_z l z
    (λ h. le_false (saturate_signed w128 z) l (saturate_over l z low high h)
    ∙ sym (le_false z l h))
    (λ h. le_true (saturate_signed w128 z) l (saturate_under l z low high h) ∙ sym (le_true z l h))

-- no type has a number far from zero
pub least_near : (t : IntType) → (neg_ℤ far ≤ℤ least t) × (least t ≤ℤ far)
least_near ty.Bool = (omega (arith, ints), omega (arith, ints))
least_near ty.I8 = (omega (arith, ints), omega (arith, ints))
least_near ty.U8 = (omega (arith, ints), omega (arith, ints))
least_near ty.I16 = (omega (arith, ints), omega (arith, ints))
least_near ty.U16 = (omega (arith, ints), omega (arith, ints))
least_near ty.I32 = (omega (arith, ints), omega (arith, ints))
least_near ty.U32 = (omega (arith, ints), omega (arith, ints))
least_near ty.I64 = (omega (arith, ints), omega (arith, ints))
least_near ty.U64 = (omega (arith, ints), omega (arith, ints))

pub greatest_near : (t : IntType) → (neg_ℤ far ≤ℤ greatest t) × (greatest t ≤ℤ far)
greatest_near ty.Bool = (omega (arith, ints), omega (arith, ints))
greatest_near ty.I8 = (omega (arith, ints), omega (arith, ints))
greatest_near ty.U8 = (omega (arith, ints), omega (arith, ints))
greatest_near ty.I16 = (omega (arith, ints), omega (arith, ints))
greatest_near ty.U16 = (omega (arith, ints), omega (arith, ints))
greatest_near ty.I32 = (omega (arith, ints), omega (arith, ints))
greatest_near ty.U32 = (omega (arith, ints), omega (arith, ints))
greatest_near ty.I64 = (omega (arith, ints), omega (arith, ints))
greatest_near ty.U64 = (omega (arith, ints), omega (arith, ints))

has_alike : (t : IntType) (z : ℤ) → has (range_of t) (saturate_signed w128 z) ≡ has (range_of t) z
has_alike t z =
    let l = least_near t in
    let g = greatest_near t in
    ap (λ x. x && int_le (saturate_signed w128 z) (greatest t)) (low_alike (least t) z l.0 l.1)
    ∙ ap (λ x. int_le (least t) z && x) (high_alike (greatest t) z g.0 g.1)

has_same : (t : IntType) (z : ℤ) → has (range_of t) z ≡ true → saturate_signed w128 z ≡ z
has_same t z here =
    let l = (least_near t).0 in
    let g = (greatest_near t).1 in
    let both = and_parts (int_le (least t) z) (int_le z (greatest t)) here in
    let low = from_le (least t) z both.0 in
    let high = from_le z (greatest t) both.1 in
    saturate_near z (omega (arith, ints)) (omega (arith, ints))

inside_alike : (t : IntType) (b : Bounds)
    → is_inside (saturated b) (range_of t) ≡ is_inside b (range_of t)
inside_alike t b =
    ap (λ x. x && has (range_of t) (saturate_signed w128 b.hi)) (has_alike t b.lo)
    ∙ ap (λ x. has (range_of t) b.lo && x) (has_alike t b.hi)

inside_same : (t : IntType) (b : Bounds) → is_inside b (range_of t) ≡ true → saturated b ≡ b
inside_same t b inside =
    let both = and_parts (has (range_of t) b.lo) (has (range_of t) b.hi) inside in
    ap (λ l. bounds l (saturate_signed w128 b.hi)) (has_same t b.lo both.0)
    ∙ ap (bounds b.lo) (has_same t b.hi both.1)

pub fitted_saturated : (t : IntType) (b : Bounds) → fitted t (saturated b) ≡ fitted t b
fitted_saturated t b =
    ap (λ x. cond x (saturated b) (range_of t)) (inside_alike t b)
    ∙ by (is_inside b (range_of t)) refl where
      by : (x : Bool) → is_inside b (range_of t) ≡ x
          → cond x (saturated b) (range_of t) ≡ cond x b (range_of t)
      by true is = inside_same t b is
      by false is = refl

-- the hull of ends that stop there
pub saturate_order : (x y : ℤ) → x ≤ℤ y → saturate_signed w128 x ≤ℤ saturate_signed w128 y
saturate_order (pos m) (pos n) h = omega (arith, ints)
saturate_order (pos m) (negsuc n) h = omega (arith, ints)
saturate_order (negsuc m) (pos n) h = omega (arith, ints)
saturate_order (negsuc m) (negsuc n) h = omega (arith, ints)

pub hull_saturated : (a b : Bounds) → hull (saturated a) (saturated b) ≡ saturated (hull a b)
hull_saturated a b =
    ap (λ l. bounds l (int_max (saturate_signed w128 a.hi) (saturate_signed w128 b.hi)))
    (least_of a.lo b.lo)
    ∙ ap (bounds (saturate_signed w128 (int_min a.lo b.lo))) (greatest_of a.hi b.hi) where
      least_of : (x y : ℤ) → int_min (saturate_signed w128 x) (saturate_signed w128 y)
          ≡ saturate_signed w128 (int_min x y)
      least_of x y = by_lt_z y x
          (λ h.
          let less : y ≤ℤ x = omega (arith, ints, h) in
          let order = saturate_order y x less in
          let one : int_min (saturate_signed w128 x) (saturate_signed w128 y)
          ≡ saturate_signed w128 y = omega (arith, ints, clamps, order) in
          let other : int_min x y ≡ y = omega (arith, ints, clamps, less) in
          one ∙ sym (ap (saturate_signed w128) other))
          (λ h.
          let order = saturate_order x y h in
          let one : int_min (saturate_signed w128 x) (saturate_signed w128 y)
          ≡ saturate_signed w128 x = omega (arith, ints, clamps, order) in
          let other : int_min x y ≡ x = omega (arith, ints, clamps, h) in
          one ∙ sym (ap (saturate_signed w128) other))

      greatest_of : (x y : ℤ) → int_max (saturate_signed w128 x) (saturate_signed w128 y)
          ≡ saturate_signed w128 (int_max x y)
      greatest_of x y = by_lt_z y x
          (λ h.
          let less : y ≤ℤ x = omega (arith, ints, h) in
          let order = saturate_order y x less in
          let one : int_max (saturate_signed w128 x) (saturate_signed w128 y)
          ≡ saturate_signed w128 x = omega (arith, ints, clamps, order) in
          let other : int_max x y ≡ x = omega (arith, ints, clamps, less) in
          one ∙ sym (ap (saturate_signed w128) other))
          (λ h.
          let order = saturate_order x y h in
          let one : int_max (saturate_signed w128 x) (saturate_signed w128 y)
          ≡ saturate_signed w128 y = omega (arith, ints, clamps, order) in
          let other : int_max x y ≡ y = omega (arith, ints, clamps, h) in
          one ∙ sym (ap (saturate_signed w128) other))

hull_of : (a b x y whole : Bounds) → x ≡ saturated a → y ≡ saturated b → whole ≡ hull x y
    → whole ≡ saturated (hull a b)
hull_of a b x y whole left right is =
    is ∙ (ap (λ z. hull z y) left ∙ (ap (hull (saturated a)) right ∙ hull_saturated a b))

-- of what a function gives for the ends
pub ends_saturated : (f : ℤ → ℤ → ℤ) (a b p q r s low high whole : Bounds)
    → p ≡ saturated (only (f a.lo b.lo)) → q ≡ saturated (only (f a.lo b.hi))
    → r ≡ saturated (only (f a.hi b.lo)) → s ≡ saturated (only (f a.hi b.hi))
    → low ≡ hull p q → high ≡ hull r s → whole ≡ hull low high → whole ≡ saturated (of_ends f a b)
ends_saturated f a b p q r s low high whole first second third fourth lower upper is =
    hull_of (hull (only (f a.lo b.lo)) (only (f a.lo b.hi)))
    (hull (only (f a.hi b.lo)) (only (f a.hi b.hi))) low high whole
    (hull_of (only (f a.lo b.lo)) (only (f a.lo b.hi)) p q low first second lower)
    (hull_of (only (f a.hi b.lo)) (only (f a.hi b.hi)) r s high third fourth upper) is
