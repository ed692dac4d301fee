-- The bounds that operators give are of their type, where those of the operands are.
use Rattle.std.proofs.Common.{◌≡◌, ℕ, suc, ◌+◌, ◌-◌, ◌*◌, ◌/◌, ◌^◌, ◌<◌, ◌≤◌, ℤ, pos}
use Rattle.std.proofs.Common.{negsuc, ◌-ℤ◌, ◌*ℤ◌, ◌≤ℤ◌, int_div, Bool, true}
use Rattle.std.proofs.Common.{false, ◌&&◌, refl, ap, arith, unsigned_abs}
use Rattle.std.specs.Prelude.{int_lt, nat_lt}
use Rattle.std.specs.Int.{w128, int_max, int_min, leading_zeros}
use Rattle.std.proofs.lemmas.Int.{ints, clamps}
use Rattle.std.proofs.lemmas.Nat.{leading_length, pow_pos}
use Rattle.std.proofs.lemmas.Bool.{ltb-false}
use Rattle.std.proofs.Math.Pow.{pow_mono}
use Rattle.std.proofs.Math.Nat.{div-le_self, pow-suc}
use Rattle.std.proofs.lemmas.Bool.{cond_both, and_parts}
use Rattle.std.proofs.lemmas.Bool.Decides.{Decides-ltb}
use Rattle.cpa_ints.specs.declared.integers.IntType.{IntType}
use Rattle.cpa_ints.specs.declared.integers.IntType.TheVariants as ty
use Rattle.cpa_ints.specs.Integers.{width, least, greatest}
use Rattle.cpa_ints.specs.lemmas.WrapLaws.{zero_within}
use Rattle.cpa_expr.specs.declared.tree.UnOp.{UnOp}
use Rattle.cpa_expr.specs.declared.tree.BinOp.{BinOp}
use Rattle.cpa_expr.specs.declared.tree.UnOp.TheVariants as un
use Rattle.cpa_expr.specs.declared.tree.BinOp.TheVariants as bin
use Rattle.cpa_expr.specs.Shape.{is_shift}
use Rattle.cpa_interval_bounds.specs.declared.bounds.Bounds.{Bounds}
use Rattle.cpa_interval_bounds.specs.Bounds.{IsOf, bounds, only, range_of, has, is_inside, hull}
use Rattle.cpa_interval_bounds.specs.Bounds.{fitted}
use Rattle.cpa_interval_bounds.specs.Arithmetic.{negation, sum, difference, of_ends, product}
use Rattle.cpa_interval_bounds.specs.Arithmetic.{quotient, is_from_zero, remainder, all_ones}
use Rattle.cpa_interval_bounds.specs.Arithmetic.{conjunction, disjunction, exclusion, clamped}
use Rattle.cpa_interval_bounds.specs.Arithmetic.{halved, shifted_right, from_zero, un_bounds}
use Rattle.cpa_interval_bounds.specs.Arithmetic.{bin_bounds}
use Rattle.cpa_interval_bounds.specs.lemmas.Sets.{has_means, from_le, from_lt}
use Rattle.cpa_interval_bounds.specs.lemmas.Orders.{larger_quotient, larger_divisor}

-- all numbers of a type
pub range_of-is : (t : IntType) → IsOf t (range_of t)
range_of-is t =
    let z = zero_within t in let low = z.0 in let high = z.1 in
    record { order = omega (arith, ints); low = omega (arith, ints); high = omega (arith, ints) }

-- one number of it
pub only-is : (t : IntType) (n : ℤ) → least t ≤ℤ n → n ≤ℤ greatest t → IsOf t (only n)
only-is t n low high = record { order = omega (arith, ints); low = low; high = high }

pub hull-is : (t : IntType) (a b : Bounds) → IsOf t a → IsOf t b → IsOf t (hull a b)
hull-is t a b first second =
    let o = first.order in let l = first.low in let h = first.high in
    let p = second.order in let m = second.low in let i = second.high in
    record {
      order = omega (arith, ints, clamps);
      low = omega (arith, ints, clamps);
      high = omega (arith, ints, clamps);
    }

-- what fits is of the type
pub fitted-is : (t : IntType) (b : Bounds) → b.lo ≤ℤ b.hi → IsOf t (fitted t b)
fitted-is t b order =
    cond_both (is_inside b (range_of t)) b (range_of t) (IsOf t) (λ inside.
    let both = and_parts (has (range_of t) b.lo) (has (range_of t) b.hi) inside in
    record {
      order = order;
      low = (has_means (range_of t) b.lo both.0).low;
      high = (has_means (range_of t) b.hi both.1).high;
    })
    (λ _. range_of-is t)

ends_ordered : (f : ℤ → ℤ → ℤ) (a b : Bounds) → (of_ends f a b).lo ≤ℤ (of_ends f a b).hi
ends_ordered f a b =
    ordered (f a.lo b.lo) (f a.lo b.hi) (hull (only (f a.hi b.lo)) (only (f a.hi b.hi))) where
      ordered : (p q : ℤ) (r : Bounds)
          → (hull (hull (only p) (only q)) r).lo ≤ℤ (hull (hull (only p) (only q)) r).hi
      ordered p q r =
          let low : int_min p q ≤ℤ p = omega (arith, ints, clamps) in
          let high : p ≤ℤ int_max p q = omega (arith, ints, clamps) in
          let under : int_min (int_min p q) r.lo ≤ℤ int_min p q = omega (arith, ints, clamps) in
          let over : int_max p q ≤ℤ int_max (int_max p q) r.hi = omega (arith, ints, clamps) in
          omega (arith, ints, low, high, under, over)

-- ---- from 0 up

from_zero_means : (a b : Bounds) → (is_from_zero a && is_from_zero b) ≡ true
    → (pos 0 ≤ℤ a.lo) × (pos 0 ≤ℤ b.lo)
from_zero_means a b h =
    let both = and_parts (is_from_zero a) (is_from_zero b) h in
    (from_le (pos 0) a.lo both.0, from_le (pos 0) b.lo both.1)

-- either all numbers, or bounds that are given where there is no negative number
pub from_zero_both : (P : Bounds → Type 0) (t : IntType) (a b inner : Bounds)
    → (pos 0 ≤ℤ a.lo → pos 0 ≤ℤ b.lo → P inner) → P (range_of t) → P (from_zero t a b inner)
from_zero_both P t a b inner given all =
    cond_both (is_from_zero a && is_from_zero b) inner (range_of t) P
    (λ h. let it = from_zero_means a b h in given it.0 it.1) (λ _. all)

remainder-is : (t : IntType) (a b : Bounds) → IsOf t a → b.lo ≤ℤ b.hi → pos 0 ≤ℤ a.lo
    → pos 0 ≤ℤ b.lo → IsOf t (remainder a b)
remainder-is t a b first order low other =
    let z = zero_within t in
    let zero_low = z.0 in
    let o = first.order in let h = first.high in
    cond_both (int_lt (pos 0) b.hi) (int_min a.hi (b.hi -ℤ pos 1)) a.hi
    (λ x. IsOf t (bounds (pos 0) x))
    (λ some.
    let more = from_lt (pos 0) b.hi some in
    record {
      order = omega (arith, ints, clamps);
      low = zero_low;
      high = omega (arith, ints, clamps);
    })
    (λ _. record { order = omega (arith, ints); low = zero_low; high = h })

conjunction-is : (t : IntType) (a b : Bounds) → IsOf t a → b.lo ≤ℤ b.hi → pos 0 ≤ℤ a.lo
    → pos 0 ≤ℤ b.lo → IsOf t (conjunction a b)
conjunction-is t a b first order low other =
    let z = zero_within t in
    let zero_low = z.0 in
    let o = first.order in let h = first.high in
    record {
      order = omega (arith, ints, clamps);
      low = zero_low;
      high = omega (arith, ints, clamps);
    }

-- how many bits a number of the type has, where it is not negative
pub value_bits : IntType → ℕ
value_bits ty.Bool = 1
value_bits ty.I8 = 7
value_bits ty.U8 = 8
value_bits ty.I16 = 15
value_bits ty.U16 = 16
value_bits ty.I32 = 31
value_bits ty.U32 = 32
value_bits ty.I64 = 63
value_bits ty.U64 = 64

pub greatest_bits : (t : IntType) → greatest t ≡ pos (2 ^ value_bits t - 1)
unfolding value_bits
greatest_bits ty.Bool = refl
greatest_bits ty.I8 = refl
greatest_bits ty.U8 = refl
greatest_bits ty.I16 = refl
greatest_bits ty.U16 = refl
greatest_bits ty.I32 = refl
greatest_bits ty.U32 = refl
greatest_bits ty.I64 = refl
greatest_bits ty.U64 = refl

few_bits : (t : IntType) → value_bits t < 128
unfolding value_bits
few_bits ty.Bool = omega arith
few_bits ty.I8 = omega arith
few_bits ty.U8 = omega arith
few_bits ty.I16 = omega arith
few_bits ty.U16 = omega arith
few_bits ty.I32 = omega arith
few_bits ty.U32 = omega arith
few_bits ty.I64 = omega arith
few_bits ty.U64 = omega arith

pub bits_in_width : (t : IntType) → value_bits t ≤ width t
unfolding value_bits
bits_in_width ty.Bool = omega arith
bits_in_width ty.I8 = omega arith
bits_in_width ty.U8 = omega arith
bits_in_width ty.I16 = omega arith
bits_in_width ty.U16 = omega arith
bits_in_width ty.I32 = omega arith
bits_in_width ty.U32 = omega arith
bits_in_width ty.I64 = omega arith
bits_in_width ty.U64 = omega arith

-- the numbers of no more bits than a number of the type
pub record AllOnes (t : IntType) (n : ℕ) : Type 0 where
  pub count : ℕ
  pub is : all_ones (pos n) ≡ pos (2 ^ count - 1)
  pub below : n < 2 ^ count
  pub high : all_ones (pos n) ≤ℤ greatest t

not_more : (j k n : ℕ) → 2 ^ j ≤ 2 * n + 1 → n < 2 ^ k → j ≤ k
not_more j k n power less = by (nat_lt k j) refl where
  by : (b : Bool) → nat_lt k j ≡ b → j ≤ k
  by true is =
      let above : suc k ≤ j = (Decides-ltb k j).0 is in
      let order : 2 ^ suc k ≤ 2 ^ j = pow_mono above in
      absurd (omega (arith, pow-suc 2 k))
  by false is = ltb-false k j is

pub ones_of : (t : IntType) (n : ℕ) → pos n ≤ℤ greatest t → AllOnes t n
ones_of t n high =
    let top : greatest t ≡ pos (2 ^ value_bits t - 1) = greatest_bits t in
    let some : 0 < 2 ^ value_bits t = pow_pos (value_bits t) in
    let less : n < 2 ^ value_bits t = omega (arith, ints, top) in
    let few : value_bits t < 128 = few_bits t in
    let shorter : value_bits t ≤ 128 = omega arith in
    let small : 2 ^ value_bits t ≤ 2 ^ 128 = pow_mono shorter in
    let wide : n < 2 ^ 128 = omega arith in
    let it = leading_length 128 n wide in
    let m = it.0 in
    let long : 128 - leading_zeros w128 n ≡ m = omega (arith, it.1) in
    let most : m ≤ value_bits t = not_more m (value_bits t) n it.3 less in
    let under : 2 ^ m ≤ 2 ^ value_bits t = pow_mono most in
    let own : all_ones (pos n) ≡ pos (2 ^ m - 1) = ap (λ k. pos (2 ^ k - 1)) long in
    record {
      count = m;
      is = own;
      below = it.2;
      high = omega (arith, ints, own, top);
    }

-- a greatest number, where both are natural
pub greatest_natural : (a b : ℤ) → pos 0 ≤ℤ a → int_max a b ≡ pos (unsigned_abs (int_max a b))
greatest_natural a b low = natural (int_max a b) (omega (arith, ints, clamps)) where
  natural : (z : ℤ) → pos 0 ≤ℤ z → z ≡ pos (unsigned_abs z)
  natural (pos n) h = refl
  natural (negsuc n) h = absurd (omega (arith, ints))

-- the ones of the greatest of two numbers
pub ones_of_both : (t : IntType) (a b : ℤ) → pos 0 ≤ℤ a → a ≤ℤ greatest t → b ≤ℤ greatest t
    → AllOnes t (unsigned_abs (int_max a b))
ones_of_both t a b low first second =
    let same = greatest_natural a b low in
    ones_of t (unsigned_abs (int_max a b)) (omega (arith, ints, clamps, same))

pub same_ones : (a b : ℤ) → pos 0 ≤ℤ a
    → all_ones (int_max a b) ≡ all_ones (pos (unsigned_abs (int_max a b)))
same_ones a b low = ap all_ones (greatest_natural a b low)

exclusion-is : (t : IntType) (a b : Bounds) → IsOf t a → IsOf t b → pos 0 ≤ℤ a.lo
    → IsOf t (exclusion a b)
exclusion-is t a b first second low =
    let z = (zero_within t).0 in
    let order = first.order in
    let natural : pos 0 ≤ℤ a.hi = omega (arith, ints) in
    let it = ones_of_both t a.hi b.hi natural first.high second.high in
    let same = same_ones a.hi b.hi natural in
    let is = it.is in
    let high = it.high in
    record { order = omega (arith, ints, same, is); low = z; high = omega (arith, ints, same) }

disjunction-is : (t : IntType) (a b : Bounds) → IsOf t a → IsOf t b → pos 0 ≤ℤ a.lo
    → IsOf t (disjunction a b)
disjunction-is t a b first second low =
    let z = (zero_within t).0 in
    let order = first.order in
    let other = second.order in
    let natural : pos 0 ≤ℤ a.hi = omega (arith, ints) in
    let it = ones_of_both t a.hi b.hi natural first.high second.high in
    let same = same_ones a.hi b.hi natural in
    let is = it.is in
    let below = it.below in
    let high = it.high in
    let own = greatest_natural a.hi b.hi natural in
    let most : int_max a.hi b.hi ≤ℤ all_ones (int_max a.hi b.hi) =
    omega (arith, ints, same, is, own) in
    record {
      order = omega (arith, ints, clamps, most);
      low = omega (arith, ints, clamps);
      high = omega (arith, ints, same);
    }

-- what is divided by a power of 2 stays between 0 and itself
halved_within : (t : IntType) (a amount : ℤ) → pos 0 ≤ℤ a
    → (pos 0 ≤ℤ halved t a amount) × (halved t a amount ≤ℤ a)
halved_within t (pos m) amount h =
    let less = div-le_self m (2 ^ clamped t amount) in
    (omega (arith, ints), omega (arith, ints))
halved_within t (negsuc m) amount h = absurd (omega (arith, ints))

pub clamped_order : (t : IntType) (x y : ℤ) → x ≤ℤ y → clamped t x ≤ clamped t y
clamped_order t x y h =
    natural (int_max (pos 0) (int_min x (pos (width t - 1))))
    (int_max (pos 0) (int_min y (pos (width t - 1)))) (omega (arith, ints, clamps))
    (omega (arith, ints, clamps)) where
      natural : (a b : ℤ) → pos 0 ≤ℤ a → a ≤ℤ b → unsigned_abs a ≤ unsigned_abs b
      natural (pos m) (pos n) low order = omega (arith, ints)
      natural (pos m) (negsuc n) low order = absurd (omega (arith, ints))
      natural (negsuc m) b low order = absurd (omega (arith, ints))

-- less divided by more
pub halved_order : (m n i j : ℕ) → m ≤ n → j ≤ i → m / 2 ^ i ≤ n / 2 ^ j
halved_order m n i j less more =
    let power : 2 ^ j ≤ 2 ^ i = pow_mono more in
    let one = larger_divisor m (2 ^ j) (2 ^ i) (pow_pos j) power in
    let two = larger_quotient m n (2 ^ j) (pow_pos j) less in
    omega arith

halved_pair : (t : IntType) (a c x y : ℤ) → pos 0 ≤ℤ a → a ≤ℤ c → x ≤ℤ y
    → halved t a y ≤ℤ halved t c x
halved_pair t (pos m) (pos n) x y low order amounts =
    let less : m ≤ n = omega (arith, ints) in
    let it = halved_order m n (clamped t y) (clamped t x) less (clamped_order t x y amounts) in
    omega (arith, ints)
halved_pair t (pos m) (negsuc n) x y low order amounts = absurd (omega (arith, ints))
halved_pair t (negsuc m) c x y low order amounts = absurd (omega (arith, ints))

shifted-is : (t : IntType) (a b : Bounds) → IsOf t a → b.lo ≤ℤ b.hi → pos 0 ≤ℤ a.lo
    → IsOf t (shifted_right t a b)
shifted-is t a b first order low =
    let z = (zero_within t).0 in
    let own = first.order in
    let most = first.high in
    let natural : pos 0 ≤ℤ a.hi = omega (arith, ints) in
    let least_one = halved_within t a.lo b.hi low in
    let low_one = least_one.0 in
    let greatest_one = halved_within t a.hi b.lo natural in
    let high_one = greatest_one.1 in
    record {
      order = halved_pair t a.lo a.hi b.lo b.hi low own order;
      low = omega (arith, ints);
      high = omega (arith, ints);
    }

-- ---- the operators

pub un_bounds-is : (o : UnOp) (t : IntType) (a : Bounds) → a.lo ≤ℤ a.hi → IsOf t (un_bounds o t a)
un_bounds-is un.Neg t a order = fitted-is t (negation a) (omega (arith, ints))
un_bounds-is un.Flip t a order = range_of-is t

-- the right operand is of the type, but for a shift
pub bin_bounds-is : (o : BinOp) (t : IntType) (a b : Bounds) → IsOf t a → b.lo ≤ℤ b.hi
    → (is_shift o ≡ false → IsOf t b) → IsOf t (bin_bounds o t a b)
bin_bounds-is bin.Add t a b first order second =
    let own = first.order in fitted-is t (sum a b) (omega (arith, ints))
bin_bounds-is bin.Sub t a b first order second =
    let own = first.order in fitted-is t (difference a b) (omega (arith, ints))
bin_bounds-is bin.Mul t a b first order second =
    fitted-is t (product a b) (ends_ordered ◌*ℤ◌ a b)
bin_bounds-is bin.Div t a b first order second =
    cond_both (has b (pos 0)) (range_of t) (fitted t (quotient a b)) (IsOf t)
    (λ _. range_of-is t) (λ _. fitted-is t (quotient a b) (ends_ordered int_div a b))
bin_bounds-is bin.Rem t a b first order second =
    from_zero_both (IsOf t) t a b (remainder a b) (remainder-is t a b first order) (range_of-is t)
bin_bounds-is bin.BitAnd t a b first order second =
    from_zero_both (IsOf t) t a b (conjunction a b) (conjunction-is t a b first order)
    (range_of-is t)
bin_bounds-is bin.BitOr t a b first order second =
    from_zero_both (IsOf t) t a b (disjunction a b)
    (λ low _. disjunction-is t a b first (second refl) low) (range_of-is t)
bin_bounds-is bin.BitXor t a b first order second =
    from_zero_both (IsOf t) t a b (exclusion a b)
    (λ low _. exclusion-is t a b first (second refl) low) (range_of-is t)
bin_bounds-is bin.Shl t a b first order second = range_of-is t
bin_bounds-is bin.Shr t a b first order second =
    from_zero_both (IsOf t) t a b (shifted_right t a b)
    (λ low _. shifted-is t a b first order low) (range_of-is t)
