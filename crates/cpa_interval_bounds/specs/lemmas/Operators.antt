-- What an operator gives for numbers of two bounds is one of the bounds that it gives for these.
use Rattle.std.proofs.Common.{◌≡◌, ◌≢◌, ℕ, zero, suc, ◌-◌, ◌%◌, ◌^◌, ◌<◌, ◌≤◌, ℤ, pos}
use Rattle.std.proofs.Common.{negsuc, neg_ℤ, ◌+ℤ◌, ◌-ℤ◌, ◌*ℤ◌, ◌≤ℤ◌, ◌<ℤ◌, int_div, int_rem, Bool}
use Rattle.std.proofs.Common.{true, false, ◌&&◌, refl, sym, ap, subst, arith, cond, bit_and}
use Rattle.std.proofs.Common.{bit_or, bit_xor, unsigned_abs}
use Rattle.std.specs.Prelude.{int_le, nat_lt, Option, None, Some, IfSome, option_map}
use Rattle.std.specs.Int.{int_max, int_min, int_div_euclid}
use Rattle.std.specs.Ordering.{int_eq}
use Rattle.std.proofs.lemmas.Int.{ints, clamps, quot-rem}
use Rattle.std.proofs.lemmas.Nat.{pow_pos}
use Rattle.std.proofs.lemmas.Nat.{and_le_l, and_le_r, le_or_l, le_or_r, or_lt, xor_lt, mod_below}
use Rattle.std.proofs.Math.Nat.{mod-le, mod-eq_of_lt, div-le_self}
use Rattle.std.proofs.Math.Pow.{pow_mono}
use Rattle.std.proofs.lemmas.Bool.{cond_both, and_parts}
use Rattle.std.proofs.lemmas.Bool.Decides.{Decides-int_eq, Decides-ltb}
use Rattle.cpa_ints.specs.declared.integers.IntType.{IntType}
use Rattle.cpa_ints.specs.Integers.{width, greatest}
use Rattle.cpa_ints.specs.Bits.{bits_of}
use Rattle.cpa_ints.specs.Wrapping.{wrapped}
use Rattle.cpa_ints.specs.lemmas.WrapLaws.{zero_within}
use Rattle.cpa_ints.specs.lemmas.Arithmetic.{wrapped_in_range, wrapped_of_range}
use Rattle.cpa_expr.specs.declared.tree.UnOp.{UnOp}
use Rattle.cpa_expr.specs.declared.tree.BinOp.{BinOp}
use Rattle.cpa_expr.specs.declared.tree.UnOp.TheVariants as un
use Rattle.cpa_expr.specs.declared.tree.BinOp.TheVariants as bin
use Rattle.cpa_expr.specs.Shape.{is_shift}
use Rattle.cpa_expr.specs.Values.{un_value, amount_of, divided_by, bin_value}
use Rattle.cpa_interval_bounds.specs.declared.bounds.Bounds.{Bounds}
use Rattle.cpa_interval_bounds.specs.Bounds.{IsOf, Has, bounds, range_of, has, is_inside, fitted}
use Rattle.cpa_interval_bounds.specs.Arithmetic.{negation, sum, difference, product, quotient}
use Rattle.cpa_interval_bounds.specs.Arithmetic.{remainder, conjunction, disjunction, exclusion}
use Rattle.cpa_interval_bounds.specs.Arithmetic.{all_ones, clamped, shifted_right, un_bounds}
use Rattle.cpa_interval_bounds.specs.Arithmetic.{bin_bounds}
use Rattle.cpa_interval_bounds.specs.lemmas.Sets.{has_means, lt_true, from_not_le}
use Rattle.cpa_interval_bounds.specs.lemmas.Orders.{OneSide, above, below, product_has}
use Rattle.cpa_interval_bounds.specs.lemmas.Orders.{quotient_has}
use Rattle.cpa_interval_bounds.specs.lemmas.Ranges.{from_zero_both, value_bits, greatest_bits}
use Rattle.cpa_interval_bounds.specs.lemmas.Ranges.{ones_of_both, same_ones, clamped_order}
use Rattle.cpa_interval_bounds.specs.lemmas.Ranges.{halved_order, greatest_natural, bits_in_width}

-- all numbers of a type have what wraps to it
pub wrapped_has : (t : IntType) (n : ℤ) → Has (range_of t) (wrapped t n)
wrapped_has t n = let it = wrapped_in_range t n in record { low = it.0; high = it.1 }

-- a number of the bounds wraps to one of those that fit
pub fitted_has : (t : IntType) (b : Bounds) (n : ℤ) → Has b n → Has (fitted t b) (wrapped t n)
fitted_has t b n h =
    cond_both (is_inside b (range_of t)) b (range_of t) (λ x. Has x (wrapped t n))
    (λ inside. by inside) (λ _. wrapped_has t n) where
      by : is_inside b (range_of t) ≡ true → Has b (wrapped t n)
      by inside =
          let both = and_parts (has (range_of t) b.lo) (has (range_of t) b.hi) inside in
          let first = (has_means (range_of t) b.lo both.0).low in
          let last = (has_means (range_of t) b.hi both.1).high in
          let low = h.low in
          let high = h.high in
          subst (Has b)
          (sym (wrapped_of_range t n (omega (arith, ints), omega (arith, ints)))) h

-- a value, if there is one, is one of the bounds
abbrev pub Within : Bounds → Option ℤ → Type 0
Within b o = IfSome o (Has b)

divided_within : (b : Bounds) (d v : ℤ) → (d ≢ pos 0 → Has b v) → Within b (divided_by d v)
divided_within b d v h = by (int_eq d (pos 0)) refl where
  by : (x : Bool) → int_eq d (pos 0) ≡ x → Within b (cond x None (Some v))
  by true is = tt
  by false is = h (λ e. absurd (cc ((Decides-int_eq d (pos 0)).1 e, is)))

amount_within : (t : IntType) (b : Bounds) (f : ℕ → ℤ) (m : ℤ)
    → ((n : ℕ) → m ≡ pos n → n < width t → Has b (f n)) → Within b (option_map f (amount_of t m))
amount_within t b f (pos n) h = by (nat_lt n (width t)) refl where
  by : (x : Bool) → nat_lt n (width t) ≡ x → Within b (option_map f (cond x (Some n) None))
  by true is = h n refl ((Decides-ltb n (width t)).0 is)
  by false is = tt
amount_within t b f (negsuc n) h = tt

-- ---- from 0 up

rest : (n m : ℤ) → n -ℤ int_div n m *ℤ m ≡ int_rem n m
rest n m = let whole = quot-rem n m in omega (arith, ints, whole)

remainder_has : (a b : Bounds) (n m : ℤ) → Has a n → Has b m → pos 0 ≤ℤ a.lo → pos 0 ≤ℤ b.lo
    → m ≢ pos 0 → Has (remainder a b) (int_rem n m)
remainder_has a b (negsuc n) m first second low other some =
    let l = first.low in absurd (omega (arith, ints))
remainder_has a b (pos n) (negsuc m) first second low other some =
    let l = second.low in absurd (omega (arith, ints))
remainder_has a b (pos n) (pos zero) first second low other some = absurd (some refl)
remainder_has a b (pos n) (pos (suc m)) first second low other some =
    let high = first.high in
    let top = second.high in
    let less : n % suc m ≤ n = mod-le n (suc m) in
    let below : n % suc m < suc m = mod_below n (suc m) (omega arith) in
    let more : pos 0 <ℤ b.hi = omega (arith, ints) in
    subst (λ x. Has (bounds (pos 0) (cond x (int_min a.hi (b.hi -ℤ pos 1)) a.hi)) (pos (n % suc m)))
    (sym (lt_true (pos 0) b.hi more))
    (record { low = omega (arith, ints); high = omega (arith, ints, clamps) })

-- the bits of a number of the type that is not negative
own_bits : (t : IntType) (n : ℕ) → pos n ≤ℤ greatest t → bits_of t (pos n) ≡ n
own_bits t n high =
    let top = greatest_bits t in
    let some : 0 < 2 ^ value_bits t = pow_pos (value_bits t) in
    let less : 2 ^ value_bits t ≤ 2 ^ width t = pow_mono (bits_in_width t) in
    let below : n < 2 ^ width t = omega (arith, ints, top) in
    mod-eq_of_lt below

-- a number of no more bits is one of the type
stays : (t : IntType) (n : ℕ) → pos n ≤ℤ greatest t → wrapped t (pos n) ≡ pos n
stays t n high =
    let z = (zero_within t).0 in wrapped_of_range t (pos n) (omega (arith, ints), high)

-- the numbers of bits of both
bits_within : (t : IntType) (op : ℕ → ℕ → ℕ) (b : Bounds) (n m : ℕ)
    → pos n ≤ℤ greatest t → pos m ≤ℤ greatest t → pos (op n m) ≤ℤ greatest t
    → Has b (pos (op n m)) → Has b (wrapped t (pos (op (bits_of t (pos n)) (bits_of t (pos m)))))
bits_within t op b n m first second both h =
    subst (λ x. Has b (wrapped t (pos (op x (bits_of t (pos m)))))) (sym (own_bits t n first))
    (subst (λ x. Has b (wrapped t (pos (op n x)))) (sym (own_bits t m second))
    (subst (Has b) (sym (stays t (op n m) both)) h))

-- what takes no more bits than its operands
no_more_bits : (t : IntType) (op : ℕ → ℕ → ℕ) (n m : ℕ)
    → ((k : ℕ) → n < 2 ^ k → m < 2 ^ k → op n m < 2 ^ k)
    → pos n ≤ℤ greatest t → pos m ≤ℤ greatest t → pos (op n m) ≤ℤ greatest t
no_more_bits t op n m keeps first second =
    let top = greatest_bits t in
    let some : 0 < 2 ^ value_bits t = pow_pos (value_bits t) in
    let it = keeps (value_bits t) (omega (arith, ints, top)) (omega (arith, ints, top)) in
    omega (arith, ints, top)

pub record AreNatural (t : IntType) (a b : Bounds) (n m : ℕ) : Type 0 where
  pub first : Has a (pos n)
  pub second : Has b (pos m)
  pub left : pos n ≤ℤ greatest t
  pub right : pos m ≤ℤ greatest t

-- numbers of bounds of the type that have no negative one
natural : (t : IntType) (a b : Bounds) (n m : ℤ) (P : ℤ → ℤ → Type 0) → IsOf t a → IsOf t b
    → Has a n → Has b m → pos 0 ≤ℤ a.lo → pos 0 ≤ℤ b.lo
    → ((i j : ℕ) → AreNatural t a b i j → P (pos i) (pos j)) → P n m
natural t a b (negsuc n) m P first second one two low other each =
    let l = one.low in absurd (omega (arith, ints))
natural t a b (pos n) (negsuc m) P first second one two low other each =
    let l = two.low in absurd (omega (arith, ints))
natural t a b (pos n) (pos m) P first second one two low other each =
    let high = first.high in let top = one.high in
    let also = second.high in let other_top = two.high in
    each n m (record {
      first = one;
      second = two;
      left = omega (arith, ints);
      right = omega (arith, ints);
    })

and_within : (t : IntType) (a b : Bounds) (n m : ℕ) → AreNatural t a b n m
    → Has (conjunction a b) (wrapped t (pos (bit_and (bits_of t (pos n)) (bits_of t (pos m)))))
and_within t a b n m are =
    let first = are.first.high in
    let second = are.second.high in
    let left = are.left in
    let less = and_le_l n m in
    let other = and_le_r n m in
    bits_within t bit_and (conjunction a b) n m left are.right (omega (arith, ints))
    (record { low = omega (arith, ints); high = omega (arith, ints, clamps) })

-- as many ones as the greater of both ends has bits
below_ones : (t : IntType) (a b : Bounds) (n m : ℕ) (op : ℕ → ℕ → ℕ) → IsOf t a → IsOf t b
    → pos 0 ≤ℤ a.lo → AreNatural t a b n m
    → ((k : ℕ) → n < 2 ^ k → m < 2 ^ k → op n m < 2 ^ k)
    → pos (op n m) ≤ℤ all_ones (int_max a.hi b.hi)
below_ones t a b n m op first second low are keeps =
    let order = first.order in
    let natural_end : pos 0 ≤ℤ a.hi = omega (arith, ints) in
    let it = ones_of_both t a.hi b.hi natural_end first.high second.high in
    let one = are.first.high in
    let two = are.second.high in
    let same = same_ones a.hi b.hi natural_end in
    let own : int_max a.hi b.hi ≡ pos (unsigned_abs (int_max a.hi b.hi)) =
    greatest_natural a.hi b.hi natural_end in
    let below = it.below in
    let is = it.is in
    let less : n < 2 ^ it.count = omega (arith, ints, clamps, own) in
    let also : m < 2 ^ it.count = omega (arith, ints, clamps, own) in
    let both = keeps it.count less also in
    omega (arith, ints, same, is)

or_within : (t : IntType) (a b : Bounds) (n m : ℕ) → IsOf t a → IsOf t b → pos 0 ≤ℤ a.lo
    → AreNatural t a b n m
    → Has (disjunction a b) (wrapped t (pos (bit_or (bits_of t (pos n)) (bits_of t (pos m)))))
or_within t a b n m first second low are =
    let one = are.first.low in
    let two = are.second.low in
    let more = le_or_l n m in
    let other = le_or_r n m in
    bits_within t bit_or (disjunction a b) n m are.left are.right
    (no_more_bits t bit_or n m (λ k. or_lt k n m) are.left are.right)
    (record {
      low = omega (arith, ints, clamps);
      high = below_ones t a b n m bit_or first second low are (λ k. or_lt k n m);
    })

xor_within : (t : IntType) (a b : Bounds) (n m : ℕ) → IsOf t a → IsOf t b → pos 0 ≤ℤ a.lo
    → AreNatural t a b n m
    → Has (exclusion a b) (wrapped t (pos (bit_xor (bits_of t (pos n)) (bits_of t (pos m)))))
xor_within t a b n m first second low are =
    bits_within t bit_xor (exclusion a b) n m are.left are.right
    (no_more_bits t bit_xor n m (λ k. xor_lt k n m) are.left are.right)
    (record {
      low = omega (arith, ints);
      high = below_ones t a b n m bit_xor first second low are (λ k. xor_lt k n m);
    })

-- the amount lies between the next ones to the ends of its bounds
clamped_amount : (t : IntType) (n : ℕ) → n < width t → clamped t (pos n) ≡ n
clamped_amount t n h =
    let same : int_max (pos 0) (int_min (pos n) (pos (width t - 1))) ≡ pos n =
    omega (arith, ints, clamps) in
    ap unsigned_abs same

shift_within : (t : IntType) (a b : Bounds) (n : ℤ) (k : ℕ) → Has a n → Has b (pos k)
    → pos 0 ≤ℤ a.lo → k < width t → Has (shifted_right t a b) (int_div_euclid n (pos (2 ^ k)))
shift_within t a b (negsuc n) k first second low h =
    let l = first.low in absurd (omega (arith, ints))
shift_within t a b (pos n) k first second low h =
    ends a.lo a.hi low first.low first.high where
      ends : (x y : ℤ) → pos 0 ≤ℤ x → x ≤ℤ pos n → pos n ≤ℤ y
          → Has (shifted_right t (bounds x y) b) (int_div_euclid (pos n) (pos (2 ^ k)))
      ends (negsuc i) y natural_low one two = absurd (omega (arith, ints))
      ends (pos i) (negsuc j) natural_low one two = absurd (omega (arith, ints))
      ends (pos i) (pos j) natural_low one two =
          let same = clamped_amount t k h in
          let more = clamped_order t (pos k) b.hi second.high in
          let less = clamped_order t b.lo (pos k) second.low in
          let down = halved_order i n (clamped t b.hi) k (omega (arith, ints)) (omega arith) in
          let up = halved_order n j k (clamped t b.lo) (omega (arith, ints)) (omega arith) in
          record { low = omega (arith, ints); high = omega (arith, ints) }

-- ---- the operators

pub un_within : (o : UnOp) (t : IntType) (a : Bounds) (n : ℤ) → Has a n
    → Has (un_bounds o t a) (un_value o t n)
un_within un.Neg t a n h =
    let low = h.low in
    let high = h.high in
    fitted_has t (negation a) (neg_ℤ n)
    (record { low = omega (arith, ints); high = omega (arith, ints) })
un_within un.Flip t a n h = wrapped_has t (neg_ℤ n -ℤ pos 1)

own_range : (t : IntType) (a : Bounds) (n : ℤ) → IsOf t a → Has a n → Has (range_of t) n
own_range t a n first one =
    let low = first.low in let high = first.high in let l = one.low in let h = one.high in
    record { low = omega (arith, ints); high = omega (arith, ints) }

-- what is left, or rounded down, is no further from 0
rem_has : (t : IntType) (n m : ℤ) → Has (range_of t) n → Has (range_of t) (int_rem n m)
rem_has t (pos n) m h =
    let z = (zero_within t).0 in
    let high = h.high in
    let less = mod-le n (unsigned_abs m) in
    record { low = omega (arith, ints); high = omega (arith, ints) }
rem_has t (negsuc n) m h =
    by (suc n % unsigned_abs m) (mod-le (suc n) (unsigned_abs m)) where
      by : (k : ℕ) → k ≤ suc n → Has (range_of t) (neg_ℤ (pos k))
      by zero less =
          let z = zero_within t in
          let low = z.0 in
          let high = z.1 in record { low = omega (arith, ints); high = omega (arith, ints) }
      by (suc k) less =
          let low = h.low in
          let high = (zero_within t).1 in
          record { low = omega (arith, ints); high = omega (arith, ints) }

floor_has : (t : IntType) (n : ℤ) (d : ℕ) → Has (range_of t) n
    → Has (range_of t) (int_div_euclid n (pos d))
floor_has t (pos n) d h =
    let z = (zero_within t).0 in
    let high = h.high in
    let less = div-le_self n d in
    record { low = omega (arith, ints); high = omega (arith, ints) }
floor_has t (negsuc n) d h =
    let z = (zero_within t).1 in
    let low = h.low in
    let less = div-le_self n d in
    record { low = omega (arith, ints); high = omega (arith, ints) }

pub one_side : (b : Bounds) (m : ℤ) → Has b m → has b (pos 0) ≡ false → OneSide b.lo b.hi
one_side b m h none = by (int_le b.lo (pos 0)) refl (int_le (pos 0) b.hi) refl none where
  by : (x : Bool) → int_le b.lo (pos 0) ≡ x → (y : Bool) → int_le (pos 0) b.hi ≡ y
      → (x && y) ≡ false → OneSide b.lo b.hi
  by false low y high is = above (from_not_le b.lo (pos 0) low)
  by true low false high is = below (from_not_le (pos 0) b.hi high)
  by true low true high is = absurd (cc)

pub bin_within : (o : BinOp) (t : IntType) (a b : Bounds) (n m : ℤ) → IsOf t a
    → (is_shift o ≡ false → IsOf t b) → Has a n → Has b m
    → Within (bin_bounds o t a b) (bin_value o t n m)
bin_within bin.Add t a b n m first second one two =
    let l = one.low in let h = one.high in let p = two.low in let q = two.high in
    fitted_has t (sum a b) (n +ℤ m)
    (record { low = omega (arith, ints); high = omega (arith, ints) })
bin_within bin.Sub t a b n m first second one two =
    let l = one.low in let h = one.high in let p = two.low in let q = two.high in
    fitted_has t (difference a b) (n -ℤ m)
    (record { low = omega (arith, ints); high = omega (arith, ints) })
bin_within bin.Mul t a b n m first second one two =
    fitted_has t (product a b) (n *ℤ m) (product_has a b n m one two)
bin_within bin.Div t a b n m first second one two =
    cond_both (has b (pos 0)) (range_of t) (fitted t (quotient a b))
    (λ x. Within x (bin_value bin.Div t n m))
    (λ _. divided_within (range_of t) m (wrapped t (int_div n m))
    (λ _. wrapped_has t (int_div n m)))
    (λ none. divided_within (fitted t (quotient a b)) m (wrapped t (int_div n m))
    (λ _. fitted_has t (quotient a b) (int_div n m)
    (quotient_has a b n m (one_side b m two none) one two)))
bin_within bin.Rem t a b n m first second one two =
    from_zero_both (λ x. Within x (bin_value bin.Rem t n m)) t a b (remainder a b)
    (λ low other. divided_within (remainder a b) m (n -ℤ int_div n m *ℤ m)
    (λ some. subst (Has (remainder a b)) (sym (rest n m))
    (remainder_has a b n m one two low other some)))
    (divided_within (range_of t) m (n -ℤ int_div n m *ℤ m)
    (λ _. subst (Has (range_of t)) (sym (rest n m)) (rem_has t n m (own_range t a n first one))))
bin_within bin.BitAnd t a b n m first second one two =
    from_zero_both (λ x. Within x (bin_value bin.BitAnd t n m)) t a b (conjunction a b)
    (λ low other. natural t a b n m (λ i j. Within (conjunction a b) (bin_value bin.BitAnd t i j))
    first (second refl) one two low other (and_within t a b))
    (wrapped_has t (pos (bit_and (bits_of t n) (bits_of t m))))
bin_within bin.BitOr t a b n m first second one two =
    from_zero_both (λ x. Within x (bin_value bin.BitOr t n m)) t a b (disjunction a b)
    (λ low other. natural t a b n m (λ i j. Within (disjunction a b) (bin_value bin.BitOr t i j))
    first (second refl) one two low other
    (λ i j. or_within t a b i j first (second refl) low))
    (wrapped_has t (pos (bit_or (bits_of t n) (bits_of t m))))
bin_within bin.BitXor t a b n m first second one two =
    from_zero_both (λ x. Within x (bin_value bin.BitXor t n m)) t a b (exclusion a b)
    (λ low other. natural t a b n m (λ i j. Within (exclusion a b) (bin_value bin.BitXor t i j))
    first (second refl) one two low other
    (λ i j. xor_within t a b i j first (second refl) low))
    (wrapped_has t (pos (bit_xor (bits_of t n) (bits_of t m))))
bin_within bin.Shl t a b n m first second one two =
    amount_within t (range_of t) (λ k. wrapped t (n *ℤ pos (2 ^ k))) m
    (λ k _ _. wrapped_has t (n *ℤ pos (2 ^ k)))
bin_within bin.Shr t a b n m first second one two =
    from_zero_both (λ x. Within x (bin_value bin.Shr t n m)) t a b (shifted_right t a b)
    (λ low other. amount_within t (shifted_right t a b) (λ k. int_div_euclid n (pos (2 ^ k))) m
    (λ k is h. shift_within t a b n k one (subst (Has b) is two) low h))
    (amount_within t (range_of t) (λ k. int_div_euclid n (pos (2 ^ k))) m
    (λ k _ _. floor_has t n (2 ^ k) (own_range t a n first one)))
