-- Where the exact result of each operator lies outside a signed type, by numbers of the type alone.
use Rattle.std.proofs.Common.{◌≡◌, ◌≢◌, ◌↔◌, ◌⊎◌, inl, inr, ℕ, zero, suc, ◌+◌, ◌*◌, ◌^◌, ◌<◌, ◌≤◌}
use Rattle.std.proofs.Common.{ℤ, pos, negsuc, ◌+ℤ◌, ◌-ℤ◌, ◌*ℤ◌, neg_ℤ, ◌<ℤ◌, int_div, int_rem}
use Rattle.std.proofs.Common.{unsigned_abs, refl, sym, ap, subst, ◌∙◌, arith}
use Rattle.std.proofs.lemmas.Int.{ints, by_lt_z, quot-rem, rem_below, unsigned_abs-mul}
use Rattle.std.specs.Int.{int_div_euclid, int_rem_euclid}
use Rattle.cpa_ints.specs.declared.integers.IntType.{IntType}
use Rattle.cpa_ints.specs.Integers.{width, least, greatest, IsInRange}
use Rattle.cpa_ints.specs.Wrapping.{wrapped}
use Rattle.cpa_ints.specs.lemmas.Arithmetic.{wrapped_in_range, wrapped_of_range}
use Rattle.cpa_ints.specs.lemmas.Masks.{rem_range}
use Rattle.cpa_trap_checks.specs.Wraps.{IsBeyond}
use Rattle.cpa_trap_checks.specs.lemmas.Ends.{Ends, within_or_beyond, not_both_ways, close}
use borrow.Author.Differences.{up, down, same_in, same_out, sum_is_lem, neg_is, product_is}
use native.Mathlib.Nat.{div-add-mod', mod-lt}
use Rattle.std.proofs.Math.Nat.{mul-le-mul_left, mul-le-mul_right}
use Rattle.std.proofs.Math.Pow.{pow_mono}
use lib.Pow.{pow_pos}

-- ---- products and quotients of whole numbers

times_difference : (q p b : ℤ) → (q -ℤ p) *ℤ b ≡ q *ℤ b -ℤ p *ℤ b
times_difference q p b =
    let d = q -ℤ p in
    let sum : up d + up p + down q ≡ down d + up q + down p = omega (
      arith,
      same_out,
      sum_is_lem,
      neg_is,
    ) in
    let above = ap (λ x. x * up b) sum in
    let below = ap (λ x. x * down b) sum in
    omega (arith, same_in, sum_is_lem, neg_is, product_is, above, below)

none_times : (n m : ℕ) → n * m < m → n ≡ 0
none_times zero m h = refl
none_times (suc n) m h = absurd (omega arith)

some_abs : (b : ℤ) → b ≢ pos 0 → 0 < unsigned_abs b
some_abs (pos zero) h = absurd (h refl)
some_abs (pos (suc n)) h = omega arith
some_abs (negsuc n) h = omega arith

-- numbers whose products with b lie less than |b| apart are one
near_products : (q p b : ℤ) → unsigned_abs (q *ℤ b -ℤ p *ℤ b) < unsigned_abs b → q ≡ p
near_products q p b h =
    let product = times_difference q p b in
    let less = subst (λ n. n < unsigned_abs b) (sym (ap unsigned_abs product)
    ∙ unsigned_abs-mul (q -ℤ p) b) h in
    let none = none_times (unsigned_abs (q -ℤ p)) (unsigned_abs b) less in
    omega (arith, ints, none)

-- the quotient of a product is the other factor
exact_quotient : (x y : ℤ) → y ≢ pos 0 → int_div (x *ℤ y) y ≡ x
exact_quotient x y h =
    let whole = quot-rem (x *ℤ y) y in
    let small = rem_below (x *ℤ y) y (some_abs y h) in
    near_products (int_div (x *ℤ y) y) x y
    (let rest : unsigned_abs (int_div (x *ℤ y) y *ℤ y -ℤ x *ℤ y)
    ≡ unsigned_abs (int_rem (x *ℤ y) y) = omega (arith, ints, whole) in omega (arith, rest, small))

-- what the absolute values of a quotient, a divisor and a rest can not be
too_low : (m q y r : ℕ) → 0 < y → suc (suc m) ≤ q → r < y → q * y ≤ suc m + r → ⊥
too_low m q y r some far small most =
    let times = mul-le-mul_right y far in
    let once : m * 1 ≤ m * y = mul-le-mul_left m some in
    absurd (omega (arith, times, once, small, most))

too_high : (m q y r : ℕ) → 2 ≤ y → 1 ≤ m → suc m ≤ q → r < y → q * y ≤ suc m + r → ⊥
too_high m q y r some large far small most =
    let times = mul-le-mul_right y far in
    let twice : m * 2 ≤ m * y = mul-le-mul_left m some in
    absurd (omega (arith, times, twice, large, small, most))

large_or_one : (y : ℤ) → y ≢ pos 0 → y ≢ negsuc 0 → (2 ≤ unsigned_abs y) ⊎ (y ≡ pos 1)
large_or_one (pos zero) h k = absurd (h refl)
large_or_one (pos (suc zero)) h k = inr refl
large_or_one (pos (suc (suc n))) h k = inl (omega arith)
large_or_one (negsuc zero) h k = absurd (k refl)
large_or_one (negsuc (suc n)) h k = inl (omega arith)

times_one : (x : ℤ) → x *ℤ pos 1 ≡ x
times_one x = omega (arith, ints)

quotient_by_one : (x y : ℤ) → y ≡ pos 1 → int_div x y ≡ x
quotient_by_one x y e =
    ap (λ d. int_div x d) e ∙ (ap (λ n. int_div n (pos 1)) (sym (times_one x))
    ∙ exact_quotient x (pos 1) (λ z. cc))

minus_times : (x : ℤ) → x *ℤ negsuc 0 ≡ neg_ℤ x
minus_times (pos zero) = refl
minus_times (pos (suc n)) = omega (arith, ints)
minus_times (negsuc n) = omega (arith, ints)

minus_quotient : (x : ℤ) → int_div x (negsuc 0) ≡ neg_ℤ x
minus_quotient x =
    let whole = quot-rem x (negsuc 0) in
    let small = rem_below x (negsuc 0) (omega arith) in
    let times = minus_times (int_div x (negsuc 0)) in
    omega (arith, ints, whole, small, times)

euclid_whole : (a : ℤ) (d : ℕ) → 0 < d →
    int_div_euclid a (pos d) *ℤ pos d +ℤ int_rem_euclid a (pos d) ≡ a
euclid_whole (pos a) d h = omega (arith, same_in, sum_is_lem, product_is, div-add-mod' a d)
euclid_whole (negsuc a) d h =
    omega (arith, same_in, sum_is_lem, product_is, div-add-mod' a d, mod-lt a h)

-- a multiple of d, divided by d and rounded down
exact_floor : (x : ℤ) (d : ℕ) → 0 < d → int_div_euclid (x *ℤ pos d) (pos d) ≡ x
exact_floor x d h =
    let n = x *ℤ pos d in
    let whole = euclid_whole n d h in
    let range = rem_range n d h in
    let low = range.0 in
    let high = range.1 in
    near_products (int_div_euclid n (pos d)) x (pos d) (omega (arith, ints, whole, low, high))

-- ---- at a signed type

module _ (t : IntType) (ends : Ends t) where
  top : greatest t ≡ pos ends.most
  top = ends.greatest_is

  bottom : least t ≡ negsuc ends.most
  bottom = ends.least_is

  abbrev In : ℤ → Type 0
  In = IsInRange t

  pub negation_beyond : (x : ℤ) → In x → (x ≡ least t) ↔ IsBeyond t (neg_ℤ x)
  negation_beyond x r =
      let low = r.0 in
      let high = r.1 in (
        λ e. inr (omega (arith, ints, top, bottom, e)),
        λ b. elim b [
          | inl h ↦ absurd (omega (arith, ints, top, bottom, high, h))
          | inr h ↦ omega (arith, ints, top, bottom, low, high, h)
        ],
      )

  -- what is left beside a number of the other sign is a number of the type
  pub left_of_greatest : (y : ℤ) → In y → pos 0 <ℤ y → wrapped t (greatest t -ℤ y) ≡ greatest t -ℤ y
  left_of_greatest y r h =
      let high = r.1 in
      wrapped_of_range t (greatest t -ℤ y)
      (omega (arith, ints, top, bottom, high, h), omega (arith, ints, top, bottom, high, h))

  pub left_of_least : (y : ℤ) → In y → y <ℤ pos 0 → wrapped t (least t -ℤ y) ≡ least t -ℤ y
  left_of_least y r h =
      let low = r.0 in
      wrapped_of_range t (least t -ℤ y)
      (omega (arith, ints, top, bottom, low, h), omega (arith, ints, top, bottom, low, h))

  pub left_above : (y : ℤ) → In y → y <ℤ pos 0 → wrapped t (greatest t +ℤ y) ≡ greatest t +ℤ y
  left_above y r h =
      let low = r.0 in
      wrapped_of_range t (greatest t +ℤ y)
      (omega (arith, ints, top, bottom, low, h), omega (arith, ints, top, bottom, low, h))

  pub left_below : (y : ℤ) → In y → pos 0 <ℤ y → wrapped t (least t +ℤ y) ≡ least t +ℤ y
  left_below y r h =
      let high = r.1 in
      wrapped_of_range t (least t +ℤ y)
      (omega (arith, ints, top, bottom, high, h), omega (arith, ints, top, bottom, high, h))

  pub sum_beyond : (x y : ℤ) → In x → In y
      → (((pos 0 <ℤ y) × ((greatest t -ℤ y) <ℤ x)) ⊎ ((y <ℤ pos 0) × (x <ℤ (least t -ℤ y))))
      ↔ IsBeyond t (x +ℤ y)
  sum_beyond x y r s =
      let low = r.0 in
      let high = r.1 in (
        λ a. elim a [
          | inl h ↦ let past = h.1 in inr (omega (arith, ints, past))
          | inr h ↦ let past = h.1 in inl (omega (arith, ints, past))
        ],
        λ b. elim b [
          | inl h ↦ inr (omega (arith, ints, low, h), omega (arith, ints, h))
          | inr h ↦ inl (omega (arith, ints, high, h), omega (arith, ints, h))
        ],
      )

  pub difference_beyond : (x y : ℤ) → In x → In y
      → (((y <ℤ pos 0) × ((greatest t +ℤ y) <ℤ x)) ⊎ ((pos 0 <ℤ y) × (x <ℤ (least t +ℤ y))))
      ↔ IsBeyond t (x -ℤ y)
  difference_beyond x y r s =
      let low = r.0 in
      let high = r.1 in (
        λ a. elim a [
          | inl h ↦ let past = h.1 in inr (omega (arith, ints, past))
          | inr h ↦ let past = h.1 in inl (omega (arith, ints, past))
        ],
        λ b. elim b [
          | inl h ↦ inr (omega (arith, ints, low, h), omega (arith, ints, h))
          | inr h ↦ inl (omega (arith, ints, high, h), omega (arith, ints, h))
        ],
      )

  -- a quotient by another number than 0 and -1 lies in the range
  pub quotient_within : (x y : ℤ) → In x → y ≢ pos 0 → y ≢ negsuc 0 → In (int_div x y)
  quotient_within x y r h k =
      by_lt_z q (least t)
      (λ less. absurd (too_low ends.most (unsigned_abs q) (unsigned_abs y)
      (unsigned_abs (int_rem x y)) (some_abs y h) (omega (arith, ints, bottom, less)) small most))
      (λ above. by_lt_z (greatest t) q (λ more. absurd (not_above more)) (λ below. (above, below)))
    where
      q : ℤ
      q = int_div x y

      small : unsigned_abs (int_rem x y) < unsigned_abs y
      small = rem_below x y (some_abs y h)

      most : unsigned_abs (int_div x y) * unsigned_abs y
          ≤ suc ends.most + unsigned_abs (int_rem x y)
      most =
          let whole = quot-rem x y in
          let low = r.0 in
          let high = r.1 in
          let product = unsigned_abs-mul (int_div x y) y in
          omega (arith, ints, top, bottom, low, high, whole, product)

      not_above : greatest t <ℤ int_div x y → ⊥
      not_above more = elim (large_or_one y h k) [
        | inl large ↦ too_high ends.most (unsigned_abs (int_div x y)) (unsigned_abs y)
            (unsigned_abs (int_rem x y)) large ends.some (omega (arith, ints, top, more)) small most
        | inr one ↦
            let same = quotient_by_one x y one in
            let high = r.1 in
            absurd (omega (arith, ints, same, more, high))
      ]

  pub quotient_beyond : (x y : ℤ) → In x → y ≢ pos 0
      → ((x ≡ least t) × (y ≡ negsuc 0)) ↔ IsBeyond t (int_div x y)
  quotient_beyond x y r h =
      let flipped : y ≡ negsuc 0 → int_div x y ≡ neg_ℤ x =
      λ e. ap (int_div x) e ∙ minus_quotient x in (
        λ p. subst (IsBeyond t) (sym (flipped p.1)) ((negation_beyond x r).0 p.0),
        λ b. elim (minus_or_other y) [
          | inl e ↦ ((negation_beyond x r).1 (subst (IsBeyond t) (flipped e) b), e)
          | inr k ↦ absurd (not_both_ways t (int_div x y) (quotient_within x y r h k) b)
        ],
      )
    where
      minus_or_other : (y : ℤ) → (y ≡ negsuc 0) ⊎ (y ≢ negsuc 0)
      minus_or_other (pos n) = inr (λ e. cc)
      minus_or_other (negsuc zero) = inl refl
      minus_or_other (negsuc (suc n)) = inr (λ e. cc)

  pub product_beyond : (x y : ℤ) → In x → In y
      → (((y ≡ negsuc 0) × (x ≡ least t))
      ⊎ (((y ≢ pos 0) × (y ≢ negsuc 0)) × (wrapped t (int_div (wrapped t (x *ℤ y)) y) ≢ x)))
      ↔ IsBeyond t (x *ℤ y)
  product_beyond x y r s = (
    λ a. elim a [
      | inl p ↦ subst (IsBeyond t) (sym (ap (λ z. x *ℤ z) p.0 ∙ minus_times x))
          ((negation_beyond x r).0 p.1)
      | inr p ↦ lost p.0.0 p.1
    ],
    λ b. elim (zero_minus_other y) [
      | inl z ↦ absurd (nothing z b)
      | inr n ↦ elim n [
        | inl e ↦ inl (
          e,
          (negation_beyond x r).1
              (subst (IsBeyond t) (ap (λ z. x *ℤ z) e ∙ minus_times x) b),
        )
        | inr k ↦ inr (k, λ back. kept k.0 k.1 back b)
      ]
    ],
  )
    where
      zero_minus_other : (y : ℤ)
          → (y ≡ pos 0) ⊎ (y ≡ negsuc 0) ⊎ ((y ≢ pos 0) × (y ≢ negsuc 0))
      zero_minus_other (pos zero) = inl refl
      zero_minus_other (pos (suc n)) = inr (inr (λ e. cc, λ e. cc))
      zero_minus_other (negsuc zero) = inr (inl refl)
      zero_minus_other (negsuc (suc n)) = inr (inr (λ e. cc, λ e. cc))

      lost : y ≢ pos 0 → wrapped t (int_div (wrapped t (x *ℤ y)) y) ≢ x → IsBeyond t (x *ℤ y)
      lost h other = elim (within_or_beyond t (x *ℤ y)) [
        | inl fits ↦ absurd (other
            (ap (λ w. wrapped t (int_div w y)) (wrapped_of_range t (x *ℤ y) fits)
            ∙ ap (wrapped t) (exact_quotient x y h) ∙ wrapped_of_range t x r))
        | inr b ↦ b
      ]

      times_zero : (x : ℤ) → x *ℤ pos 0 ≡ pos 0
      times_zero x = omega (arith, ints)

      nothing : y ≡ pos 0 → IsBeyond t (x *ℤ y) → ⊥
      nothing z b =
          let none : x *ℤ y ≡ pos 0 = ap (λ n. x *ℤ n) z ∙ times_zero x in
          not_both_ways t (pos 0)
          (omega (arith, ints, top, bottom), omega (arith, ints, top, bottom))
          (subst (IsBeyond t) none b)

      kept : y ≢ pos 0 → y ≢ negsuc 0 → wrapped t (int_div (wrapped t (x *ℤ y)) y) ≡ x
          → IsBeyond t (x *ℤ y) → ⊥
      kept h k back b =
          let w = wrapped t (x *ℤ y) in
          let q = int_div w y in
          let fits = wrapped_in_range t (x *ℤ y) in
          let quotient : q ≡ x = sym (wrapped_of_range t q (quotient_within w y fits h k)) ∙ back in
          let whole = quot-rem w y in
          let small = rem_below w y (some_abs y h) in
          let product = ap (λ z. z *ℤ y) quotient in
          let low = s.0 in
          let high = s.1 in
          let window = ends.window in
          let same : w ≡ x *ℤ y = close t ends.modular (x *ℤ y)
          (omega (arith, ints, top, bottom, window, whole, product, small, low, high))
          (omega (arith, ints, top, bottom, window, whole, product, small, low, high)) in
          not_both_ways t (x *ℤ y) (subst (IsInRange t) same fits) b

  pub shift_beyond : (x : ℤ) (n : ℕ) → In x → n < width t
      → (int_div_euclid (wrapped t (x *ℤ pos (2 ^ n))) (pos (2 ^ n)) ≢ x)
      ↔ IsBeyond t (x *ℤ pos (2 ^ n))
  shift_beyond x n r small = (lost, λ b back. kept back b)
    where
      lost : int_div_euclid (wrapped t (x *ℤ pos (2 ^ n))) (pos (2 ^ n)) ≢ x
          → IsBeyond t (x *ℤ pos (2 ^ n))
      lost other = elim (within_or_beyond t (x *ℤ pos (2 ^ n))) [
        | inl fits ↦ absurd (other
            (ap (λ w. int_div_euclid w (pos (2 ^ n))) (wrapped_of_range t (x *ℤ pos (2 ^ n)) fits)
            ∙ exact_floor x (2 ^ n) (pow_pos n)))
        | inr b ↦ b
      ]

      kept : int_div_euclid (wrapped t (x *ℤ pos (2 ^ n))) (pos (2 ^ n)) ≡ x
          → IsBeyond t (x *ℤ pos (2 ^ n)) → ⊥
      kept back b =
          let w = wrapped t (x *ℤ pos (2 ^ n)) in
          let whole = euclid_whole w (2 ^ n) (pow_pos n) in
          let range = rem_range w (2 ^ n) (pow_pos n) in
          let low = range.0 in
          let high = range.1 in
          let product = ap (λ z. z *ℤ pos (2 ^ n)) back in
          let power : 2 ^ n ≤ 2 ^ width t = pow_mono (omega (arith, small)) in
          let same : w ≡ x *ℤ pos (2 ^ n) = close t ends.modular (x *ℤ pos (2 ^ n))
          (omega (arith, ints, whole, product, low, high, power))
          (omega (arith, ints, whole, product, low, high, power)) in
          not_both_ways t (x *ℤ pos (2 ^ n))
          (subst (IsInRange t) same (wrapped_in_range t (x *ℤ pos (2 ^ n)))) b
