-- The quotient toward zero and the one rounded down are what their definitions say, and no other
-- number is.
use Rattle.std.proofs.Common.{◌≡◌, ◌≢◌, ◌↔◌, ℕ, zero, suc, ◌+◌, ◌*◌, ◌<◌, refl, sym, ap, subst, ◌∙◌}
use Rattle.std.proofs.Common.{arith, ℤ, pos, negsuc, ◌+ℤ◌, ◌-ℤ◌, ◌*ℤ◌, ◌≤ℤ◌, ◌<ℤ◌, unsigned_abs}
use Rattle.std.proofs.Common.{int_div, int_rem}
use Rattle.std.proofs.lemmas.Int.{ints, quot-rem, rem_below, unsigned_abs-mul, by_lt_z}
use Rattle.std.specs.Int.{int_div_euclid, int_rem_euclid}
use Rattle.cpa_ints.specs.Quotients.{IsZeroOrSigned, IsQuotient, IsFloor}
use Rattle.cpa_ints.specs.lemmas.Masks.{rem_range}
use borrow.Author.Differences.{up, down, same_in, same_out, sum_is_lem, neg_is, product_is}
use native.Mathlib.Nat.{div-add-mod', mod-lt}

some_abs : (b : ℤ) → b ≢ pos 0 → 0 < unsigned_abs b
some_abs (pos zero) h = absurd (h refl)
some_abs (pos (suc n)) h = omega arith
some_abs (negsuc n) h = omega arith

rem_signed : (a b : ℤ) → IsZeroOrSigned a (int_rem a b)
rem_signed (pos zero) b = (λ h. omega (arith, ints), λ h. omega (arith, ints))
rem_signed (pos (suc a)) b = (λ h. omega (arith, ints), λ h. absurd (omega (arith, ints)))
rem_signed (negsuc a) b = (λ h. absurd (omega (arith, ints)), λ h. omega (arith, ints))

-- `int_div` and `int_rem` are a quotient and what it leaves
div_is_quotient : (a b : ℤ) → b ≢ pos 0 → IsQuotient a b (int_div a b) (int_rem a b)
div_is_quotient a b h =
    record {
      whole = sym (quot-rem a b);
      smaller = rem_below a b (some_abs b h);
      toward_zero = rem_signed a b;
    }

times_difference : (q p b : ℤ) → (q -ℤ p) *ℤ b ≡ q *ℤ b -ℤ p *ℤ b
times_difference q p b =
    let d = q -ℤ p in
    let sum : up d + up p + down q ≡ down d + up q + down p = omega (
      arith,
      same_out,
      sum_is_lem,
      neg_is,
    ) in
    let above = ap (λ x. x * up b) sum in
    let below = ap (λ x. x * down b) sum in
    omega (arith, same_in, sum_is_lem, neg_is, product_is, above, below)

rests_near : (a r s : ℤ) (n : ℕ) → unsigned_abs r < n → unsigned_abs s < n → IsZeroOrSigned a r →
    IsZeroOrSigned a s → unsigned_abs (s -ℤ r) < n
rests_near (pos a) r s n h k p q =
    let above = p.0 (omega (arith, ints)) in let below = q.0 (omega (arith, ints)) in
    omega (arith, ints)
rests_near (negsuc a) r s n h k p q =
    let above = p.1 (omega (arith, ints)) in let below = q.1 (omega (arith, ints)) in
    omega (arith, ints)

none_times : (n m : ℕ) → n * m < m → n ≡ 0
none_times zero m h = refl
none_times (suc n) m h = absurd (omega arith)

-- two quotients of a by b differ by less than one
quotient_unique : (a b q r p s : ℤ) → IsQuotient a b q r → IsQuotient a b p s → (q ≡ p) × (r ≡ s)
quotient_unique a b q r p s h k =
    let first = h.whole in
    let second = k.whole in
    let product : (q -ℤ p) *ℤ b ≡ s -ℤ r = times_difference q p b
    ∙ omega (arith, ints, first, second) in
    let near = rests_near a r s (unsigned_abs b) h.smaller k.smaller h.toward_zero k.toward_zero in
    let less = subst (λ n. n < unsigned_abs b) (sym (ap unsigned_abs product)
    ∙ unsigned_abs-mul (q -ℤ p) b) near in
    let none = none_times (unsigned_abs (q -ℤ p)) (unsigned_abs b) less in
    let same : q ≡ p = omega (arith, ints, none) in
    let times = ap (λ z. z *ℤ b) same in
    (same, omega (arith, ints, first, second, times))

some_divisor : (a b q r : ℤ) → IsQuotient a b q r → b ≢ pos 0
some_divisor a b q r h e =
    let none = ap unsigned_abs e in let less = h.smaller in absurd (omega arith)

quotient_is_div : (a b q r : ℤ) → IsQuotient a b q r → (q ≡ int_div a b) × (r ≡ int_rem a b)
quotient_is_div a b q r h =
    quotient_unique a b q r (int_div a b) (int_rem a b) h
    (div_is_quotient a b (some_divisor a b q r h))

-- what the quotient leaves, as C's `%` has it
rem_is_rest : (a b : ℤ) → int_rem a b ≡ a -ℤ int_div a b *ℤ b
rem_is_rest a b = let whole = quot-rem a b in omega (arith, ints, whole)

pub div_leaves : (a b : ℤ) → b ≢ pos 0 → IsQuotient a b (int_div a b) (a -ℤ int_div a b *ℤ b)
div_leaves a b h = subst (IsQuotient a b (int_div a b)) (rem_is_rest a b) (div_is_quotient a b h)

pub only_div : (a b q r : ℤ) → IsQuotient a b q r → (q ≡ int_div a b) × (r ≡ a -ℤ int_div a b *ℤ b)
only_div a b q r h = let same = quotient_is_div a b q r h in (same.0, same.1 ∙ rem_is_rest a b)

pub exactly_div : (a b q : ℤ) → b ≢ pos 0 → (q ≡ int_div a b) ↔ ((r : ℤ) × IsQuotient a b q r)
exactly_div a b q h = (
  λ e. (
    int_rem a b,
    subst (λ z. IsQuotient a b z (int_rem a b)) (sym e)
        (div_is_quotient a b h),
  ),
  λ k. (quotient_is_div a b q k.0 k.1).0,
)

euclid_whole : (a : ℤ) (d : ℕ) → 0 < d →
    int_div_euclid a (pos d) *ℤ pos d +ℤ int_rem_euclid a (pos d) ≡ a
euclid_whole (pos a) d h = omega (arith, same_in, sum_is_lem, product_is, div-add-mod' a d)
euclid_whole (negsuc a) d h =
    omega (arith, same_in, sum_is_lem, product_is, div-add-mod' a d, mod-lt a h)

at_least_once : (k : ℤ) (d : ℕ) → pos 0 <ℤ k → pos d ≤ℤ (k *ℤ pos d)
at_least_once (pos zero) d h = absurd (omega (arith, ints))
at_least_once (pos (suc n)) d h = omega (arith, ints)
at_least_once (negsuc n) d h = absurd (omega (arith, ints))

pub euclid_is_floor : (a : ℤ) (d : ℕ) → 0 < d → IsFloor a d (int_div_euclid a (pos d))
euclid_is_floor a d h =
    let q = int_div_euclid a (pos d) in
    let whole = euclid_whole a d h in
    let range = rem_range a d h in
    let low = range.0 in
    let high = range.1 in
    record {
      at_most = omega (arith, ints, whole);
      greatest = λ p below. by_lt_z q p
          (λ less. let once = at_least_once (p -ℤ q) d (omega (arith, ints)) in
          let product = times_difference p q (pos d) in
          absurd (omega (arith, ints, whole, once, product)))
          (λ most. most);
    }

pub floor_is_euclid : (a : ℤ) (d : ℕ) (q : ℤ) → 0 < d → IsFloor a d q → q ≡ int_div_euclid a (pos d)
floor_is_euclid a d q h f =
    let g = euclid_is_floor a d h in
    let first = g.greatest q f.at_most in
    let second = f.greatest (int_div_euclid a (pos d)) g.at_most in
    omega (arith, ints, first, second)
