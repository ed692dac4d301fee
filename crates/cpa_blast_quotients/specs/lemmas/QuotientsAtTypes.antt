-- At a type, the magnitudes of two numbers divided give the quotient toward zero and what it
-- leaves, and words of these signs and magnitudes stand for them.
use Rattle.std.proofs.Common.{◌≡◌, ℕ, zero, suc, ◌+◌, ◌-◌, ◌*◌, ◌/◌, ◌%◌, ◌^◌, ◌<◌, Bool}
use Rattle.std.proofs.Common.{true, false, List, length, refl, sym, ap, subst, ◌∙◌, arith, ℤ}
use Rattle.std.proofs.Common.{pos, neg_ℤ, ◌+ℤ◌, ◌-ℤ◌, ◌*ℤ◌, ◌≤ℤ◌, int_div, int_rem}
use Rattle.std.proofs.Math.Nat.{mod-eq_of_lt, div-eq_of_lt-le, add-mul}
use Rattle.std.proofs.lemmas.Nat.{pow_pos}
use Rattle.std.proofs.lemmas.Int.{ints, quot-rem}
use native.Mathlib.Nat.{div-add-mod'}
use Rattle.cpa_ints.specs.declared.integers.IntType.{IntType}
use Rattle.cpa_ints.specs.declared.integers.IntType.TheVariants as ty
use Rattle.cpa_ints.specs.Integers.{width, IsInRange}
use Rattle.cpa_ints.specs.Wrapping.{wrapped}
use Rattle.cpa_ints.specs.Bits.{bits_of}
use Rattle.cpa_ints.specs.lemmas.Arithmetic.{wrapped_of_range}
use Rattle.cpa_ints.specs.lemmas.Congruence.{Same, Same-refl}
use Rattle.cpa_ints.specs.lemmas.Bits.{bits_wrapped}
use Rattle.cpa_blast_gates.specs.Gates.{differ}
use Rattle.cpa_blast_words.specs.Truths.{bit, number}
use Rattle.cpa_blast_words.specs.Types.{StandsFor, filling_bit}
use Rattle.cpa_blast_words.specs.Laws.{words_are_numbers}
use Rattle.cpa_blast_words.specs.lemmas.AtTypes.{stand_for}
use Rattle.cpa_blast_words.specs.lemmas.Orders.{halves, signed_range}
use Rattle.cpa_blast_words.specs.lemmas.Casts.{by_sign, signed_where}
use Rattle.cpa_blast_quotients.specs.Meanings.{Divides, signed_number, signed}

-- ---- the magnitude of a number that a word stands for

pub record IsSized (f : Bool) (a : ℤ) (k : ℕ) : Type 0 where
  pub is : a ≡ signed f k
  pub some : f ≡ true → 0 < k

pub sized : (t : IntType) (bs : List Bool) (a : ℤ) → IsInRange t a
    → StandsFor t bs a
    → IsSized (filling_bit t bs) a (signed_number (filling_bit t bs) (width t) (number bs))
sized t bs a range stands = by (filling_bit t bs) refl
  where
    signs : (f : Bool) → filling_bit t bs ≡ f → (a +ℤ pos (2 ^ width t * bit f)) ≡ pos (number bs)
    signs f e = ap (λ x. a +ℤ pos (2 ^ width t * bit x)) (sym e) ∙ by_sign t bs a range stands

    natural : (p n : ℕ) (a : ℤ) → (a +ℤ pos (p * bit false)) ≡ pos n → a ≡ pos n
    natural p n a e = omega (arith, ints)

    below_zero : (p h n : ℕ) (a : ℤ) → p ≡ 2 * h → 0 < h → n < p → neg_ℤ (pos h) ≤ℤ a
        → (a +ℤ pos (p * bit true)) ≡ pos n → (0 < p - n) × (p - n < p) × (a ≡ neg_ℤ (pos (p - n)))
    below_zero p h n a twice some less low e =
        (omega arith, omega (arith, ints), omega (arith, ints))

    by : (f : Bool) → filling_bit t bs ≡ f → IsSized f a (signed_number f (width t) (number bs))
    by false e =
        record { is = natural (2 ^ width t) (number bs) a (signs false e); some = λ h. absurd (cc) }
    by true e =
        let p = 2 ^ width t in
        let parts = below_zero p (2 ^ (width t - 1)) (number bs) a (halves t)
        (pow_pos (width t - 1))
        (subst (λ k. number bs < 2 ^ k) stands.long (words_are_numbers.below bs))
        (signed_range t a (signed_where t bs e) range).0 (signs true e) in
        let small : (p - number bs) % p ≡ p - number bs = mod-eq_of_lt parts.1 in
        record {
          is = parts.2 ∙ ap (λ k. neg_ℤ (pos k)) (sym small);
          some = λ h. subst (λ k. 0 < k) (sym small) parts.0;
        }

-- ---- the quotient and what it leaves, by signs and magnitudes

div_signed : (f g : Bool) (a b : ℕ) → (f ≡ true → 0 < a) → (g ≡ true → 0 < b)
    → int_div (signed f a) (signed g b) ≡ signed (differ f g) (a / b)
div_signed false false a b p q = refl
div_signed false true a zero p q = absurd (omega (arith, q refl))
div_signed false true a (suc b) p q = refl
div_signed true false zero b p q = absurd (omega (arith, p refl))
div_signed true false (suc a) b p q = refl
div_signed true true zero b p q = absurd (omega (arith, p refl))
div_signed true true (suc a) zero p q = absurd (omega (arith, q refl))
div_signed true true (suc a) (suc b) p q = refl

rem_signed : (f g : Bool) (a b : ℕ) → (f ≡ true → 0 < a) → (g ≡ true → 0 < b)
    → int_rem (signed f a) (signed g b) ≡ signed f (a % b)
rem_signed false false a b p q = refl
rem_signed false true a zero p q = absurd (omega (arith, q refl))
rem_signed false true a (suc b) p q = refl
rem_signed true false zero b p q = absurd (omega (arith, p refl))
rem_signed true false (suc a) b p q = refl
rem_signed true true zero b p q = absurd (omega (arith, p refl))
rem_signed true true (suc a) zero p q = absurd (omega (arith, q refl))
rem_signed true true (suc a) (suc b) p q = refl

quotient_of : (d a q r : ℕ) → Divides d a q r → (a / d ≡ q) × (a % d ≡ r)
quotient_of d a q r is =
    let whole = is.whole in
    let smaller = is.smaller in
    let quotient : a / d ≡ q =
    div-eq_of_lt-le {k = q} d {m = a} (omega arith) (omega (arith, next q d)) in (
      quotient,
      rest (q * d) r a (a % d) whole (ap (λ k. k * d + a % d) (sym quotient)
          ∙ div-add-mod' a d),
    )
  where
    next : (q d : ℕ) → (q + 1) * d ≡ q * d + d
    next q d = add-mul q 1 d ∙ ap (λ k. q * d + k) (once d)
      where
        once : (d : ℕ) → 1 * d ≡ d
        once d = omega arith

    rest : (x r a m : ℕ) → a ≡ x + r → x + m ≡ a → m ≡ r
    rest x r a m e h = omega arith

-- of two numbers, by their magnitudes
pub record IsDivision (f g : Bool) (a b : ℤ) (q r : ℕ) : Type 0 where
  pub quotient : int_div a b ≡ signed (differ f g) q
  pub remainder : (a -ℤ int_div a b *ℤ b) ≡ signed f r

pub division : (f g : Bool) (a b : ℤ) (k d q r : ℕ) → IsSized f a k → IsSized g b d
    → Divides d k q r → IsDivision f g a b q r
division f g a b k d q r is_a is_b divides =
    let both = quotient_of d k q r divides in
    let quotient : int_div a b ≡ signed (differ f g) q =
    ap (λ z. int_div z b) is_a.is ∙ ap (int_div (signed f k)) is_b.is
    ∙ div_signed f g k d is_a.some is_b.some ∙ ap (signed (differ f g)) both.0 in
    let remainder : int_rem a b ≡ signed f r =
    ap (λ z. int_rem z b) is_a.is ∙ ap (int_rem (signed f k)) is_b.is
    ∙ rem_signed f g k d is_a.some is_b.some ∙ ap (signed f) both.1 in
    record {
      quotient = quotient;
      remainder = left a (int_div a b *ℤ b) (int_rem a b) (quot-rem a b) ∙ remainder;
    }
  where
    left : (a x r : ℤ) → x +ℤ r ≡ a → (a -ℤ x) ≡ r
    left a x r e = omega (arith, ints)

-- ---- words of a sign and a magnitude

pub signed_stands : (t : IntType) (f : Bool) (k : ℕ) (bits : List Bool)
    → length bits ≡ width t → k < 2 ^ width t → number bits ≡ signed_number f (width t) k
    → StandsFor t bits (signed f k)
signed_stands t true k bits long less is =
    stand_for t (neg_ℤ (pos k)) bits (2 ^ width t - k) long is
    (turned (2 ^ width t) k less)
  where
    turned : (p k : ℕ) → k < p → Same p (neg_ℤ (pos k)) (pos (p - k))
    turned p k less = record { j = 1; k = 0; same = omega (arith, ints) }
signed_stands t false k bits long less is =
    stand_for t (pos k) bits k long (is ∙ sym (mod-eq_of_lt less))
    (Same-refl (2 ^ width t) (pos k))

-- a number and what it wraps to have the same bits, also at Bool where it lies in the range
pub wraps_alike : (t : IntType) (z : ℤ) → (t ≡ ty.Bool → IsInRange t z)
    → bits_of t (wrapped t z) ≡ bits_of t z
wraps_alike ty.Bool z range = ap (bits_of ty.Bool) (wrapped_of_range ty.Bool z (range refl))
wraps_alike ty.I8 z range = bits_wrapped ty.I8 (λ e. absurd (cc)) z
wraps_alike ty.U8 z range = bits_wrapped ty.U8 (λ e. absurd (cc)) z
wraps_alike ty.I16 z range = bits_wrapped ty.I16 (λ e. absurd (cc)) z
wraps_alike ty.U16 z range = bits_wrapped ty.U16 (λ e. absurd (cc)) z
wraps_alike ty.I32 z range = bits_wrapped ty.I32 (λ e. absurd (cc)) z
wraps_alike ty.U32 z range = bits_wrapped ty.U32 (λ e. absurd (cc)) z
wraps_alike ty.I64 z range = bits_wrapped ty.I64 (λ e. absurd (cc)) z
wraps_alike ty.U64 z range = bits_wrapped ty.U64 (λ e. absurd (cc)) z
