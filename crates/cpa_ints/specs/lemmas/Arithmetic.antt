-- Wrapping and arithmetic: what wraps to the same number, and operations on wrapped numbers.
use Rattle.std.proofs.Common.{◌≡◌, ◌≢◌, ℕ, zero, suc, ◌+◌, ◌-◌, ◌*◌, ◌^◌, ◌≤◌, refl, sym, ap, subst}
use Rattle.std.proofs.Common.{◌∙◌, arith, ℤ, pos, negsuc, ◌+ℤ◌, ◌-ℤ◌, ◌*ℤ◌, neg_ℤ}
use Rattle.std.proofs.lemmas.Int.{ints}
use Rattle.std.proofs.lemmas.Nat.{pow-add}
use Rattle.cpa_ints.specs.declared.integers.IntType.{IntType}
use Rattle.cpa_ints.specs.declared.integers.IntType.TheVariants as ty
use Rattle.cpa_ints.specs.Integers.{width, IsInRange}
use Rattle.cpa_ints.specs.Wrapping.{IsCongruent, IsTruth, wrapped}
use Rattle.cpa_ints.specs.lemmas.Congruence.{Same, Same-refl, Same-sym, Same-trans, Same-add}
use Rattle.cpa_ints.specs.lemmas.Congruence.{Same-neg, Same-sub, Same-mul, Same-from, Same-to}
use Rattle.cpa_ints.specs.lemmas.WrapLaws.{is_boolean, zero_or, zero_within, truth, congruent_equal}
use Rattle.cpa_ints.specs.lemmas.WrapLaws.{wrapped_is_wrap, wrap_unique}
use lib.IntN.{zero-*ℤ, *ℤ-zero}
use lib.Pow.{pow_pos}
use mathlib.Core.Logic.{⊎_elim}

pub wrapped_in_range : (t : IntType) (n : ℤ) → IsInRange t (wrapped t n)
wrapped_in_range t n = (wrapped_is_wrap t n).in_range

-- a number of the range stays
pub wrapped_of_range : (t : IntType) (n : ℤ) → IsInRange t n → wrapped t n ≡ n
wrapped_of_range t n r =
    sym (wrap_unique t n n (record {
      in_range = r;
      truth = boolean;
      congruent = λ _. Same-to (width t) n n (Same-refl (2 ^ width t) n);
    }))
  where
    boolean : t ≡ ty.Bool → IsTruth n n
    boolean e =
        let b : IsInRange ty.Bool n = subst (λ s. IsInRange s n) e r in let low = b.0 in
        let high = b.1 in (λ z. z, λ h. omega (arith, ints, h))

-- to wrap twice is to wrap once
pub wrapped_twice : (t : IntType) (n : ℤ) → wrapped t (wrapped t n) ≡ wrapped t n
wrapped_twice t n = wrapped_of_range t (wrapped t n) (wrapped_in_range t n)

module _ (t : IntType) (h : t ≢ ty.Bool) where
  pub near : (n : ℤ) → Same (2 ^ width t) (wrapped t n) n
  near n =
      Same-sym (2 ^ width t) n (wrapped t n) (Same-from (width t) n (wrapped t n)
      ((wrapped_is_wrap t n).congruent h))

  pub same_wrapped : (a b : ℤ) → Same (2 ^ width t) a b → wrapped t a ≡ wrapped t b
  same_wrapped a b s =
      let m = 2 ^ width t in
      let from = Same-trans m (wrapped t a) a (wrapped t b) (near a)
      (Same-trans m a b (wrapped t b) s (Same-sym m (wrapped t b) b (near b))) in
      congruent_equal t (wrapped t a) (wrapped t b) (wrapped_in_range t a) (wrapped_in_range t b)
      (Same-to (width t) (wrapped t a) (wrapped t b) from)

  -- congruent numbers wrap to one number, and only they do
  pub congruent_wrapped : (a b : ℤ) → IsCongruent (width t) a b → wrapped t a ≡ wrapped t b
  congruent_wrapped a b c = same_wrapped a b (Same-from (width t) a b c)

  pub wrapped_congruent : (a b : ℤ) → wrapped t a ≡ wrapped t b → IsCongruent (width t) a b
  wrapped_congruent a b e =
      let m = 2 ^ width t in
      let to = Same-sym m (wrapped t a) a (near a) in
      Same-to (width t) a b (Same-trans m a (wrapped t a) b to
      (subst (λ z. Same m z b) (sym e) (near b)))

  pub wrapped_sum : (a b : ℤ) → wrapped t (a +ℤ b) ≡ wrapped t (wrapped t a +ℤ wrapped t b)
  wrapped_sum a b =
      sym (same_wrapped (wrapped t a +ℤ wrapped t b) (a +ℤ b)
      (Same-add (2 ^ width t) (wrapped t a) a (wrapped t b) b (near a) (near b)))

  pub wrapped_difference : (a b : ℤ) → wrapped t (a -ℤ b) ≡ wrapped t (wrapped t a -ℤ wrapped t b)
  wrapped_difference a b =
      sym (same_wrapped (wrapped t a -ℤ wrapped t b) (a -ℤ b)
      (Same-sub (2 ^ width t) (wrapped t a) a (wrapped t b) b (near a) (near b)))

  modular_product : (a b : ℤ) → wrapped t (a *ℤ b) ≡ wrapped t (wrapped t a *ℤ wrapped t b)
  modular_product a b =
      sym (same_wrapped (wrapped t a *ℤ wrapped t b) (a *ℤ b)
      (Same-mul (2 ^ width t) (wrapped t a) a (wrapped t b) b (near a) (near b)))

  modular_negation : (a : ℤ) → wrapped t (neg_ℤ a) ≡ wrapped t (neg_ℤ (wrapped t a))
  modular_negation a =
      sym (same_wrapped (neg_ℤ (wrapped t a)) (neg_ℤ a)
      (Same-neg (2 ^ width t) (wrapped t a) a (near a)))

truth_of_zero : (n : ℤ) → n ≡ pos 0 → wrapped ty.Bool n ≡ pos 0
truth_of_zero n = (truth n).0

truth_of_other : (n : ℤ) → n ≢ pos 0 → wrapped ty.Bool n ≡ pos 1
truth_of_other n = (truth n).1

product_apart : (a b : ℤ) → a ≢ pos 0 → b ≢ pos 0 → a *ℤ b ≢ pos 0
product_apart (pos zero) b h k e = h refl
product_apart (pos (suc a)) (pos zero) h k e = k refl
product_apart (pos (suc a)) (pos (suc b)) h k e = absurd (omega (arith, ints, e))
product_apart (pos (suc a)) (negsuc b) h k e = absurd (omega (arith, ints, e))
product_apart (negsuc a) (pos zero) h k e = k refl
product_apart (negsuc a) (pos (suc b)) h k e = absurd (omega (arith, ints, e))
product_apart (negsuc a) (negsuc b) h k e = absurd (omega (arith, ints, e))

boolean_product : (a b : ℤ) →
    wrapped ty.Bool (a *ℤ b) ≡ wrapped ty.Bool (wrapped ty.Bool a *ℤ wrapped ty.Bool b)
boolean_product a b = ⊎_elim left (λ h. ⊎_elim right (both h) (zero_or b)) (zero_or a)
  where
    left : a ≡ pos 0 → wrapped ty.Bool (a *ℤ b) ≡ wrapped ty.Bool
        (wrapped ty.Bool a *ℤ wrapped ty.Bool b)
    left e =
        truth_of_zero (a *ℤ b) (ap (λ z. z *ℤ b) e ∙ zero-*ℤ b)
        ∙ sym (truth_of_zero (wrapped ty.Bool a *ℤ wrapped ty.Bool b)
        (ap (λ z. z *ℤ wrapped ty.Bool b) (truth_of_zero a e) ∙ zero-*ℤ (wrapped ty.Bool b)))

    right : b ≡ pos 0 → wrapped ty.Bool (a *ℤ b) ≡ wrapped ty.Bool
        (wrapped ty.Bool a *ℤ wrapped ty.Bool b)
    right e =
        truth_of_zero (a *ℤ b) (ap (λ z. a *ℤ z) e ∙ *ℤ-zero a)
        ∙ sym (truth_of_zero (wrapped ty.Bool a *ℤ wrapped ty.Bool b)
        (ap (λ z. wrapped ty.Bool a *ℤ z) (truth_of_zero b e) ∙ *ℤ-zero (wrapped ty.Bool a)))

    both : a ≢ pos 0 → b ≢ pos 0 →
        wrapped ty.Bool (a *ℤ b) ≡ wrapped ty.Bool (wrapped ty.Bool a *ℤ wrapped ty.Bool b)
    both h k =
        let one : wrapped ty.Bool a *ℤ wrapped ty.Bool b
        ≡ pos 1 = ap (λ z. z *ℤ wrapped ty.Bool b) (truth_of_other a h)
        ∙ ap (λ z. pos 1 *ℤ z) (truth_of_other b k) in
        truth_of_other (a *ℤ b) (product_apart a b h k)
        ∙ sym (truth_of_other (wrapped ty.Bool a *ℤ wrapped ty.Bool b) (λ z.
        absurd (omega (arith, ints, one, z))))

boolean_negation : (a : ℤ) → wrapped ty.Bool (neg_ℤ a) ≡ wrapped ty.Bool (neg_ℤ (wrapped ty.Bool a))
boolean_negation a = ⊎_elim nothing something (zero_or a)
  where
    nothing : a ≡ pos 0 → wrapped ty.Bool (neg_ℤ a) ≡ wrapped ty.Bool (neg_ℤ (wrapped ty.Bool a))
    nothing e =
        let z = truth_of_zero a e in truth_of_zero (neg_ℤ a) (ap neg_ℤ e)
        ∙ sym (truth_of_zero (neg_ℤ (wrapped ty.Bool a)) (ap neg_ℤ z))

    something : a ≢ pos 0 → wrapped ty.Bool (neg_ℤ a) ≡ wrapped ty.Bool (neg_ℤ (wrapped ty.Bool a))
    something h =
        let z = truth_of_other a h in truth_of_other (neg_ℤ a) (λ e. h (omega (arith, ints, e)))
        ∙ sym (truth_of_other (neg_ℤ (wrapped ty.Bool a)) (λ e. absurd (omega (arith, ints, e, z))))

pub wrapped_product : (t : IntType) (a b : ℤ) →
    wrapped t (a *ℤ b) ≡ wrapped t (wrapped t a *ℤ wrapped t b)
wrapped_product t a b =
    ⊎_elim (λ e. subst (λ s. wrapped s (a *ℤ b) ≡ wrapped s (wrapped s a *ℤ wrapped s b)) (sym e)
    (boolean_product a b)) (λ h. modular_product t h a b) (is_boolean t)

pub wrapped_negation : (t : IntType) (a : ℤ) → wrapped t (neg_ℤ a) ≡ wrapped t (neg_ℤ (wrapped t a))
wrapped_negation t a =
    ⊎_elim (λ e. subst (λ s. wrapped s (neg_ℤ a) ≡ wrapped s (neg_ℤ (wrapped s a))) (sym e)
    (boolean_negation a)) (λ h. modular_negation t h a) (is_boolean t)

-- a multiple of a power of 2 is one of each lower power
Same-narrower : (i j : ℕ) → i ≤ j → (a b : ℤ) → Same (2 ^ j) a b → Same (2 ^ i) a b
Same-narrower i j h a b s =
    let whole : j - i + i ≡ j = omega arith in
    let d = 2 ^ (j - i) in
    let split : 2 ^ j ≡ d * 2 ^ i = ap (λ k. 2 ^ k) (sym whole) ∙ pow-add 2 (j - i) i in
    let first = ap (λ k. s.j * k) split in
    let second = ap (λ k. s.k * k) split in
    record { j = s.j * d; k = s.k * d; same = omega (arith, ints, s.same) }

at_least_a_byte : (t : IntType) → t ≢ ty.Bool → 8 ≤ width t
at_least_a_byte ty.Bool h = absurd (h refl)
at_least_a_byte ty.I8 h = omega arith
at_least_a_byte ty.U8 h = omega arith
at_least_a_byte ty.I16 h = omega arith
at_least_a_byte ty.U16 h = omega arith
at_least_a_byte ty.I32 h = omega arith
at_least_a_byte ty.U32 h = omega arith
at_least_a_byte ty.I64 h = omega arith
at_least_a_byte ty.U64 h = omega arith

-- to wrap to a type no narrower first changes nothing
pub wrapped_narrower : (s t : IntType) → s ≢ ty.Bool → width s ≤ width t → (n : ℤ) →
    wrapped s (wrapped t n) ≡ wrapped s n
wrapped_narrower s t h w n =
    let byte = at_least_a_byte s h in
    let modular : t ≢ ty.Bool = λ e. let one : width t ≡ 1 = ap width e in absurd (omega arith) in
    same_wrapped s h (wrapped t n) n (Same-narrower (width s) (width t) w (wrapped t n) n
    (near t modular n))

-- to Bool that fails: a multiple of 2^width that is not 0 wraps to 0 first
pub boolean_loses : (t : IntType) → t ≢ ty.Bool →
    wrapped ty.Bool (wrapped t (pos (2 ^ width t))) ≢ wrapped ty.Bool (pos (2 ^ width t))
boolean_loses t h e =
    let m = 2 ^ width t in
    let some = pow_pos (width t) in
    let zero_in = wrapped_of_range t (pos 0) (zero_within t) in
    let gone : wrapped t (pos m) ≡ pos 0 = same_wrapped t h (pos m) (pos 0) (record {
      j = 0;
      k = 1;
      same = omega (arith, ints);
    }) ∙ zero_in in
    let first = truth_of_zero (wrapped t (pos m)) gone in
    let second = truth_of_other (pos m) (λ z. absurd (omega (arith, ints, z))) in
    absurd (omega (arith, ints, e, first, second))

-- and Bool does not keep sums or differences: 1 + 1 is not 0 there, though 1 + (-1) is
pub boolean_sum : wrapped ty.Bool (pos 1 +ℤ negsuc 0)
    ≢ wrapped ty.Bool (wrapped ty.Bool (pos 1) +ℤ wrapped ty.Bool (negsuc 0))
unfolding wrapped
boolean_sum e = cc

pub boolean_difference : wrapped ty.Bool (pos 2 -ℤ pos 1)
    ≢ wrapped ty.Bool (wrapped ty.Bool (pos 2) -ℤ wrapped ty.Bool (pos 1))
unfolding wrapped
boolean_difference e = cc
