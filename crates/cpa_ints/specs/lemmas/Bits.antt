-- The bits of a number are the natural number below 2^width that is congruent to it; what follows
-- for `wrapped`.
use Rattle.std.proofs.Common.{◌≡◌, ◌≢◌, ℕ, ◌^◌, ◌<◌, refl, sym, ap, subst, ◌∙◌, arith, ℤ, pos}
use Rattle.std.proofs.Common.{negsuc}
use Rattle.std.proofs.lemmas.Int.{ints}
use Rattle.std.specs.Int.{int_rem_euclid}
use Rattle.cpa_ints.specs.declared.integers.IntType.{IntType}
use Rattle.cpa_ints.specs.declared.integers.IntType.TheVariants as ty
use Rattle.cpa_ints.specs.Integers.{width, IsInRange}
use Rattle.cpa_ints.specs.Wrapping.{IsCongruent, wrapped}
use Rattle.cpa_ints.specs.Bits.{bits_of}
use Rattle.cpa_ints.specs.lemmas.Congruence.{Same, Same-refl, Same-sym, Same-trans, Same-rem}
use Rattle.cpa_ints.specs.lemmas.Congruence.{Same-unique, Same-from, Same-to}
use Rattle.cpa_ints.specs.lemmas.Masks.{rem_range}
use Rattle.cpa_ints.specs.lemmas.WrapLaws.{is_boolean}
use Rattle.cpa_ints.specs.lemmas.Arithmetic.{wrapped_of_range, near, same_wrapped}
use mathlib.Core.Logic.{⊎_elim}
use lib.Pow.{pow_pos}

bits_are : (t : IntType) (a : ℤ) → pos (bits_of t a) ≡ int_rem_euclid a (pos (2 ^ width t))
bits_are t (pos a) = refl
bits_are t (negsuc a) = refl

module _ (t : IntType) where
  pub bits_below : (a : ℤ) → bits_of t a < 2 ^ width t
  bits_below a =
      let range = rem_range a (2 ^ width t) (pow_pos (width t)) in let high = range.1 in
      omega (arith, ints, bits_are t a)

  bits_near : (a : ℤ) → Same (2 ^ width t) a (pos (bits_of t a))
  bits_near a =
      subst (Same (2 ^ width t) a) (sym (bits_are t a))
      (Same-rem (2 ^ width t) (pow_pos (width t)) a)

  pub bits_congruent : (a : ℤ) → IsCongruent (width t) a (pos (bits_of t a))
  bits_congruent a = Same-to (width t) a (pos (bits_of t a)) (bits_near a)

  -- two natural numbers below 2^width that are congruent to one number are equal
  bits_only : (a : ℤ) (n : ℕ) → n < 2 ^ width t → Same (2 ^ width t) a (pos n) → n ≡ bits_of t a
  bits_only a n h s =
      let m = 2 ^ width t in
      let below = bits_below a in
      let same = Same-trans m (pos n) a (pos (bits_of t a)) (Same-sym m a (pos n) s) (bits_near a)
      in
      let e = Same-unique m (pos 0) (pos n) (pos (bits_of t a)) (omega (arith, ints)) (omega (
        arith,
        ints,
      )) (omega (arith, ints)) (omega (arith, ints)) same in
      omega (arith, ints, e)

  pub bits_unique : (a : ℤ) (n : ℕ) → n < 2 ^ width t → IsCongruent (width t) a (pos n) →
      n ≡ bits_of t a
  bits_unique a n h c = bits_only a n h (Same-from (width t) a (pos n) c)

  pub wrapped_bits : t ≢ ty.Bool → (a : ℤ) → wrapped t (pos (bits_of t a)) ≡ wrapped t a
  wrapped_bits h a = sym (same_wrapped t h a (pos (bits_of t a)) (bits_near a))

  pub bits_wrapped : t ≢ ty.Bool → (a : ℤ) → bits_of t (wrapped t a) ≡ bits_of t a
  bits_wrapped h a =
      sym (bits_only (wrapped t a) (bits_of t a) (bits_below a)
      (Same-trans (2 ^ width t) (wrapped t a) a (pos (bits_of t a)) (near t h a) (bits_near a)))

-- a truth is its own bit
boolean_back : (a : ℤ) → IsInRange ty.Bool a → wrapped ty.Bool (pos (bits_of ty.Bool a)) ≡ a
boolean_back (pos n) r =
    let high = r.1 in
    let own = bits_only ty.Bool (pos n) n (omega (arith, ints))
    (Same-refl (2 ^ width ty.Bool) (pos n)) in
    ap (λ k. wrapped ty.Bool (pos k)) (sym own) ∙ wrapped_of_range ty.Bool (pos n) r
boolean_back (negsuc n) r = let low = r.0 in absurd (omega (arith, ints))

-- the bits of a number of the range give it back
pub bits_back : (t : IntType) (a : ℤ) → IsInRange t a → wrapped t (pos (bits_of t a)) ≡ a
bits_back t a r = ⊎_elim boolean (λ h. wrapped_bits t h a ∙ wrapped_of_range t a r) (is_boolean t)
  where
    boolean : t ≡ ty.Bool → wrapped t (pos (bits_of t a)) ≡ a
    boolean e =
        subst (λ s. wrapped s (pos (bits_of s a)) ≡ a) (sym e)
        (boolean_back a (subst (λ s. IsInRange s a) e r))

-- Bool reads every number but 0 as 1, and the bits of 2 are 0
pub boolean_bits : wrapped ty.Bool (pos (bits_of ty.Bool (pos 2))) ≢ wrapped ty.Bool (pos 2)
unfolding wrapped
boolean_bits e = cc

pub bits_boolean : bits_of ty.Bool (wrapped ty.Bool (pos 2)) ≢ bits_of ty.Bool (pos 2)
unfolding wrapped
bits_boolean e = cc

pub boolean_congruent : IsCongruent (width ty.Bool) (pos 2) (pos 0)
boolean_congruent = (pos 1, refl)

pub boolean_apart : wrapped ty.Bool (pos 2) ≢ wrapped ty.Bool (pos 0)
unfolding wrapped
boolean_apart e = cc

pub boolean_together : wrapped ty.Bool (pos 2) ≡ wrapped ty.Bool (pos 1)
unfolding wrapped
boolean_together = refl

pub boolean_incongruent : ¬ IsCongruent (width ty.Bool) (pos 2) (pos 1)
boolean_incongruent c = let two = c.1 in absurd (omega (arith, ints, two))
