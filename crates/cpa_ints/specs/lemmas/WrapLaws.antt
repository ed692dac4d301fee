-- What holds of `wrapped`: it is the congruent number of the range, and the laws that follow.
use Rattle.std.proofs.Common.{◌≡◌, ◌≢◌, ◌⊎◌, inl, inr, zero, suc, ◌^◌, refl, sym, subst, ◌∙◌, arith}
use Rattle.std.proofs.Common.{ℤ, pos, negsuc, ◌+ℤ◌, ◌-ℤ◌, ◌≤ℤ◌, ◌<ℤ◌, int_lt, Bool, true, false}
use Rattle.std.specs.Prelude.{if◌then◌else◌}
use Rattle.std.proofs.lemmas.Int.{ints}
use Rattle.std.specs.Int.{int_rem_euclid}
use Rattle.cpa_ints.specs.declared.integers.IntType.{IntType}
use Rattle.cpa_ints.specs.declared.integers.IntType.TheVariants as ty
use Rattle.cpa_ints.specs.Integers.{width, least, greatest, IsInRange}
use Rattle.cpa_ints.specs.Wrapping.{IsCongruent, IsTruth, IsWrapOf, wrapped}
use Rattle.cpa_ints.specs.lemmas.Congruence.{Same, Same-refl, Same-sym, Same-trans, Same-add}
use Rattle.cpa_ints.specs.lemmas.Congruence.{Same-rem, Same-unique, Same-from, Same-to}
use Rattle.cpa_ints.specs.lemmas.Masks.{rem_range}
use mathlib.Core.Logic.{⊎_elim}
use lib.Pow.{pow_pos}

-- a range has as many numbers as there are patterns of its bits
span : (t : IntType) → greatest t +ℤ pos 1 ≡ least t +ℤ pos (2 ^ width t)
span ty.Bool = refl
span ty.I8 = refl
span ty.U8 = refl
span ty.I16 = refl
span ty.U16 = refl
span ty.I32 = refl
span ty.U32 = refl
span ty.I64 = refl
span ty.U64 = refl

modular : (t : IntType) → t ≢ ty.Bool → (n : ℤ) →
    wrapped t n ≡ least t +ℤ int_rem_euclid (n -ℤ least t) (pos (2 ^ width t))
unfolding wrapped
modular ty.Bool h n = absurd (h refl)
modular ty.I8 h n = refl
modular ty.U8 h n = refl
modular ty.I16 h n = refl
modular ty.U16 h n = refl
modular ty.I32 h n = refl
modular ty.U32 h n = refl
modular ty.I64 h n = refl
modular ty.U64 h n = refl

pub zero_or : (n : ℤ) → (n ≡ pos 0) ⊎ (n ≢ pos 0)
zero_or (pos zero) = inl refl
zero_or (pos (suc n)) = inr (λ e. cc)
zero_or (negsuc n) = inr (λ e. cc)

pub truth : (n : ℤ) → IsTruth n (wrapped ty.Bool n)
unfolding wrapped
truth n = (λ e. grind (arith, ints), λ e. grind (arith, ints))

-- `wrapped` gives a wrap
module _ (t : IntType) where
  modular_is_wrap : t ≢ ty.Bool → (n : ℤ) → IsWrapOf t n (wrapped t n)
  modular_is_wrap h n =
      let m = 2 ^ width t in
      let r = int_rem_euclid (n -ℤ least t) (pos m) in
      let e = modular t h n in
      let range = rem_range (n -ℤ least t) m (pow_pos (width t)) in
      let s = span t in
      let back : least t +ℤ (n -ℤ least t) ≡ n = omega (arith, ints) in
      let near = Same-add m (least t) (least t) (n -ℤ least t) r (Same-refl m (least t))
      (Same-rem m (pow_pos (width t)) (n -ℤ least t)) in
      record {
        in_range = subst (IsInRange t) (sym e) (omega (arith, ints), omega (arith, ints));
        truth = λ b. absurd (h b);
        congruent =
            λ _. subst (IsCongruent (width t) n) (sym e)
            (Same-to (width t) n (least t +ℤ r) (subst (λ z. Same m z (least t +ℤ r)) back near));
      }

-- of the numbers of the range, one at most is congruent to another
pub congruent_equal : (t : IntType) (a b : ℤ) → IsInRange t a → IsInRange t b →
    IsCongruent (width t) a b → a ≡ b
congruent_equal t a b ra rb c =
    let s = span t in
    Same-unique (2 ^ width t) (least t) a b ra.0 (omega (arith, ints)) rb.0 (omega (arith, ints))
    (Same-from (width t) a b c)

pub is_boolean : (t : IntType) → (t ≡ ty.Bool) ⊎ (t ≢ ty.Bool)
is_boolean ty.Bool = inl refl
is_boolean ty.I8 = inr (λ e. cc)
is_boolean ty.U8 = inr (λ e. cc)
is_boolean ty.I16 = inr (λ e. cc)
is_boolean ty.U16 = inr (λ e. cc)
is_boolean ty.I32 = inr (λ e. cc)
is_boolean ty.U32 = inr (λ e. cc)
is_boolean ty.I64 = inr (λ e. cc)
is_boolean ty.U64 = inr (λ e. cc)

boolean_is_wrap : (n : ℤ) → IsWrapOf ty.Bool n (wrapped ty.Bool n)
boolean_is_wrap n =
    let t = truth n in
    record {
      in_range = ⊎_elim (λ z. let e = t.0 z in
          (omega (arith, ints), omega (arith, ints))) (λ z. let e = t.1 z in
          (omega (arith, ints), omega (arith, ints))) (zero_or n);
      truth = λ _. t;
      congruent = λ h. absurd (h refl);
    }

-- `wrapped` names a number to which n wraps
pub wrapped_is_wrap : (t : IntType) (n : ℤ) → IsWrapOf t n (wrapped t n)
wrapped_is_wrap t n =
    ⊎_elim (λ e. subst (λ s. IsWrapOf s n (wrapped s n)) (sym e) (boolean_is_wrap n)) (λ h.
    modular_is_wrap t h n) (is_boolean t)

-- and the only one
pub wrap_unique : (t : IntType) (n m : ℤ) → IsWrapOf t n m → m ≡ wrapped t n
wrap_unique t n m w = ⊎_elim boolean modular (is_boolean t)
  where
    boolean : t ≡ ty.Bool → m ≡ wrapped t n
    boolean e =
        let v = w.truth e in
        let u = (wrapped_is_wrap t n).truth e in
        ⊎_elim (λ z. v.0 z ∙ sym (u.0 z)) (λ z. v.1 z ∙ sym (u.1 z)) (zero_or n)

    modular : t ≢ ty.Bool → m ≡ wrapped t n
    modular h =
        let u = wrapped_is_wrap t n in
        let p = 2 ^ width t in
        let a = Same-from (width t) n m (w.congruent h) in
        let b = Same-from (width t) n (wrapped t n) (u.congruent h) in
        congruent_equal t m (wrapped t n) w.in_range u.in_range
        (Same-to (width t) m (wrapped t n) (Same-trans p m n (wrapped t n) (Same-sym p n m a)
        b))

pub zero_within : (t : IntType) → (least t ≤ℤ pos 0) × (pos 0 ≤ℤ greatest t)
zero_within ty.Bool = (omega (arith, ints), omega (arith, ints))
zero_within ty.I8 = (omega (arith, ints), omega (arith, ints))
zero_within ty.U8 = (omega (arith, ints), omega (arith, ints))
zero_within ty.I16 = (omega (arith, ints), omega (arith, ints))
zero_within ty.U16 = (omega (arith, ints), omega (arith, ints))
zero_within ty.I32 = (omega (arith, ints), omega (arith, ints))
zero_within ty.U32 = (omega (arith, ints), omega (arith, ints))
zero_within ty.I64 = (omega (arith, ints), omega (arith, ints))
zero_within ty.U64 = (omega (arith, ints), omega (arith, ints))

-- the remainder, moved down where it lies above the range, is a wrap
pub lowered_is_wrap : (t : IntType) → t ≢ ty.Bool → (n low : ℤ) →
    low ≡ int_rem_euclid n (pos (2 ^ width t)) →
    IsWrapOf t n (if int_lt (greatest t) low then low -ℤ pos (2 ^ width t) else low)
lowered_is_wrap t h n low e = by (int_lt (greatest t) low) refl
  where
    near : Same (2 ^ width t) n low
    near = subst (Same (2 ^ width t) n) (sym e) (Same-rem (2 ^ width t) (pow_pos (width t)) n)

    range : (pos 0 ≤ℤ low) × (low <ℤ pos (2 ^ width t))
    range =
        subst (λ z. (pos 0 ≤ℤ z) × (z <ℤ pos (2 ^ width t))) (sym e)
        (rem_range n (2 ^ width t) (pow_pos (width t)))

    by : (b : Bool) → int_lt (greatest t) low ≡ b →
        IsWrapOf t n (if b then low -ℤ pos (2 ^ width t) else low)
    by true above =
        let s = span t in
        let r = range in
        let z = zero_within t in
        let down : Same (2 ^ width t) low (low -ℤ pos (2 ^ width t)) = record {
          j = 0;
          k = 1;
          same = omega (arith, ints);
        } in
        record {
          in_range = (omega (arith, ints), omega (arith, ints));
          truth = λ b. absurd (h b);
          congruent =
              λ _. Same-to (width t) n (low -ℤ pos (2 ^ width t))
              (Same-trans (2 ^ width t) n low (low -ℤ pos (2 ^ width t)) near down);
        }
    by false within =
        let r = range in
        let z = zero_within t in
        record {
          in_range = (omega (arith, ints), omega (arith, ints));
          truth = λ b. absurd (h b);
          congruent = λ _. Same-to (width t) n low near;
        }
