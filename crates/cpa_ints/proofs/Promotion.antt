-- `promoted` and `wider` do what the standard says.
use Rattle.std.proofs.Common.{◌≡◌, ℕ, ◌-◌, ◌^◌, ◌<◌, ◌≤◌, refl, sym, ap, ◌∙◌, arith, pos, neg_ℤ}
use Rattle.std.proofs.Common.{nat_lt, Bool, true, false}
use Rattle.std.specs.Prelude.{if◌then◌else◌}
use Rattle.std.proofs.lemmas.Int.{ints}
use Rattle.std.proofs.Math.Pow.{pow_mono}
use Rattle.cpa_ints.specs.declared.integers.IntType.{IntType}
use Rattle.cpa_ints.specs.declared.integers.IntType.TheVariants as ty
use Rattle.cpa_ints.specs.Integers.{width, is_signed, least, greatest}
use Rattle.cpa_ints.specs.Conversions.{Represents, IsPromotionOf, IsCommonOf, IsUsualConversionOf}
use Rattle.cpa_ints.specs.Conversions.{promoted, wider, common_type}

-- width and sign tell the type
type_of : ℕ → Bool → IntType
type_of n s =
    if nat_lt n 8 then ty.Bool else if nat_lt n 16 then (if s then ty.I8 else ty.U8)
    else if nat_lt n 32 then (if s then ty.I16 else ty.U16) else if nat_lt n 64
    then (if s then ty.I32 else ty.U32) else (if s then ty.I64 else ty.U64)

type_is : (t : IntType) → type_of (width t) (is_signed t) ≡ t
unfolding type_of
type_is ty.Bool = refl
type_is ty.I8 = refl
type_is ty.U8 = refl
type_is ty.I16 = refl
type_is ty.U16 = refl
type_is ty.I32 = refl
type_is ty.U32 = refl
type_is ty.I64 = refl
type_is ty.U64 = refl

pub same_type : (p q : IntType) → width p ≡ width q → is_signed p ≡ is_signed q → p ≡ q
same_type p q w s =
    sym (type_is p) ∙ ap (λ n. type_of n (is_signed p)) w ∙ ap (type_of (width q)) s ∙ type_is q

-- a wider signed type has all values of an unsigned one
pub wider_represents : (u s : IntType) → is_signed u ≡ false → is_signed s ≡ true →
    width u < width s → Represents s u
wider_represents u s eu es h n range =
    let power : 2 ^ width u ≤ 2 ^ (width s - 1) = pow_mono (omega arith) in
    let low : least u ≡ pos 0 = ap (λ b. if b then neg_ℤ (pos (2 ^ (width u - 1))) else pos 0) eu in
    let high : greatest u ≡ pos (2 ^ width u - 1) = ap (λ b. if b then pos (2 ^ (width u - 1) - 1)
    else pos (2 ^ width u - 1)) eu in
    let below : least s ≡ neg_ℤ (pos (2 ^ (width s - 1))) = ap (λ b. if b
    then neg_ℤ (pos (2 ^ (width s - 1))) else pos 0) es in
    let above : greatest s ≡ pos (2 ^ (width s - 1) - 1) = ap (λ b. if b
    then pos (2 ^ (width s - 1) - 1) else pos (2 ^ width s - 1)) es in
    let l = range.0 in
    let g = range.1 in
    (omega (arith, ints), omega (arith, ints))

narrow : (t : IntType) → width t < 32 → Represents ty.I32 t
narrow ty.Bool h n r = (omega (arith, ints, r.0), omega (arith, ints, r.1))
narrow ty.I8 h n r = (omega (arith, ints, r.0), omega (arith, ints, r.1))
narrow ty.U8 h n r = (omega (arith, ints, r.0), omega (arith, ints, r.1))
narrow ty.I16 h n r = (omega (arith, ints, r.0), omega (arith, ints, r.1))
narrow ty.U16 h n r = (omega (arith, ints, r.0), omega (arith, ints, r.1))
narrow ty.I32 h n r = absurd (omega arith)
narrow ty.U32 h n r = absurd (omega arith)
narrow ty.I64 h n r = absurd (omega arith)
narrow ty.U64 h n r = absurd (omega arith)

pub promoted_standard : (t : IntType) → IsPromotionOf t (promoted t)
promoted_standard t = by (nat_lt (width t) 32) refl
  where
    by : (b : Bool) → nat_lt (width t) 32 ≡ b → IsPromotionOf t (if b then ty.I32 else t)
    by true e = record {
      to_int = λ h r. refl;
      to_unsigned_int = λ h r. absurd (r (narrow t h));
      unchanged = λ h. absurd (grind arith);
    }
    by false e = record {
      to_int = λ h r. absurd (grind arith);
      to_unsigned_int = λ h r. absurd (grind arith);
      unchanged = λ h. refl;
    }

module _ (p q : IntType) where
  first_wider : width q < width p → IsCommonOf p q p
  first_wider h = record {
    of_one_sign = λ s. (λ _. refl, λ l. absurd (omega arith));
    left_unsigned =
        λ e f. record {
          to_unsigned = λ _. refl;
          to_signed = λ l _. absurd (omega arith);
          to_corresponding = λ l _. absurd (omega arith);
        };
    right_unsigned =
        λ e f. record {
          to_unsigned = λ l. absurd (omega arith);
          to_signed = λ _ _. refl;
          to_corresponding = λ l r. absurd (r (wider_represents q p f e l));
        };
  }

  second_wider : width p < width q → IsCommonOf p q q
  second_wider h = record {
    of_one_sign = λ s. (λ l. absurd (omega arith), λ _. refl);
    left_unsigned =
        λ e f. record {
          to_unsigned = λ l. absurd (omega arith);
          to_signed = λ _ _. refl;
          to_corresponding = λ l r. absurd (r (wider_represents p q e f l));
        };
    right_unsigned =
        λ e f. record {
          to_unsigned = λ _. refl;
          to_signed = λ l _. absurd (omega arith);
          to_corresponding = λ l _. absurd (omega arith);
        };
  }

  second_unsigned : width p ≡ width q → is_signed p ≡ true → IsCommonOf p q q
  second_unsigned h e = record {
    of_one_sign = λ s. (λ _. sym (same_type p q h s), λ _. refl);
    left_unsigned = λ f g. absurd (cc);
    right_unsigned =
        λ f g. record {
          to_unsigned = λ _. refl;
          to_signed = λ l _. absurd (omega arith);
          to_corresponding = λ l _. absurd (omega arith);
        };
  }

  first_unsigned : width p ≡ width q → is_signed p ≡ false → IsCommonOf p q p
  first_unsigned h e = record {
    of_one_sign = λ s. (λ _. refl, λ _. same_type p q h s);
    left_unsigned =
        λ f g. record {
          to_unsigned = λ _. refl;
          to_signed = λ l _. absurd (omega arith);
          to_corresponding = λ l _. absurd (omega arith);
        };
    right_unsigned = λ f g. absurd (cc);
  }

  pub wider_standard : IsCommonOf p q (wider p q)
  wider_standard =
      by (nat_lt (width q) (width p)) (nat_lt (width p) (width q)) (is_signed p) refl refl refl
    where
      by : (a b c : Bool) → nat_lt (width q) (width p) ≡ a → nat_lt (width p) (width q) ≡ b →
          is_signed p ≡ c → IsCommonOf p q (if a then p else if b then q else if c then q else p)
      by true b c e f g = first_wider (grind arith)
      by false true c e f g = second_wider (grind arith)
      by false false true e f g = second_unsigned (grind arith) g
      by false false false e f g = first_unsigned (grind arith) g

pub common_standard : (a b : IntType) → IsUsualConversionOf a b (common_type a b)
common_standard a b = record {
  left = promoted a;
  right = promoted b;
  left_promoted = promoted_standard a;
  right_promoted = promoted_standard b;
  common = wider_standard (promoted a) (promoted b);
}
