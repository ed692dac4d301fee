-- A word of one type at the width of another: the low bits are congruent, and more bits of the
-- sign leave the number as it is.
use Rattle.std.proofs.Common.{◌≡◌, ◌≢◌, ℕ, suc, ◌+◌, ◌-◌, ◌*◌, ◌^◌, ◌<◌, ◌≤◌, Bool, true}
use Rattle.std.proofs.Common.{false, not, List, [], ◌∷◌, ◌++◌, length, take, replicate, refl, sym}
use Rattle.std.proofs.Common.{ap}
use Rattle.std.proofs.Common.{subst, ◌∙◌, arith, ℤ, pos, ◌+ℤ◌, inl, inr}
use Rattle.std.specs.Prelude.{◌==◌, nat_le, slice_index_or, if◌then◌else◌}
use Rattle.std.specs.Ordering.{int_eq}
use Rattle.std.proofs.lemmas.Bool.Decides.{Decides-int_eq}
use Rattle.cpa_ints.specs.lemmas.WrapLaws.{zero_within}
use Rattle.std.proofs.Math.Nat.{mul_assoc, mul-suc, mod-eq_of_lt}
use Rattle.std.proofs.lemmas.Nat.{pow-add, pow_pos}
use Rattle.std.proofs.lemmas.Int.{ints}
use Rattle.std.proofs.lemmas.Bool.{cond_both, leb-true, leb-false, cases_eq, eq-eqb, ne_eqb}
use Rattle.std.proofs.lemmas.List.{length-take-le, length-append, length-replicate}
use Rattle.cpa_ints.specs.declared.integers.IntType.{IntType}
use Rattle.cpa_ints.specs.declared.integers.IntType.TheVariants.{Bool as Boolean}
use Rattle.cpa_ints.specs.declared.integers.IntType.TheVariants as ty
use Rattle.cpa_ints.specs.Integers.{width, is_signed, IsInRange}
use Rattle.cpa_ints.specs.Wrapping.{wrapped}
use Rattle.cpa_ints.specs.Bits.{bits_of}
use Rattle.cpa_ints.specs.lemmas.Congruence.{Same, Same-refl}
use Rattle.cpa_ints.specs.lemmas.Bits.{bits_back}
use Rattle.cpa_blast_words.specs.Truths.{bit, number, resized_bits}
use Rattle.cpa_blast_words.specs.Types.{StandsFor, WordsCast, filling_bit}
use Rattle.cpa_blast_words.specs.lemmas.Numbers.{low_number, number_append, falses_number}
use Rattle.cpa_blast_words.specs.lemmas.Numbers.{trues_number}
use Rattle.cpa_blast_words.specs.lemmas.AtTypes.{near, stand, stand_exact}
use Rattle.cpa_blast_words.specs.lemmas.Orders.{has_top, width_positive, halves, own, moved}

-- numbers that are the same modulo a multiple of m are so modulo m
Same-part : (m q p : ℕ) (a b : ℤ) → p ≡ q * m → Same p a b → Same m a b
Same-part m q p a b e s =
    let times = λ (j : ℕ). mul_assoc j q m ∙ ap (λ z. j * z) (sym e) in
    record {
      j = s.j * q;
      k = s.k * q;
      same = ap (λ z. a +ℤ pos z) (times s.j) ∙ s.same ∙ sym (ap (λ z. b +ℤ pos z) (times s.k));
    }

power_split : (n m : ℕ) → m ≤ n → 2 ^ n ≡ 2 ^ (n - m) * 2 ^ m
power_split n m h = ap (λ k. 2 ^ k) (back n m h) ∙ pow-add 2 (n - m) m
  where
    back : (n m : ℕ) → m ≤ n → n ≡ n - m + m
    back n m h = omega arith

-- a number with the bits of the sign in front of it
sign_same : (a : ℤ) (n p k r q : ℕ) → (a +ℤ pos p) ≡ pos n → r + 1 ≡ k → q ≡ p * k
    → Same q a (pos (n + p * r))
sign_same a n p k r q e f g =
    let whole : q ≡ p * r + p = g ∙ ap (λ z. p * z) (sym f ∙ next r) ∙ mul-suc p r in
    same a n p (p * r) q e whole
  where
    next : (r : ℕ) → r + 1 ≡ suc r
    next r = omega arith

    same : (a : ℤ) (n p z q : ℕ) → (a +ℤ pos p) ≡ pos n → q ≡ z + p → Same q a (pos (n + z))
    same a n p z q e f = record { j = 1; k = 0; same = omega (arith, ints) }

-- what the top bit says of a number
not_negative : (a : ℤ) (n low h f : ℕ) → n ≡ low + h * bit false → f ≡ low + h * bit (not false)
    → pos f ≡ a +ℤ pos h → pos n ≡ a
not_negative a n low h f whole flipped e = omega (arith, ints)

negative : (a : ℤ) (n low h p f : ℕ) → n ≡ low + h * bit true → f ≡ low + h * bit (not true)
    → p ≡ 2 * h → pos f ≡ a +ℤ pos h → (a +ℤ pos p) ≡ pos n
negative a n low h p f whole flipped twice e = omega (arith, ints)

-- a number is that of its bits, less 2 to the power of the width where it is negative
pub by_sign : (t : IntType) (bs : List Bool) (a : ℤ) → IsInRange t a
    → StandsFor t bs a → (a +ℤ pos (2 ^ width t * bit (filling_bit t bs))) ≡ pos (number bs)
by_sign t bs a range stands = by (is_signed t) refl
  where
    none : (p n : ℕ) (a : ℤ) → pos n ≡ a → (a +ℤ pos (p * bit false)) ≡ pos n
    none p n a e = omega (arith, ints)

    some : (p n : ℕ) (a : ℤ) → (a +ℤ pos p) ≡ pos n → (a +ℤ pos (p * bit true)) ≡ pos n
    some p n a e = omega (arith, ints)

    zero_more : (a : ℤ) → (a +ℤ pos 0) ≡ a
    zero_more a = omega (arith, ints)

    by_top_bit : (b : Bool) → is_signed t ≡ true → slice_index_or bs (length bs - 1) false ≡ b
        → (a +ℤ pos (2 ^ width t * bit b)) ≡ pos (number bs)
    by_top_bit false e is =
        let top = has_top (width t - 1) bs (stands.long ∙ width_positive t) in
        let no : top.top ≡ false = sym top.at ∙ is in
        let h = 2 ^ (width t - 1) in
        none (2 ^ width t) (number bs) a (not_negative a (number bs) top.low h _
        (top.whole ∙ ap (λ b. top.low + h * bit b) no)
        (top.flipped ∙ ap (λ b. top.low + h * bit (not b)) no)
        (moved t bs a e range stands))
    by_top_bit true e is =
        let top = has_top (width t - 1) bs (stands.long ∙ width_positive t) in
        let yes_top : top.top ≡ true = sym top.at ∙ is in
        let h = 2 ^ (width t - 1) in
        some (2 ^ width t) (number bs) a (negative a (number bs) top.low h (2 ^ width t) _
        (top.whole ∙ ap (λ b. top.low + h * bit b) yes_top)
        (top.flipped ∙ ap (λ b. top.low + h * bit (not b)) yes_top)
        (halves t) (moved t bs a e range stands))

    by : (x : Bool) → is_signed t ≡ x
        → (a +ℤ pos (2 ^ width t
        * bit (if x then slice_index_or bs (length bs - 1) false else false))) ≡ pos (number bs)
    by true e = by_top_bit (slice_index_or bs (length bs - 1) false) e refl
    by false e =
        none (2 ^ width t) (number bs) a (own t bs a e range stands ∙ zero_more a)

-- a sign stands only in front of a type with negative values
pub signed_where : (t : IntType) (bs : List Bool) → filling_bit t bs ≡ true → is_signed t ≡ true
signed_where t bs e = by (is_signed t) e
  where
    by : (b : Bool) → (if b then slice_index_or bs (length bs - 1) false else false) ≡ true
        → b ≡ true
    by true e = refl
    by false e = e

module _ (s t : IntType) (bs : List Bool) (a : ℤ) (other : t ≢ Boolean)
    (range : IsInRange s a) (stands : StandsFor s bs a) where
  narrow : width t ≤ length bs → StandsFor t (take (width t) bs) (wrapped t a)
  narrow le =
      stand t a (take (width t) bs) (number bs) other (length-take-le (width t) bs le)
      (low_number (width t) bs)
      (Same-part (2 ^ width t) (2 ^ (width s - width t)) (2 ^ width s) a (pos (number bs))
      (power_split (width s) (width t) (subst (λ n. width t ≤ n) stands.long le))
      (near s bs a stands))

  by_sign_at : (b : Bool) → filling_bit s bs ≡ b
      → (a +ℤ pos (2 ^ width s * bit b)) ≡ pos (number bs)
  by_sign_at b e =
      ap (λ f. a +ℤ pos (2 ^ width s * bit f)) (sym e) ∙ by_sign s bs a range stands

  long : (b : Bool) → length bs < width t
      → length (bs ++ replicate (width t - length bs) b) ≡ width t
  long b lt =
      omega (
        arith,
        length-append bs (replicate (width t - length bs) b),
        length-replicate (width t - length bs) b,
      )

  -- zeros in front
  zeros : length bs < width t → pos (number bs) ≡ a
      → StandsFor t (bs ++ replicate (width t - length bs) false) (wrapped t a)
  zeros lt is =
      let k = width t - length bs in
      stand_exact t a (bs ++ replicate k false) (number bs) other (long false lt)
      (number_append bs (replicate k false)
      ∙ ap (λ n. number bs + 2 ^ length bs * n) (falses_number k)
      ∙ nothing (number bs) (2 ^ length bs))
      (subst (λ z. Same (2 ^ width t) z (pos (number bs))) is
      (Same-refl (2 ^ width t) (pos (number bs))))
    where
      nothing : (n p : ℕ) → n + p * 0 ≡ n
      nothing n p = omega arith

  -- ones in front
  ones : length bs < width t → (a +ℤ pos (2 ^ length bs)) ≡ pos (number bs)
      → StandsFor t (bs ++ replicate (width t - length bs) true) (wrapped t a)
  ones lt is =
      let k = width t - length bs in
      let r = number (replicate k true) in
      stand_exact t a (bs ++ replicate k true) (number bs + 2 ^ length bs * r) other
      (long true lt) (number_append bs (replicate k true))
      (sign_same a (number bs) (2 ^ length bs) (2 ^ k) r (2 ^ width t) is (trues_number k)
      (whole (width t) (length bs) lt))
    where
      back : (w n : ℕ) → n < w → w ≡ n + (w - n)
      back w n h = omega arith

      whole : (w n : ℕ) → n < w → 2 ^ w ≡ 2 ^ n * 2 ^ (w - n)
      whole w n h = ap (λ k. 2 ^ k) (back w n h) ∙ pow-add 2 n (w - n)

  wide : length bs < width t → (b : Bool) → filling_bit s bs ≡ b
      → StandsFor t (bs ++ replicate (width t - length bs) b) (wrapped t a)
  wide lt false e =
      zeros lt (less_none (2 ^ width s) (number bs) a (by_sign_at false e))
    where
      less_none : (p n : ℕ) (a : ℤ) → (a +ℤ pos (p * bit false)) ≡ pos n → pos n ≡ a
      less_none p n a h = omega (arith, ints)
  wide lt true e =
      ones lt (ap (λ n. a +ℤ pos (2 ^ n)) stands.long
      ∙ once (2 ^ width s) (number bs) a (by_sign_at true e))
    where
      once : (p n : ℕ) (a : ℤ) → (a +ℤ pos (p * bit true)) ≡ pos n → (a +ℤ pos p) ≡ pos n
      once p n a h = omega (arith, ints)

  resized : StandsFor t (resized_bits (width t) (filling_bit s bs) bs) (wrapped t a)
  resized =
      cond_both (nat_le (width t) (length bs)) (take (width t) bs)
      (bs ++ replicate (width t - length bs) (filling_bit s bs))
      (λ cs. StandsFor t cs (wrapped t a))
      (λ e. narrow (leb-true (width t) (length bs) e))
      (λ e. wide (leb-false (width t) (length bs) e) (filling_bit s bs) refl)

-- to Bool: 0 where the number is 0, else 1
zero_bits : bits_of Boolean (wrapped Boolean (pos 0)) ≡ 0
unfolding wrapped
zero_bits = refl

one_bits : (a : ℤ) → (a ≡ pos 0 → ⊥) → bits_of Boolean (wrapped Boolean a) ≡ 1
unfolding wrapped
one_bits a ne =
    ap (bits_of Boolean) (ap (λ b. if b then pos 0 else pos 1) (unequal (int_eq a (pos 0))
    (λ h. ne ((Decides-int_eq a (pos 0)).0 h))))
  where
    unequal : (r : Bool) → (r ≡ true → ⊥) → r ≡ false
    unequal true h = absurd (h refl)
    unequal false h = refl

truth_is : (s : IntType) (bs : List Bool) (a : ℤ) → IsInRange s a
    → StandsFor s bs a → StandsFor Boolean (not (number bs == 0) ∷ []) (wrapped Boolean a)
truth_is s bs a range stands =
    elim (cases_eq (number bs) 0) [
      | inl e ↦ record {
        long = refl;
        is = ap (λ b. bit (not b) + 2 * 0) (eq-eqb (number bs) 0 e)
            ∙ sym (ap (λ z. bits_of Boolean (wrapped Boolean z)) (back e) ∙ zero_bits);
      }
      | inr ne ↦ record {
        long = refl;
        is = ap (λ b. bit (not b) + 2 * 0) (ne_eqb (number bs) 0 ne)
            ∙ sym (one_bits a (λ z. ne (stands.is ∙ ap (bits_of s) z ∙ no_bits s)));
      }
    ]
  where
    no_bits : (t : IntType) → bits_of t (pos 0) ≡ 0
    no_bits t = mod-eq_of_lt (pow_pos (width t))

    back : number bs ≡ 0 → a ≡ pos 0
    back e =
        sym (bits_back s a range) ∙ ap
        (λ n. wrapped s (pos n)) (sym stands.is ∙ e ∙ sym (no_bits s))
        ∙ bits_back s (pos 0) (zero_within s)

other_type : (t : IntType) → (width t == 1) ≡ false → t ≢ Boolean
other_type t e is = let one = ap (λ u. width u == 1) is in absurd (cc)

bool_type : (t : IntType) → (width t == 1) ≡ true → t ≡ Boolean
bool_type ty.Bool e = refl
bool_type ty.I8 e = absurd (cc)
bool_type ty.U8 e = absurd (cc)
bool_type ty.I16 e = absurd (cc)
bool_type ty.U16 e = absurd (cc)
bool_type ty.I32 e = absurd (cc)
bool_type ty.U32 e = absurd (cc)
bool_type ty.I64 e = absurd (cc)
bool_type ty.U64 e = absurd (cc)

pub cast_at_types : WordsCast
cast_at_types s t bs a range stands =
    cond_both (width t == 1) (not (number bs == 0) ∷ [])
    (resized_bits (width t) (filling_bit s bs) bs) (λ cs. StandsFor t cs (wrapped t a))
    (λ e. subst (λ u. StandsFor u (not (number bs == 0) ∷ []) (wrapped u a)) (sym (bool_type t e))
    (truth_is s bs a range stands))
    (λ e. resized s t bs a (other_type t e) range stands)
