-- At each type the shifted word stands for the value of the shift, where the amount lies below the
-- width, and the amount's other bits tell where it does.
use Rattle.std.proofs.Common.{◌≡◌, ◌≢◌, ℕ, zero, suc, ◌+◌, ◌-◌, ◌*◌, ◌/◌, ◌%◌, ◌^◌, ◌<◌, ◌≤◌, Bool}
use Rattle.std.proofs.Common.{true, false, not, List, length, map, take, drop, inl, inr, ◌⊎◌}
use Rattle.std.proofs.Common.{refl, sym, ap, subst, ◌∙◌, arith, ℤ, pos, negsuc, neg_ℤ, ◌+ℤ◌, ◌*ℤ◌}
use Rattle.std.proofs.Common.{◌≤ℤ◌}
use Rattle.std.proofs.Common.{Some, None, option_map}
use Rattle.std.specs.Prelude.{◌==◌, if◌then◌else◌}
use Rattle.std.specs.Option.{is_some}
use Rattle.std.specs.Int.{int_div_euclid}
use Rattle.std.proofs.Math.Nat.{mod-eq_of_lt, div-eq_of_lt, lt-div-mul-add, mul_comm}
use Rattle.std.proofs.lemmas.Nat.{pow_pos}
use Rattle.std.proofs.lemmas.Int.{ints}
use Rattle.std.proofs.lemmas.Bool.{lt-ltb, le-ltb, eq-eqb, ne_eqb, cases_lt}
use Rattle.cpa_ints.specs.declared.integers.IntType.{IntType}
use Rattle.cpa_ints.specs.declared.integers.IntType.TheVariants as ty
use Rattle.cpa_ints.specs.Integers.{width, is_signed, IsInRange}
use Rattle.cpa_ints.specs.Wrapping.{wrapped}
use Rattle.cpa_ints.specs.lemmas.Arithmetic.{wrapped_of_range}
use Rattle.cpa_ints.specs.lemmas.Congruence.{Same, Same-refl, Same-mul}
use Rattle.cpa_expr.specs.Values.{amount_of}
use Rattle.cpa_blast_words.specs.Truths.{bit, number}
use Rattle.cpa_blast_words.specs.Types.{StandsFor, filling_bit}
use Rattle.cpa_blast_words.specs.Laws.{words_are_numbers}
use Rattle.cpa_blast_words.specs.lemmas.AtTypes.{near, stand, stand_for}
use Rattle.cpa_blast_words.specs.lemmas.Orders.{halves, signed_range}
use Rattle.cpa_blast_words.specs.lemmas.Casts.{by_sign, signed_where}
use Rattle.cpa_blast_arithmetic.specs.declared.moves.Direction.TheVariants as toward
use Rattle.cpa_blast_arithmetic.specs.Moves.{moved}
use Rattle.cpa_blast_arithmetic.specs.Shifts.{amount_bits}
use Rattle.cpa_blast_arithmetic.specs.lemmas.MoveLaws.{moved_length, moved_nothing, left_number}
use Rattle.cpa_blast_arithmetic.specs.lemmas.MoveLaws.{right_number}
use Rattle.cpa_blast_arithmetic.specs.lemmas.MoveLaws.{high_number, opposites_moved}

-- ---- amounts

amount_width : (t : IntType) → 2 ^ amount_bits t ≡ width t
amount_width ty.Bool = refl
amount_width ty.I8 = refl
amount_width ty.U8 = refl
amount_width ty.I16 = refl
amount_width ty.U16 = refl
amount_width ty.I32 = refl
amount_width ty.U32 = refl
amount_width ty.I64 = refl
amount_width ty.U64 = refl

narrow : (t : IntType) → width t ≤ 64
narrow ty.Bool = omega arith
narrow ty.I8 = omega arith
narrow ty.U8 = omega arith
narrow ty.I16 = omega arith
narrow ty.U16 = omega arith
narrow ty.I32 = omega arith
narrow ty.U32 = omega arith
narrow ty.I64 = omega arith
narrow ty.U64 = omega arith

wide : (t : IntType) → is_signed t ≡ true → 64 ≤ 2 ^ (width t - 1)
wide ty.Bool e = absurd (cc)
wide ty.I8 e = omega arith
wide ty.U8 e = absurd (cc)
wide ty.I16 e = omega arith
wide ty.U16 e = absurd (cc)
wide ty.I32 e = omega arith
wide ty.U32 e = absurd (cc)
wide ty.I64 e = omega arith
wide ty.U64 e = absurd (cc)

-- an amount is the number of its word and lies below the width, or it is none
abbrev pub AmountCase : IntType → ℤ → ℕ → Type 0
AmountCase t b n =
    ((b ≡ pos n) × (amount_of t b ≡ Some n) × (n < width t))
    ⊎ ((amount_of t b ≡ None) × (width t ≤ n))

amount_case : (t u : IntType) (ys : List Bool) (b : ℤ) → IsInRange u b
    → StandsFor u ys b → AmountCase t b (number ys)
amount_case t u ys b range stands = by (filling_bit u ys) refl
  where
    n : ℕ
    n = number ys

    signs : (f : Bool) → filling_bit u ys ≡ f → (b +ℤ pos (2 ^ width u * bit f)) ≡ pos n
    signs f e =
        ap (λ x. b +ℤ pos (2 ^ width u * bit x)) (sym e) ∙ by_sign u ys b range stands

    natural : (p n : ℕ) (b : ℤ) → (b +ℤ pos (p * bit false)) ≡ pos n → b ≡ pos n
    natural p n b e = omega (arith, ints)

    below : b ≡ pos n → AmountCase t b n
    below e =
        elim (cases_lt n (width t)) [
          | inl h ↦ inl (
            e,
            ap (amount_of t) e ∙ ap (λ x. if x then Some n else None)
                (lt-ltb n (width t) h),
            h,
          )
          | inr h ↦ inr (
            ap (amount_of t) e ∙ ap (λ x. if x then Some n else None)
                (le-ltb n (width t) h),
            h,
          )
        ]

    -- a negative number is no amount
    none : (b : ℤ) (p h n : ℕ) → p ≡ 2 * h → n < p → (b +ℤ pos (p * bit true)) ≡ pos n
        → amount_of t b ≡ None
    none (pos k) p h n twice less e = absurd (omega (arith, ints))
    none (negsuc k) p h n twice less e = refl

    high : (b : ℤ) (p h w n : ℕ) → p ≡ 2 * h → w ≤ h → neg_ℤ (pos h) ≤ℤ b
        → (b +ℤ pos (p * bit true)) ≡ pos n → w ≤ n
    high b p h w n twice small low e = omega (arith, ints)

    by : (f : Bool) → filling_bit u ys ≡ f → AmountCase t b n
    by false e = below (natural (2 ^ width u) n b (signs false e))
    by true e =
        let is = signed_where u ys e in
        let p = 2 ^ width u in
        let h = 2 ^ (width u - 1) in
        let less : n < p =
        subst (λ k. n < 2 ^ k) stands.long (words_are_numbers.below ys) in
        let small : width t ≤ h = omega (arith, narrow t, wide u is) in
        inr (
          none b p h n (halves u) less (signs true e),
          high b p h (width t) n (halves u) small (signed_range u b is range).0 (signs true e),
        )

-- the other bits of an amount
pub fits_where : (t u : IntType) (ys : List Bool) (b : ℤ) → IsInRange u b
    → StandsFor u ys b
    → (number (drop (amount_bits t) ys) == 0) ≡ is_some (amount_of t b)
fits_where t u ys b range stands =
    ap (λ k. k == 0) (high_number (amount_bits t) ys
    ∙ ap (λ w. number ys / w) (amount_width t))
    ∙ elim (amount_case t u ys b range stands) [
      | inl h ↦ eq-eqb (number ys / width t) 0 (div-eq_of_lt h.2) ∙ sym (ap is_some h.1)
      | inr h ↦ ne_eqb (number ys / width t) 0
          (some_width (number ys) (width t) (positive (width t) (2 ^ amount_bits t)
          (amount_width t) (pow_positive t)) h.1) ∙ sym (ap is_some h.0)
    ]
  where
    pow_positive : (t : IntType) → 0 < 2 ^ amount_bits t
    pow_positive t = pow_pos (amount_bits t)

    positive : (w p : ℕ) → p ≡ w → 0 < p → 0 < w
    positive w p e h = omega arith

    some_width : (n w : ℕ) → 0 < w → w ≤ n → n / w ≡ 0 → ⊥
    some_width n w h le e =
        let less = lt-div-mul-add {a = n} {b = w} h in
        absurd (over n w (n / w) e less le)
      where
        over : (n w q : ℕ) → q ≡ 0 → n < q * w + w → w ≤ n → ⊥
        over n w zero e less le = omega arith
        over n w (suc q) e less le = omega arith

-- the amount of a shift that has a value, and that value
pub shift_value : (t u : IntType) (ys : List Bool) (b c : ℤ) (f : ℕ → ℤ)
    (P : ℕ → ℤ → Type 0) → IsInRange u b → StandsFor u ys b
    → option_map f (amount_of t b) ≡ Some c
    → ((n : ℕ) → n < width t → P n (f n)) → P (number (take (amount_bits t) ys)) c
shift_value t u ys b c f P range stands is holds =
    elim (amount_case t u ys b range stands) [
      | inl h ↦
          let same : f (number ys) ≡ c =
          value_is (f (number ys)) c (sym (ap (option_map f) h.1) ∙ is) in
          let low : number ys ≡ number (take (amount_bits t) ys) =
          sym (mod-eq_of_lt h.2) ∙ ap (λ w. number ys % w) (sym (amount_width t))
          ∙ sym (words_are_numbers.low (amount_bits t) ys) in
          subst (λ k. P k c) low (subst (P (number ys)) same (holds (number ys) h.2))
      | inr h ↦ absurd (no_value (sym (ap (option_map f) h.0) ∙ is))
    ]
  where
    value_is : (x y : ℤ) → Some x ≡ Some y → x ≡ y
    value_is x y e = cc

    no_value : None ≡ Some c → ⊥
    no_value e = absurd (cc)

-- ---- to the left

pub left_stands : (t : IntType) (xs : List Bool) (a : ℤ) (n : ℕ)
    → IsInRange t a → StandsFor t xs a → n < width t
    → StandsFor t (moved toward.Left n false xs) (wrapped t (a *ℤ pos (2 ^ n)))
left_stands t xs a zero range stands less =
    subst (λ bs. StandsFor t bs (wrapped t (a *ℤ pos (2 ^ 0))))
    (sym (moved_nothing toward.Left false xs))
    (subst (StandsFor t xs) (sym (ap (wrapped t) (once a) ∙ wrapped_of_range t a range)) stands)
  where
    once : (a : ℤ) → a *ℤ pos (2 ^ 0) ≡ a
    once a = omega (arith, ints)
left_stands t xs a (suc k) range stands less =
    let n = suc k in
    let p = 2 ^ width t in
    stand t (a *ℤ pos (2 ^ n)) (moved toward.Left n false xs) (2 ^ n * number xs) other
    (moved_length toward.Left n false xs ∙ stands.long)
    (left_number n xs ∙ ap (λ w. (2 ^ n * number xs) % 2 ^ w) stands.long)
    (subst (Same p (a *ℤ pos (2 ^ n))) (as_product (number xs) (2 ^ n))
    (Same-mul p a (pos (number xs)) (pos (2 ^ n)) (pos (2 ^ n)) (near t xs a stands)
    (Same-refl p (pos (2 ^ n)))))
  where
    other : t ≢ ty.Bool
    other e = let one = ap width e in omega arith

    as_product : (n d : ℕ) → pos n *ℤ pos d ≡ pos (d * n)
    as_product n d = ap pos (mul_comm n d)

-- ---- to the right

-- a word whose own number is congruent to a stands for a
stand_own : (t : IntType) (a : ℤ) (bits : List Bool) → length bits ≡ width t
    → Same (2 ^ width t) a (pos (number bits)) → StandsFor t bits a
stand_own t a bits long same =
    stand_for t a bits (number bits) long
    (sym (mod-eq_of_lt (subst (λ k. number bits < 2 ^ k) long (words_are_numbers.below bits))))
    same

pub right_stands : (t : IntType) (xs : List Bool) (a : ℤ) (n : ℕ)
    → IsInRange t a → StandsFor t xs a
    → StandsFor t (moved toward.Right n (filling_bit t xs) xs) (int_div_euclid a (pos (2 ^ n)))
right_stands t xs a n range stands = by (filling_bit t xs) refl
  where
    p : ℕ
    p = 2 ^ width t

    long : (b : Bool) → length (moved toward.Right n b xs) ≡ width t
    long b = moved_length toward.Right n b xs ∙ stands.long

    signs : (f : Bool) → filling_bit t xs ≡ f → (a +ℤ pos (p * bit f)) ≡ pos (number xs)
    signs f e = ap (λ x. a +ℤ pos (p * bit x)) (sym e) ∙ by_sign t xs a range stands

    natural : (p n : ℕ) (b : ℤ) → (b +ℤ pos (p * bit false)) ≡ pos n → b ≡ pos n
    natural p n b e = omega (arith, ints)

    negative : (p n k : ℕ) (b : ℤ) → (b +ℤ pos (p * bit true)) ≡ pos n → k + n + 1 ≡ p
        → b ≡ negsuc k
    negative p n k b e whole = omega (arith, ints)

    behind : (p n k : ℕ) → k + n + 1 ≡ p → Same p (negsuc k) (pos n)
    behind p n k whole = record { j = 1; k = 0; same = omega (arith, ints) }

    by : (b : Bool) → filling_bit t xs ≡ b
        → StandsFor t (moved toward.Right n b xs) (int_div_euclid a (pos (2 ^ n)))
    by false e =
        let is : a ≡ pos (number xs) = natural p (number xs) a (signs false e) in
        let bits = moved toward.Right n false xs in
        subst (λ z. StandsFor t bits (int_div_euclid z (pos (2 ^ n)))) (sym is)
        (subst (λ k. StandsFor t bits (pos k)) (right_number n xs)
        (stand_own t (pos (number bits)) bits (long false)
        (Same-refl p (pos (number bits)))))
    by true e =
        let flipped = number (map not xs) in
        let is : a ≡ negsuc flipped = negative p (number xs) flipped a (signs true e)
        (words_are_numbers.opposite xs ∙ ap (λ k. 2 ^ k) stands.long) in
        let bits = moved toward.Right n true xs in
        let rest = number (map not bits) in
        let quotient : rest ≡ flipped / 2 ^ n =
        ap number (opposites_moved toward.Right n true xs) ∙ right_number n (map not xs) in
        subst (λ z. StandsFor t bits (int_div_euclid z (pos (2 ^ n)))) (sym is)
        (subst (λ k. StandsFor t bits (negsuc k)) quotient
        (stand_own t (negsuc rest) bits (long true)
        (behind p (number bits) rest
        (words_are_numbers.opposite bits ∙ ap (λ k. 2 ^ k) (long true)))))
