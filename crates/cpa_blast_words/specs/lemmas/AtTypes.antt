-- Sums, differences, negations and masks of words at a type: congruence and size name the bits.
use Rattle.std.proofs.Common.{◌≡◌, ◌≢◌, ℕ, ◌+◌, ◌-◌, ◌%◌, ◌^◌, ◌<◌, ◌≤◌, Bool, true, false}
use Rattle.std.proofs.Common.{not}
use Rattle.std.proofs.Common.{List, length, map, replicate, bit_and, bit_or, bit_xor, inl, inr}
use Rattle.std.proofs.Common.{refl, sym, ap, subst, ◌∙◌, arith, ℤ, pos, neg_ℤ, ◌+ℤ◌, ◌-ℤ◌}
use Rattle.std.specs.Ordering.{int_eq}
use Rattle.std.proofs.Math.Nat.{mod-eq_of_lt}
use Rattle.std.proofs.lemmas.Nat.{pow_pos}
use Rattle.std.proofs.lemmas.Int.{ints}
use Rattle.std.proofs.lemmas.List.{length-replicate}
use Rattle.std.proofs.lemmas.Bool.{cases_eq, eq-eqb, ne_eqb}
use Rattle.std.proofs.lemmas.Bool.Decides.{Decides-int_eq}
use native.Mathlib.Nat.{mod-lt}
use Rattle.cpa_ints.specs.declared.integers.IntType.{IntType}
use Rattle.cpa_ints.specs.declared.integers.IntType.TheVariants.{Bool as Boolean}
use Rattle.cpa_ints.specs.Integers.{width, IsInRange}
use Rattle.cpa_ints.specs.Wrapping.{wrapped}
use Rattle.cpa_ints.specs.Bits.{bits_of}
use Rattle.cpa_ints.specs.lemmas.Congruence.{Same, Same-refl, Same-trans, Same-add, Same-neg}
use Rattle.cpa_ints.specs.lemmas.Congruence.{Same-sub, Same-rem, Same-from, Same-to}
use Rattle.cpa_ints.specs.lemmas.Bits.{bits_congruent, bits_unique, bits_back, bits_wrapped}
use Rattle.cpa_blast_words.specs.declared.rows.Row.TheVariants as row
use Rattle.cpa_blast_words.specs.Truths.{bit, number, walked_bits}
use Rattle.cpa_blast_words.specs.Types.{StandsFor, WordsWrap, WordsAreEqual}
use Rattle.cpa_blast_words.specs.lemmas.Numbers.{number_below, walked_length, sum_number}
use Rattle.cpa_blast_words.specs.lemmas.Numbers.{difference_number, flipped_number, flipped_length}
use Rattle.cpa_blast_words.specs.lemmas.Numbers.{falses_number, equal_number}
use Rattle.cpa_blast_words.specs.lemmas.Numbers.{and_number, or_number, xor_number}

as_sum : (x y : ℕ) → (pos x +ℤ pos y) ≡ pos (x + y + 0)
as_sum x y = omega (arith, ints)

as_difference : (p x y : ℕ) → y ≤ p → Same p (pos x -ℤ pos y) (pos (x + (p - y)))
as_difference p x y h = record { j = 1; k = 0; same = omega (arith, ints) }

as_negation : (p x k : ℕ) → k + x ≡ p → Same p (neg_ℤ (pos x)) (pos k)
as_negation p x k h = record { j = 1; k = 0; same = omega (arith, ints) }

as_flip : (p x k : ℕ) → k + x + 1 ≡ p → Same p (neg_ℤ (pos x) -ℤ pos 1) (pos k)
as_flip p x k h = record { j = 1; k = 0; same = omega (arith, ints) }

reduced : (p k : ℕ) → 0 < p → Same p (pos k) (pos (k % p))
reduced p k h = Same-rem p h (pos k)

pub near : (t : IntType) (bits : List Bool) (a : ℤ) → StandsFor t bits a
    → Same (2 ^ width t) a (pos (number bits))
near t bits a s =
    subst (λ n. Same (2 ^ width t) a (pos n)) (sym s.is)
    (Same-from (width t) a (pos (bits_of t a)) (bits_congruent t a))

-- a word whose number is congruent to a stands for a
pub stand_for : (t : IntType) (a : ℤ) (bits : List Bool) (k : ℕ) → length bits ≡ width t
    → number bits ≡ k % 2 ^ width t → Same (2 ^ width t) a (pos k) → StandsFor t bits a
stand_for t a bits k long is same =
    let p = 2 ^ width t in
    record {
      long = long;
      is = is ∙ bits_unique t a (k % p) (mod-lt k (pow_pos (width t)))
          (Same-to (width t) a (pos (k % p))
          (Same-trans p a (pos k) (pos (k % p)) same (reduced p k (pow_pos (width t)))));
    }

-- and for what a wraps to
pub stand : (t : IntType) (a : ℤ) (bits : List Bool) (k : ℕ) → t ≢ Boolean
    → length bits ≡ width t → number bits ≡ k % 2 ^ width t → Same (2 ^ width t) a (pos k)
    → StandsFor t bits (wrapped t a)
stand t a bits k other long is same = record {
  long = long;
  is = (stand_for t a bits k long is same).is ∙ sym (bits_wrapped t other a);
}

-- the same of a number that is the word's own
pub stand_exact : (t : IntType) (a : ℤ) (bits : List Bool) (k : ℕ) → t ≢ Boolean
    → length bits ≡ width t → number bits ≡ k → Same (2 ^ width t) a (pos k)
    → StandsFor t bits (wrapped t a)
stand_exact t a bits k other long is same =
    let below = subst (λ n. number bits < 2 ^ n) long (number_below bits) in
    stand t a bits k other long
    (sym (mod-eq_of_lt below) ∙ ap (λ n. n % 2 ^ width t) is) same

module _ (t : IntType) (xs : List Bool) (a : ℤ) (other : t ≢ Boolean) (x : StandsFor t xs a)
  where
    negation : StandsFor t (walked_bits row.Sum true (map not xs) (replicate (length xs) false))
        (wrapped t (neg_ℤ a))
    negation =
        let p = 2 ^ width t in
        let zeros = replicate (length xs) false in
        let alike : length (map not xs) ≡ length zeros =
        flipped_length xs ∙ sym (length-replicate (length xs) false) in
        let k = number (map not xs) + number zeros + bit true in
        stand t (neg_ℤ a) _ k other
        (walked_length row.Sum true (map not xs) zeros alike ∙ flipped_length xs ∙ x.long)
        (sum_number true (map not xs) zeros alike
        ∙ ap (λ n. k % 2 ^ n) (flipped_length xs ∙ x.long))
        (Same-trans p (neg_ℤ a) (neg_ℤ (pos (number xs))) (pos k)
        (Same-neg p a (pos (number xs)) (near t xs a x))
        (as_negation p (number xs) k
        (total (number (map not xs)) (number zeros) (number xs) p (falses_number (length xs))
        (flipped_number xs ∙ ap (λ n. 2 ^ n) x.long))))
      where
        total : (f z n p : ℕ) → z ≡ 0 → f + n + 1 ≡ p → (f + z + bit true) + n ≡ p
        total f z n p e h = omega arith

    flip : StandsFor t (map not xs) (wrapped t (neg_ℤ a -ℤ pos 1))
    flip =
        let p = 2 ^ width t in
        stand_exact t (neg_ℤ a -ℤ pos 1) (map not xs) (number (map not xs)) other
        (flipped_length xs ∙ x.long) refl
        (Same-trans p (neg_ℤ a -ℤ pos 1) (neg_ℤ (pos (number xs)) -ℤ pos 1)
        (pos (number (map not xs)))
        (Same-sub p (neg_ℤ a) (neg_ℤ (pos (number xs))) (pos 1) (pos 1)
        (Same-neg p a (pos (number xs)) (near t xs a x)) (Same-refl p (pos 1)))
        (as_flip p (number xs) (number (map not xs))
        (flipped_number xs ∙ ap (λ n. 2 ^ n) x.long)))

module _ (t : IntType) (xs ys : List Bool) (a b : ℤ) (other : t ≢ Boolean)
    (x : StandsFor t xs a) (y : StandsFor t ys b) where
  alike : length xs ≡ length ys
  alike = x.long ∙ sym y.long

  sum : StandsFor t (walked_bits row.Sum false xs ys) (wrapped t (a +ℤ b))
  sum =
      let p = 2 ^ width t in
      let k = number xs + number ys + bit false in
      stand t (a +ℤ b) (walked_bits row.Sum false xs ys) k other
      (walked_length row.Sum false xs ys alike ∙ x.long)
      (sum_number false xs ys alike ∙ ap (λ n. k % 2 ^ n) x.long)
      (subst (λ z. Same p (a +ℤ b) z) (as_sum (number xs) (number ys))
      (Same-add p a (pos (number xs)) b (pos (number ys)) (near t xs a x) (near t ys b y)))

  difference : StandsFor t (walked_bits row.Sum true xs (map not ys)) (wrapped t (a -ℤ b))
  difference =
      let p = 2 ^ width t in
      let k = number xs + (p - number ys) in
      let below : number ys < p = subst (λ n. number ys < 2 ^ n) y.long (number_below ys) in
      stand t (a -ℤ b) (walked_bits row.Sum true xs (map not ys)) k other
      (walked_length row.Sum true xs (map not ys) (alike ∙ sym (flipped_length ys)) ∙ x.long)
      (difference_number xs ys alike
      ∙ ap (λ n. (number xs + (2 ^ n - number ys)) % 2 ^ n) x.long)
      (Same-trans p (a -ℤ b) (pos (number xs) -ℤ pos (number ys)) (pos k)
      (Same-sub p a (pos (number xs)) b (pos (number ys)) (near t xs a x) (near t ys b y))
      (as_difference p (number xs) (number ys) (omega arith)))

  -- a mask that is f of the numbers of the words
  masked : (bits : List Bool) (f : ℕ → ℕ → ℕ) → length bits ≡ length xs
      → number bits ≡ f (number xs) (number ys)
      → StandsFor t bits (wrapped t (pos (f (bits_of t a) (bits_of t b))))
  masked bits f long is =
      stand_exact t (pos (f (bits_of t a) (bits_of t b))) bits
      (f (bits_of t a) (bits_of t b)) other (long ∙ x.long)
      (is ∙ ap (λ n. f n (number ys)) x.is ∙ ap (f (bits_of t a)) y.is)
      (Same-refl (2 ^ width t) (pos (f (bits_of t a) (bits_of t b))))

pub wrap_at_types : WordsWrap
wrap_at_types = record {
  sum = sum;
  difference = difference;
  negation = negation;
  flip = flip;
  conjunction = λ c t xs ys a b other x y.
      masked t xs ys a b other x y (walked_bits row.And c xs ys) bit_and
      (walked_length row.And c xs ys (x.long ∙ sym y.long))
      (and_number c xs ys (x.long ∙ sym y.long));
  disjunction = λ c t xs ys a b other x y.
      masked t xs ys a b other x y (walked_bits row.Or c xs ys) bit_or
      (walked_length row.Or c xs ys (x.long ∙ sym y.long))
      (or_number c xs ys (x.long ∙ sym y.long));
  exclusion = λ c t xs ys a b other x y.
      masked t xs ys a b other x y (walked_bits row.Xor c xs ys) bit_xor
      (walked_length row.Xor c xs ys (x.long ∙ sym y.long))
      (xor_number c xs ys (x.long ∙ sym y.long));
}

-- numbers of the range are equal where their bits are
bits_apart : (t : IntType) (a b : ℤ) → IsInRange t a → IsInRange t b → bits_of t a ≡ bits_of t b
    → a ≡ b
bits_apart t a b ra rb e =
    sym (bits_back t a ra) ∙ ap (λ n. wrapped t (pos n)) e ∙ bits_back t b rb

pub equal_at_types : WordsAreEqual
equal_at_types t xs ys a b ra rb x y =
    equal_number true xs ys (x.long ∙ sym y.long)
    ∙ elim (cases_eq (number xs) (number ys)) [
      | inl e ↦ eq-eqb (number xs) (number ys) e
          ∙ sym ((Decides-int_eq a b).1 (bits_apart t a b ra rb (sym x.is ∙ e ∙ y.is)))
      | inr ne ↦ ne_eqb (number xs) (number ys) ne
          ∙ sym (unequal (int_eq a b) (λ h. ne (x.is ∙ ap (bits_of t) ((Decides-int_eq a b).0 h)
          ∙ sym y.is)))
    ]
  where
    unequal : (r : Bool) → (r ≡ true → ⊥) → r ≡ false
    unequal true h = absurd (h refl)
    unequal false h = refl
