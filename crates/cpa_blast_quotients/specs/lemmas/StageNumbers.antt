-- One stage of long division: what is left with one more bit below it is less than twice the
-- divisor, so the divisor fits once or not at all.
use Rattle.std.proofs.Common.{◌≡◌, ℕ, zero, suc, ◌+◌, ◌*◌, ◌^◌, ◌<◌, ◌≤◌, Bool, true, false, not}
use Rattle.std.proofs.Common.{◌&&◌, List, ◌∷◌, length, map, refl, sym, ap, subst, ◌∙◌}
use Rattle.std.proofs.Common.{arith}
use Rattle.std.specs.Prelude.{◌==◌, if◌then◌else◌}
use Rattle.std.proofs.Math.Nat.{add-mul, mul_assoc, mul-suc}
use Rattle.std.proofs.lemmas.Bool.{eqb-true, eqb-false}
use Rattle.std.proofs.lemmas.List.{length-map}
use Rattle.cpa_blast_words.specs.declared.rows.Row.TheVariants as row
use Rattle.cpa_blast_words.specs.Truths.{bit, number, walked_bits, walked_carry}
use Rattle.cpa_blast_words.specs.Laws.{words_are_numbers, sums_are_sums, masks_are_bitwise}
use Rattle.cpa_blast_quotients.specs.Meanings.{Divides}

-- whether d fits into what is left, and what is left then
record Fits (fits : Bool) (left d rest : ℕ) : Type 0 where
  pub whole : left ≡ bit fits * d + rest
  pub less : fits ≡ false → left < d

at_least : (p h : ℕ) → (h ≡ 0 → ⊥) → p ≤ p * h
at_least p zero some = absurd (some refl)
at_least p (suc h) some = omega (arith, mul-suc p h)

-- low, flipped: the divisor's low bits and their opposites, below p; high: the number of its others
fits_when : (carry clear : Bool) (left low flipped bits high p d : ℕ)
    → bits + p * bit carry ≡ left + flipped + bit true → flipped + low + 1 ≡ p → bits < p
    → left < p → d ≡ low + p * high → (high == 0) ≡ clear
    → Fits (carry && clear) left d (if carry && clear then bits else left)
fits_when true true left low flipped bits high p d sum turned small short is zeros =
    let none : p * high ≡ 0 = ap (λ k. p * k) (eqb-true high 0 zeros) ∙ nothing p in
    record { whole = omega arith; less = λ e. absurd (cc) }
  where
    nothing : (p : ℕ) → p * 0 ≡ 0
    nothing p = omega arith
fits_when false true left low flipped bits high p d sum turned small short is zeros =
    let none : p * high ≡ 0 = ap (λ k. p * k) (eqb-true high 0 zeros) ∙ nothing p in
    record { whole = omega arith; less = λ e. omega arith }
  where
    nothing : (p : ℕ) → p * 0 ≡ 0
    nothing p = omega arith
fits_when true false left low flipped bits high p d sum turned small short is zeros =
    let more = at_least p high (eqb-false high 0 zeros) in
    record { whole = omega arith; less = λ e. omega arith }
fits_when false false left low flipped bits high p d sum turned small short is zeros =
    let more = at_least p high (eqb-false high 0 zeros) in
    record { whole = omega arith; less = λ e. omega arith }

-- one more bit x of the dividend
one_more : (fits : Bool) (x d a q r left rest : ℕ) → x ≤ 1 → Divides d a q r
    → left ≡ x + 2 * r → Fits fits left d rest → Divides d (x + 2 * a) (bit fits + 2 * q) rest
one_more fits x d a q r left rest one before is fit = by fits fit
  where
    times : (b : ℕ) → (b + 2 * q) * d ≡ b * d + 2 * (q * d)
    times b = add-mul b (2 * q) d ∙ ap (λ k. b * d + k) (mul_assoc 2 q d)

    by : (b : Bool) → Fits b left d rest → Divides d (x + 2 * a) (bit b + 2 * q) rest
    by true fit =
        let whole = fit.whole in
        let before_whole = before.whole in
        let before_smaller = before.smaller in
        record {
          whole = omega (arith, times 1);
          smaller = omega arith;
        }
    by false fit =
        let whole = fit.whole in
        let less = fit.less refl in
        let before_whole = before.whole in
        record {
          whole = omega (arith, times 0);
          smaller = omega arith;
        }

small_bit : (b : Bool) → bit b ≤ 1
small_bit true = omega arith
small_bit false = omega arith

-- rs is what is left, ls and hs the divisor's bits
module _ (x : Bool) (rs ls hs : List Bool) (e : length ls ≡ suc (length rs)) where
  alike : length (x ∷ rs) ≡ length (map not ls)
  alike = sym e ∙ sym (length-map ls not)

  pub stage_number : (d a q : ℕ) → d ≡ number ls + 2 ^ length ls * number hs
      → Divides d a q (number rs)
      → Divides d (bit x + 2 * a)
      (bit (walked_carry row.Sum true (x ∷ rs) (map not ls) && (number hs == 0)) + 2 * q)
      (number (walked_bits row.Choose
      (walked_carry row.Sum true (x ∷ rs) (map not ls) && (number hs == 0))
      (walked_bits row.Sum true (x ∷ rs) (map not ls)) (x ∷ rs)))
  stage_number d a q is before =
      let all = x ∷ rs in
      let sum = walked_bits row.Sum true all (map not ls) in
      let carry = walked_carry row.Sum true all (map not ls) in
      let fits = carry && (number hs == 0) in
      let p = 2 ^ length ls in
      let long : length sum ≡ length ls =
      words_are_numbers.walked row.Sum true all (map not ls) alike ∙ sym e in
      let fit = fits_when carry (number hs == 0) (number all) (number ls) (number (map not ls))
      (number sum) (number hs) p d
      (ap (λ k. number sum + 2 ^ k * bit carry) e
      ∙ sums_are_sums.exact true all (map not ls) alike)
      (words_are_numbers.opposite ls)
      (subst (λ k. number sum < 2 ^ k) long (words_are_numbers.below sum))
      (subst (λ k. number all < 2 ^ k) (sym e) (words_are_numbers.below all))
      is refl in
      subst (λ k. Divides d (bit x + 2 * a) (bit fits + 2 * q) k)
      (number_if fits sum all
      ∙ ap number (sym (masks_are_bitwise.choice fits sum all (long ∙ e))))
      (one_more fits (bit x) d a q (number rs) (number all) _ (small_bit x) before refl fit)
    where
      number_if : (b : Bool) (us vs : List Bool)
          → (if b then number us else number vs) ≡ number (if b then us else vs)
      number_if true us vs = refl
      number_if false us vs = refl
