-- The test whether an index lies inside an array: its sign and its number.
use Rattle.std.proofs.Common.{◌≡◌, ℕ, ◌+◌, ◌-◌, ◌*◌, ◌%◌, ◌<◌, ◌≤◌, ◌^◌, Bool, true, false, not}
use Rattle.std.proofs.Common.{◌&&◌, List, ◌++◌, length, take, replicate, refl, sym, ap, subst, ◌∙◌}
use Rattle.std.proofs.Common.{arith, ℤ, pos, negsuc, ◌+ℤ◌}
use Rattle.std.specs.Prelude.{nat_lt, nat_le, if◌then◌else◌, slice_index_or}
use Rattle.std.proofs.Math.Nat.{mod-eq_of_lt}
use Rattle.std.proofs.lemmas.Int.{ints}
use Rattle.std.proofs.lemmas.List.{length-map, take_all}
use Rattle.cpa_ints.specs.declared.integers.IntType.{IntType}
use Rattle.cpa_ints.specs.declared.integers.IntType.TheVariants as ty
use Rattle.cpa_ints.specs.Integers.{width, is_signed, IsInRange}
use Rattle.cpa_cnf.specs.Literals.{opposite}
use Rattle.cpa_cnf.specs.Lines.{AreBelow}
use Rattle.cpa_blast_gates.specs.declared.gate.Gate.{Gate}
use Rattle.cpa_blast_gates.specs.Gates.{lit_value}
use Rattle.cpa_blast_gates.specs.Nets.{vars, IsScoped, Holds, Built, and_in}
use Rattle.cpa_blast_gates.specs.Meanings.{Grows}
use Rattle.cpa_blast_gates.specs.Laws.{literals_have_values, nets_grow, gates_mean_their_operators}
use Rattle.cpa_blast_words.specs.Truths.{bit, values, number, flipped_top_bits}
use Rattle.cpa_blast_words.specs.Words.{less, constant_word, cast_word, filling}
use Rattle.cpa_blast_words.specs.Types.{StandsFor, filling_bit, cast_bits}
use Rattle.cpa_blast_words.specs.Laws.{words_mean_their_operators, words_are_long}
use Rattle.cpa_blast_words.specs.Laws.{words_are_numbers}
use Rattle.cpa_blast_words.specs.Laws.{comparisons_compare}
use Rattle.cpa_blast_words.specs.lemmas.Columns.{still_below, opposite_below}
use Rattle.cpa_blast_words.specs.lemmas.WordMeanings.{values_filling, filling_below}
use Rattle.cpa_blast_words.specs.lemmas.Orders.{has_top, width_positive, moved, own}
use Rattle.cpa_blast_circuits.specs.Reads.{inside}
use Rattle.cpa_blast_circuits.specs.lemmas.Unaries.{constant_below}

-- whether a number lies from 0 to len - 1
abbrev pub is_inside : ℕ → ℤ → Bool
is_inside len (pos n) = nat_lt n len
is_inside len (negsuc n) = false

-- a natural number stays at 64 bits
wide_number : (bs : List Bool) → length bs ≤ 64 → number (cast_bits ty.U64 ty.U64 bs) ≡ number bs
wide_number bs fits = by (nat_le 64 (length bs)) refl
  where
    nothing : (n p : ℕ) → n + p * 0 ≡ n
    nothing n p = omega arith

    by : (b : Bool) → nat_le 64 (length bs) ≡ b
        → number (if b then take 64 bs else bs ++ replicate (64 - length bs) false) ≡ number bs
    by true e = ap number (take_all 64 bs fits)
    by false e =
        words_are_numbers.appended bs (replicate (64 - length bs) false)
        ∙ ap (λ k. number bs + 2 ^ length bs * k) (words_are_numbers.falses (64 - length bs))
        ∙ nothing (number bs) (2 ^ length bs)

-- what a word says of a number: its bits as a natural number, and its sign
record IsSigned (t : IntType) (bs : List Bool) (a : ℤ) : Type 0 where
  natural : (n : ℕ) → a ≡ pos n → (filling_bit t bs ≡ false) × (number bs ≡ n)
  negative : (n : ℕ) → a ≡ negsuc n → filling_bit t bs ≡ true

natural_own : (a : ℤ) (n k : ℕ) → pos k ≡ a +ℤ pos 0 → a ≡ pos n → k ≡ n
natural_own a n k e f = omega (arith, ints)

never_negative : (a : ℤ) (n k : ℕ) → pos k ≡ a +ℤ pos 0 → a ≡ negsuc n → ⊥
never_negative a n k e f = omega (arith, ints)

top_natural : (a : ℤ) (n k low h f : ℕ) (b : Bool) → low < h → k ≡ low + h * bit b
    → f ≡ low + h * bit (not b) → pos f ≡ a +ℤ pos h → a ≡ pos n → (b ≡ false) × (k ≡ n)
top_natural a n k low h f true below whole flipped e is = absurd (omega (arith, ints))
top_natural a n k low h f false below whole flipped e is = (refl, omega (arith, ints))

top_negative : (a : ℤ) (n k low h f : ℕ) (b : Bool) → low < h → k ≡ low + h * bit b
    → f ≡ low + h * bit (not b) → pos f ≡ a +ℤ pos h → a ≡ negsuc n → b ≡ true
top_negative a n k low h f true below whole flipped e is = refl
top_negative a n k low h f false below whole flipped e is = absurd (omega (arith, ints))

sign_of : (t : IntType) (bs : List Bool) (a : ℤ) → IsInRange t a
    → StandsFor t bs a → IsSigned t bs a
sign_of t bs a range stands = by (is_signed t) refl
  where
    by : (x : Bool) → is_signed t ≡ x → IsSigned t bs a
    by true e =
        let top = has_top (width t - 1) bs (stands.long ∙ width_positive t) in
        let h = 2 ^ (width t - 1) in
        let up = moved t bs a e range stands in
        let at : filling_bit t bs ≡ top.top =
        ap (λ x. if x then slice_index_or bs (length bs - 1) false else false) e ∙ top.at in
        record {
          natural = λ n is.
              let both = top_natural a n (number bs) top.low h (number (flipped_top_bits bs))
              top.top top.below top.whole top.flipped up is in (at ∙ both.0, both.1);
          negative = λ n is.
              at ∙ top_negative a n (number bs) top.low h (number (flipped_top_bits bs)) top.top
              top.below top.whole top.flipped up is;
        }
    by false e =
        let same = own t bs a e range stands in
        record {
          natural = λ n is. (
            ap (λ x. if x then slice_index_or bs (length bs - 1) false else false) e,
            natural_own a n (number bs) same is,
          );
          negative = λ n is. absurd (never_negative a n (number bs) same is);
        }

-- a number that is not negative is that of its word
pub natural_number : (t : IntType) (bs : List Bool) (a : ℤ) (n : ℕ)
    → IsInRange t a → StandsFor t bs a → a ≡ pos n → number bs ≡ n
natural_number t bs a n range stands is =
    ((sign_of t bs a range stands).natural n is).1

-- the number and the sign tell whether the index lies inside
inside_told : (t : IntType) (bs : List Bool) (len : ℕ) (a : ℤ) → IsSigned t bs a
    → (nat_lt (number bs) len && not (filling_bit t bs)) ≡ is_inside len a
inside_told t bs len (pos n) sign =
    let both = sign.natural n refl in
    ap (λ k. nat_lt k len && not (filling_bit t bs)) both.1
    ∙ ap (λ b. nat_lt n len && not b) both.0 ∙ with_true (nat_lt n len)
  where
    with_true : (b : Bool) → (b && true) ≡ b
    with_true true = refl
    with_true false = refl
inside_told t bs len (negsuc n) sign =
    ap (λ b. nat_lt (number bs) len && not b) (sign.negative n refl)
    ∙ with_false (nat_lt (number bs) len)
  where
    with_false : (b : Bool) → (b && false) ≡ false
    with_false true = refl
    with_false false = refl

never_below : (s : List Gate) → 1 < 2 * vars s
never_below s = omega arith

width_fits : (t : IntType) → width t ≤ 64
width_fits ty.Bool = omega arith
width_fits ty.I8 = omega arith
width_fits ty.U8 = omega arith
width_fits ty.I16 = omega arith
width_fits ty.U16 = omega arith
width_fits ty.I32 = omega arith
width_fits ty.U32 = omega arith
width_fits ty.I64 = omega arith
width_fits ty.U64 = omega arith

pub record IsInsideTest (t : IntType) (len : ℕ) (s : List Gate) (xs : List ℕ) (made : Built ℕ)
    : Type 0
  where
    pub grows : Grows s made.net
    pub below : made.value < 2 * vars made.net
    pub is : (m : ℕ → Bool) (a : ℤ) → Holds m made.net → IsInRange t a
        → StandsFor t (values m xs) a → lit_value m made.value ≡ is_inside len a

pub inside_is : (t : IntType) (len : ℕ) (s : List Gate) (xs : List ℕ)
    → IsScoped s → AreBelow (vars s) xs → length xs ≡ width t → len < 2 ^ 64
    → IsInsideTest t len s xs (inside t len s xs)
unfolding inside
inside_is t len s xs scoped below long small =
    let wide = cast_word ty.U64 ty.U64 s xs in
    let bound = constant_word 64 len in
    let l = less wide.net wide.value bound in
    let sign = filling t xs in
    let ok = and_in l.net l.value (opposite sign) in
    let widened = words_mean_their_operators.cast ty.U64 ty.U64 s xs scoped below in
    let is_l = words_mean_their_operators.less wide.net wide.value bound widened.grows.scoped
    widened.below (constant_below wide.net 64 len) in
    let to_l = nets_grow.on s wide.net l.net widened.grows is_l.grows in
    let is_ok = gates_mean_their_operators.conjunction l.net l.value (opposite sign)
    is_l.grows.scoped is_l.below
    (opposite_below (vars l.net) sign (still_below s l.net sign to_l
    (filling_below (vars s) t xs (never_below s) below))) in
    record {
      grows = nets_grow.on s l.net ok.net to_l is_ok.grows;
      below = is_ok.below;
      is = λ m a holds range stands.
          let at_l = is_ok.grows.keeps m holds in
          let at_wide = is_l.grows.keeps m at_l in
          let at_s = widened.grows.keeps m at_wide in
          let bs = values m xs in
          let alike : length (values m wide.value) ≡ length (values m bound) =
          length-map wide.value (lit_value m) ∙ words_are_long.cast ty.U64 ty.U64 s xs
          ∙ sym (length-map bound (lit_value m) ∙ words_are_long.constant 64 len) in
          let fits : length bs ≤ 64 =
          subst (λ n. n ≤ 64) (sym (length-map xs (lit_value m) ∙ long)) (width_fits t) in
          let same_low : number (values m wide.value) ≡ number bs =
          ap number (widened.is m at_wide) ∙ wide_number bs fits in
          let same_high : number (values m bound) + bit false ≡ len =
          bounded (number (values m bound)) len
          (words_mean_their_operators.constant s m 64 len at_s)
          (mod-eq_of_lt small) in
          is_ok.is m holds
          ∙ ap (λ b. lit_value m l.value && b)
          (literals_have_values.negative m sign ∙ ap not (values_filling s m t xs at_s))
          ∙ ap (λ b. b && not (filling_bit t bs))
          (is_l.is m at_l
          ∙ comparisons_compare.less false (values m wide.value) (values m bound) alike
          ∙ ap (λ n. nat_lt n (number (values m bound) + bit false)) same_low
          ∙ ap (λ n. nat_lt (number bs) n) same_high)
          ∙ inside_told t bs len a (sign_of t bs a range stands);
    }
  where
    bounded : (k len : ℕ) → k ≡ len % 2 ^ 64 → len % 2 ^ 64 ≡ len → k + bit false ≡ len
    bounded k len e f = let g = e ∙ f in omega (arith, g)
