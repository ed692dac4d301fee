-- A divider made of words of a net divides their numbers.
use Rattle.std.proofs.Common.{◌≡◌, ◌≢◌, ℕ, zero, suc, ◌+◌, ◌*◌, ◌^◌, ◌<◌, ◌≤◌, Bool, true, false}
use Rattle.std.proofs.Common.{not, ◌&&◌, List, [], ◌∷◌, length, map, take, drop, inl, inr}
use Rattle.std.proofs.Common.{refl, sym, ap, subst, ◌∙◌, arith}
use Rattle.std.specs.Prelude.{◌==◌}
use Rattle.std.proofs.lemmas.Bool.{cases_eq, eq-eqb, ne_eqb}
use Rattle.std.proofs.lemmas.List.{length-map, length-take-le, map-append, take-append-drop}
use Rattle.cpa_cnf.specs.Literals.{opposite}
use Rattle.cpa_cnf.specs.Lines.{AreBelow}
use Rattle.cpa_blast_gates.specs.declared.gate.Gate.{Gate}
use Rattle.cpa_blast_gates.specs.Gates.{lit_value}
use Rattle.cpa_blast_gates.specs.Nets.{vars, IsScoped, Holds, Built, and_in}
use Rattle.cpa_blast_gates.specs.Meanings.{Grows, Makes}
use Rattle.cpa_blast_gates.specs.Laws.{nets_grow, literals_have_values, gates_mean_their_operators}
use Rattle.cpa_blast_words.specs.declared.rows.Row.TheVariants as row
use Rattle.cpa_blast_words.specs.Walks.{walk}
use Rattle.cpa_blast_words.specs.Words.{opposites, choose_word}
use Rattle.cpa_blast_words.specs.Truths.{bit, values, number, walked_bits, walked_carry}
use Rattle.cpa_blast_words.specs.Laws.{walks_mean_their_rows, words_mean_their_operators}
use Rattle.cpa_blast_words.specs.Laws.{words_are_numbers, words_are_long}
use Rattle.cpa_blast_words.specs.lemmas.Columns.{still_below, opposite_below}
use Rattle.cpa_blast_words.specs.lemmas.WalkMeanings.{all_still_below}
use Rattle.cpa_blast_words.specs.lemmas.WordMeanings.{opposites_below, values_opposites}
use Rattle.cpa_blast_words.specs.lemmas.WordMeanings.{always_below}
use Rattle.cpa_blast_words.specs.lemmas.WordMeanings.{front_below, back_below}
use Rattle.cpa_blast_quotients.specs.declared.dividers.Divided.{Divided}
use Rattle.cpa_blast_quotients.specs.Dividers.{no_bit, stage, divide}
use Rattle.cpa_blast_quotients.specs.Meanings.{Divides, MakesDivision}
use Rattle.cpa_blast_quotients.specs.lemmas.StageNumbers.{stage_number}

-- ---- no bit is true

none_more : (b : Bool) (n : ℕ) → ((n == 0) && not b) ≡ (bit b + 2 * n == 0)
none_more true n =
    and_false (n == 0) ∙ sym (ne_eqb (1 + 2 * n) 0 (λ h. absurd (omega arith)))
  where
    and_false : (b : Bool) → (b && false) ≡ false
    and_false true = refl
    and_false false = refl
none_more false n =
    and_true (n == 0) ∙ elim (cases_eq n 0) [
      | inl e ↦ eq-eqb n 0 e ∙ sym (eq-eqb (0 + 2 * n) 0 (omega arith))
      | inr e ↦ ne_eqb n 0 e ∙ sym (ne_eqb (0 + 2 * n) 0 (λ h. e (omega arith)))
    ]
  where
    and_true : (b : Bool) → (b && true) ≡ b
    and_true true = refl
    and_true false = refl

pub no_bit_is : (s : List Gate) (xs : List ℕ) → IsScoped s → AreBelow (vars s) xs
    → Makes s (no_bit s xs) (λ m. number (values m xs) == 0)
unfolding no_bit
no_bit_is s [] scoped below = record {
  grows = nets_grow.stays s scoped;
  below = always_below s;
  is = λ m holds. literals_have_values.truth s m holds;
}
no_bit_is s (x ∷ xs) scoped below =
    let rest = no_bit s xs in
    let before = no_bit_is s xs scoped below.1 in
    let made = gates_mean_their_operators.conjunction rest.net rest.value (opposite x)
    before.grows.scoped before.below
    (opposite_below (vars rest.net) x (still_below s rest.net x before.grows below.0)) in
    record {
      grows = nets_grow.on s rest.net (and_in rest.net rest.value (opposite x)).net before.grows
          made.grows;
      below = made.below;
      is = λ m holds.
          made.is m holds
          ∙ ap (λ b. b && lit_value m (opposite x)) (before.is m (made.grows.keeps m holds))
          ∙ ap (λ b. (number (values m xs) == 0) && b) (literals_have_values.negative m x)
          ∙ none_more (lit_value m x) (number (values m xs));
    }

-- ---- one stage

record IsStage (s : List Gate) (x : ℕ) (above : Divided) (low high : List ℕ)
    (made : Built Divided) : Type 0
  where
    pub grows : Grows s made.net
    pub quotient_below : AreBelow (vars made.net) made.value.quotient
    pub remainder_below : AreBelow (vars made.net) made.value.remainder
    pub quotient_long : length made.value.quotient ≡ suc (length above.quotient)
    pub remainder_long : length made.value.remainder ≡ suc (length above.remainder)
    pub is : (m : ℕ → Bool) (d a : ℕ) → Holds m made.net
        → d ≡ number (values m low) + 2 ^ length low * number (values m high)
        → Divides d a (number (values m above.quotient)) (number (values m above.remainder))
        → Divides d (bit (lit_value m x) + 2 * a) (number (values m made.value.quotient))
        (number (values m made.value.remainder))

module _ (s : List Gate) (x : ℕ) (above : Divided) (low high : List ℕ) (scoped : IsScoped s)
    (below_x : x < 2 * vars s) (below_quotient : AreBelow (vars s) above.quotient)
    (below_remainder : AreBelow (vars s) above.remainder) (below_low : AreBelow (vars s) low)
    (below_high : AreBelow (vars s) high) (long : length low ≡ suc (length above.remainder)) where
  stage_is : IsStage s x above low high (stage s x above low high)
  unfolding stage
  stage_is =
      let left = x ∷ above.remainder in
      let difference = walk row.Sum s 0 left (opposites low) in
      let walked = walks_mean_their_rows row.Sum s 0 left (opposites low) scoped (always_below s)
      (below_x, below_remainder) (opposites_below (vars s) low below_low) in
      let s1 = difference.net in
      let none = no_bit s1 high in
      let clear = no_bit_is s1 high walked.grows.scoped
      (all_still_below s s1 high walked.grows below_high) in
      let s2 = none.net in
      let grown2 = nets_grow.on s s1 s2 walked.grows clear.grows in
      let both = and_in s2 difference.value.carry none.value in
      let fits = gates_mean_their_operators.conjunction s2 difference.value.carry none.value
      clear.grows.scoped (still_below s1 s2 difference.value.carry clear.grows walked.carry_below)
      clear.below in
      let s3 = both.net in
      let grown3 = nets_grow.on s s2 s3 grown2 fits.grows in
      let chosen = choose_word s3 both.value difference.value.bits left in
      let choice = words_mean_their_operators.choice s3 difference.value.bits left
      fits.grows.scoped
      (all_still_below s1 s3 difference.value.bits
      (nets_grow.on s1 s2 s3 clear.grows fits.grows) walked.bits_below) (
        still_below s s3 x grown3 below_x,
        all_still_below s s3 above.remainder grown3
            below_remainder,
      ) both.value fits.below in
      let s4 = chosen.net in
      let grown4 = nets_grow.on s s3 s4 grown3 choice.grows in
      let as_long : length left ≡ length (opposites low) =
      sym long ∙ sym (length-map low opposite) in
      record {
        grows = grown4;
        quotient_below = (
          still_below s3 s4 both.value choice.grows fits.below,
          all_still_below s s4 above.quotient grown4 below_quotient,
        );
        remainder_below = choice.below;
        quotient_long = refl;
        remainder_long =
            words_are_long.choice both.value s3 difference.value.bits left
            (words_are_long.walked row.Sum 0 s left (opposites low) as_long)
            ∙ words_are_long.walked row.Sum 0 s left (opposites low) as_long;
        is = λ m d a holds is before.
            let h3 = choice.grows.keeps m holds in
            let h2 = fits.grows.keeps m h3 in
            let h1 = clear.grows.keeps m h2 in
            let rs = values m above.remainder in
            let ls = values m low in
            let hs = values m high in
            let all = lit_value m x ∷ rs in
            let truth = literals_have_values.truth s1 m h1 in
            let bits : values m difference.value.bits ≡ walked_bits row.Sum true all (map not ls) =
            walked.bits m h1
            ∙ ap (λ c. walked_bits row.Sum c all (values m (opposites low))) truth
            ∙ ap (walked_bits row.Sum true all) (values_opposites m low) in
            let carry : lit_value m difference.value.carry
            ≡ walked_carry row.Sum true all (map not ls) =
            walked.carry m h1
            ∙ ap (λ c. walked_carry row.Sum c all (values m (opposites low))) truth
            ∙ ap (walked_carry row.Sum true all) (values_opposites m low) in
            let fit : lit_value m both.value
            ≡ (walked_carry row.Sum true all (map not ls) && (number hs == 0)) =
            fits.is m h3 ∙ ap (λ c. c && lit_value m none.value) carry
            ∙ ap (λ c. walked_carry row.Sum true all (map not ls) && c) (clear.is m h2) in
            stage_as d (bit (lit_value m x) + 2 * a) (lit_value m both.value) _
            (values m chosen.value) _ (number (values m above.quotient)) fit
            (choice.is m holds
            ∙ ap (λ c. walked_bits row.Choose c (values m difference.value.bits) all) fit
            ∙ ap (λ bs. walked_bits row.Choose
            (walked_carry row.Sum true all (map not ls) && (number hs == 0)) bs all) bits)
            (stage_number (lit_value m x) rs ls hs
            (length-map low (lit_value m) ∙ long
            ∙ ap suc (sym (length-map above.remainder (lit_value m))))
            d a (number (values m above.quotient))
            (is ∙ ap (λ k. number ls + 2 ^ k * number hs) (sym (length-map low (lit_value m))))
            before);
      }
    where
      stage_as : (d a : ℕ) (f g : Bool) (us vs : List Bool) (q : ℕ) → f ≡ g → us ≡ vs
          → Divides d a (bit g + 2 * q) (number vs) → Divides d a (bit f + 2 * q) (number us)
      stage_as d a f g us vs q e h is =
          subst (λ b. Divides d a (bit b + 2 * q) (number us)) (sym e)
          (subst (λ bs. Divides d a (bit g + 2 * q) (number bs)) (sym h) is)

-- ---- the divider

-- the number of a word in two parts
in_parts : (m : ℕ → Bool) (k : ℕ) (ys : List ℕ)
    → number (values m ys)
    ≡ number (values m (take k ys)) + 2 ^ length (take k ys) * number (values m (drop k ys))
in_parts m k ys =
    ap number (ap (values m) (sym (take-append-drop k ys))
    ∙ map-append (lit_value m) (take k ys) (drop k ys))
    ∙ words_are_numbers.appended (values m (take k ys)) (values m (drop k ys))
    ∙ ap (λ n. number (values m (take k ys)) + 2 ^ n * number (values m (drop k ys)))
    (length-map (take k ys) (lit_value m))

pub divide_is : (s : List Gate) (xs ys : List ℕ) → IsScoped s → AreBelow (vars s) xs
    → AreBelow (vars s) ys → length xs ≤ length ys → MakesDivision s xs ys (divide s xs ys)
unfolding divide
divide_is s [] ys scoped below_xs below_ys le = record {
  grows = nets_grow.stays s scoped;
  quotient_below = tt;
  remainder_below = tt;
  quotient_long = refl;
  remainder_long = refl;
  is = λ m holds some. nothing (number (values m ys)) some;
}
  where
    nothing : (d : ℕ) → d ≢ 0 → Divides d 0 0 0
    nothing zero some = absurd (some refl)
    nothing (suc d) some = record { whole = omega arith; smaller = omega arith }
divide_is s (x ∷ xs) ys scoped below_xs below_ys le =
    let above = divide s xs ys in
    let before = divide_is s xs ys scoped below_xs.1 below_ys (omega arith) in
    let k = suc (length xs) in
    let net = above.net in
    let made = stage_is net x above.value (take k ys) (drop k ys) before.grows.scoped
    (still_below s net x before.grows below_xs.0) before.quotient_below before.remainder_below
    (front_below (vars net) k ys (all_still_below s net ys before.grows below_ys))
    (back_below (vars net) k ys (all_still_below s net ys before.grows below_ys))
    (length-take-le k ys le ∙ ap suc (sym before.remainder_long)) in
    let last = stage net x above.value (take k ys) (drop k ys) in
    record {
      grows = nets_grow.on s net last.net before.grows made.grows;
      quotient_below = made.quotient_below;
      remainder_below = made.remainder_below;
      quotient_long = made.quotient_long ∙ ap suc before.quotient_long;
      remainder_long = made.remainder_long ∙ ap suc before.remainder_long;
      is = λ m holds some.
          made.is m (number (values m ys)) (number (values m xs)) holds (in_parts m k ys)
          (before.is m (made.grows.keeps m holds) some);
    }
