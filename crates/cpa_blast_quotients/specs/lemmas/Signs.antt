-- A word turned by a sign stands for the two's complement where the sign is true.
use Rattle.std.proofs.Common.{◌≡◌, ℕ, ◌+◌, ◌-◌, ◌*◌, ◌%◌, ◌^◌, ◌<◌, Bool, true, false}
use Rattle.std.proofs.Common.{not, List, [], ◌∷◌, length, map, replicate, refl, sym, ap, ◌∙◌, arith}
use Rattle.std.specs.Prelude.{if◌then◌else◌}
use Rattle.std.proofs.Math.Nat.{mod-eq_of_lt}
use Rattle.std.proofs.lemmas.List.{length-map, length-replicate}
use Rattle.cpa_cnf.specs.Lines.{AreBelow}
use Rattle.cpa_blast_gates.specs.declared.gate.Gate.{Gate}
use Rattle.cpa_blast_gates.specs.Gates.{lit_value}
use Rattle.cpa_blast_gates.specs.Nets.{vars, IsScoped}
use Rattle.cpa_blast_gates.specs.Laws.{nets_grow, literals_have_values}
use Rattle.cpa_blast_words.specs.declared.rows.Row.TheVariants as row
use Rattle.cpa_blast_words.specs.Words.{xor_word, sum_word}
use Rattle.cpa_blast_words.specs.Truths.{bit, values, number, walked_bits}
use Rattle.cpa_blast_words.specs.Values.{MakesNumber}
use Rattle.cpa_blast_words.specs.Laws.{words_mean_their_operators, words_are_numbers}
use Rattle.cpa_blast_words.specs.Laws.{words_are_long}
use Rattle.cpa_blast_words.specs.Laws.{sums_are_sums}
use Rattle.cpa_blast_words.specs.lemmas.Columns.{still_below}
use Rattle.cpa_blast_words.specs.lemmas.WordMeanings.{repeated_below, never_below, values_repeated}
use Rattle.cpa_blast_quotients.specs.Quotients.{signed_word}
use Rattle.cpa_blast_quotients.specs.Meanings.{signed_number}

-- ---- truth values

turned : (c b : Bool) (bs : List Bool)
    → walked_bits row.Xor c bs (replicate (length bs) b) ≡ (if b then map not bs else bs)
turned c true [] = refl
turned c false [] = refl
turned c true (true ∷ bs) = ap (λ cs. false ∷ cs) (turned c true bs)
turned c true (false ∷ bs) = ap (λ cs. true ∷ cs) (turned c true bs)
turned c false (true ∷ bs) = ap (λ cs. true ∷ cs) (turned c false bs)
turned c false (false ∷ bs) = ap (λ cs. false ∷ cs) (turned c false bs)

-- the sum with no more than the carry
carried : (c : Bool) (bs : List Bool)
    → number (walked_bits row.Sum c bs (replicate (length bs) false))
    ≡ (number bs + bit c) % 2 ^ length bs
carried c bs =
    sums_are_sums.sum c bs (replicate (length bs) false) (sym (length-replicate (length bs) false))
    ∙ ap (λ k. (number bs + k + bit c) % 2 ^ length bs) (words_are_numbers.falses (length bs))
    ∙ ap (λ k. k % 2 ^ length bs) (nothing (number bs) (bit c))
  where
    nothing : (n b : ℕ) → n + 0 + b ≡ n + b
    nothing n b = omega arith

signed_bits : (c b : Bool) (bs : List Bool)
    → number (walked_bits row.Sum b (walked_bits row.Xor c bs (replicate (length bs) b))
    (replicate (length bs) false)) ≡ signed_number b (length bs) (number bs)
signed_bits c true bs =
    ap (λ cs. number (walked_bits row.Sum true cs (replicate (length bs) false)))
    (turned c true bs)
    ∙ ap (λ k. number (walked_bits row.Sum true (map not bs) (replicate k false)))
    (sym (length-map bs not))
    ∙ carried true (map not bs)
    ∙ ap (λ k. (number (map not bs) + bit true) % 2 ^ k) (length-map bs not)
    ∙ ap (λ k. k % 2 ^ length bs)
    (left (number (map not bs)) (number bs) (2 ^ length bs) (words_are_numbers.opposite bs))
  where
    left : (f n p : ℕ) → f + n + 1 ≡ p → f + bit true ≡ p - n
    left f n p e = omega arith
signed_bits c false bs =
    ap (λ cs. number (walked_bits row.Sum false cs (replicate (length bs) false)))
    (turned c false bs)
    ∙ carried false bs
    ∙ ap (λ k. k % 2 ^ length bs) (nothing (number bs))
    ∙ mod-eq_of_lt (words_are_numbers.below bs)
  where
    nothing : (n : ℕ) → n + bit false ≡ n
    nothing n = omega arith

-- ---- literals

pub signed_is : (s : List Gate) (sign : ℕ) (xs : List ℕ) → IsScoped s → sign < 2 * vars s
    → AreBelow (vars s) xs → MakesNumber s (signed_word s sign xs) (length xs)
    (λ m. signed_number (lit_value m sign) (length xs) (number (values m xs)))
unfolding signed_word
signed_is s sign xs scoped below_sign below =
    let signs = replicate (length xs) sign in
    let zeros = replicate (length xs) 1 in
    let turn = xor_word s xs signs in
    let first = words_mean_their_operators.exclusion s xs signs scoped below
    (repeated_below (vars s) (length xs) sign below_sign) in
    let net = turn.net in
    let alike : length xs ≡ length signs = sym (length-replicate (length xs) sign) in
    let as_long : length turn.value ≡ length xs = words_are_long.exclusion s xs signs alike in
    let second = words_mean_their_operators.sum net turn.value zeros first.grows.scoped first.below
    (repeated_below (vars net) (length xs) 1 (never_below net)) sign
    (still_below s net sign first.grows below_sign) in
    let sum = sum_word net sign turn.value zeros in
    record {
      grows = nets_grow.on s net sum.net first.grows second.grows;
      below = second.below;
      long = words_are_long.sum sign net turn.value zeros
          (as_long ∙ sym (length-replicate (length xs) 1)) ∙ as_long;
      is = λ m holds.
          let b = lit_value m sign in
          let c = lit_value m 1 in
          let bs = values m xs in
          let long : length bs ≡ length xs = length-map xs (lit_value m) in
          ap number (second.is m holds
          ∙ ap (λ us. walked_bits row.Sum b us (values m zeros))
          (first.is m (second.grows.keeps m holds)
          ∙ ap (walked_bits row.Xor c bs) (values_repeated m (length xs) sign
          ∙ ap (λ k. replicate k b) (sym long)))
          ∙ ap (walked_bits row.Sum b (walked_bits row.Xor c bs (replicate (length bs) b)))
          (values_repeated m (length xs) 1
          ∙ ap (λ f. replicate (length xs) f) (literals_have_values.falsehood sum.net m holds)
          ∙ ap (λ k. replicate k false) (sym long)))
          ∙ signed_bits c b bs
          ∙ ap (λ k. signed_number b k (number bs)) long;
    }
