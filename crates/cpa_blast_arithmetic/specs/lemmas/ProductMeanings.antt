-- A product of words stands for the product of their numbers: each row adds a bit of the second
-- word times the first one, and what is left of the result is one place shorter.
use Rattle.std.proofs.Common.{◌≡◌, ℕ, suc, ◌+◌, ◌-◌, ◌*◌, ◌/◌, ◌%◌, ◌^◌, ◌<◌, Bool, true}
use Rattle.std.proofs.Common.{false, ◌&&◌, List, [], ◌∷◌, length, take, replicate, refl, sym}
use Rattle.std.proofs.Common.{ap}
use Rattle.std.proofs.Common.{◌∙◌, arith}
use Rattle.std.proofs.Math.Nat.{pow-suc, mul_assoc, mul_comm, mul-add, add-mul-mod_self_left}
use Rattle.std.proofs.lemmas.List.{length-map, length-replicate, length-take-le, take-map}
use native.Mathlib.Nat.{div-add-mod'}
use Rattle.cpa_cnf.specs.Lines.{AreBelow}
use Rattle.cpa_blast_gates.specs.declared.gate.Gate.{Gate}
use Rattle.cpa_blast_gates.specs.Gates.{lit_value}
use Rattle.cpa_blast_gates.specs.Nets.{vars, IsScoped, Holds, Built}
use Rattle.cpa_blast_gates.specs.Meanings.{Grows}
use Rattle.cpa_blast_gates.specs.Laws.{nets_grow, literals_have_values}
use Rattle.cpa_blast_words.specs.declared.rows.Row.TheVariants as row
use Rattle.cpa_blast_words.specs.Words.{sum_word}
use Rattle.cpa_blast_words.specs.Truths.{bit, values, number, walked_bits}
use Rattle.cpa_blast_words.specs.Laws.{words_mean_their_operators, words_are_numbers}
use Rattle.cpa_blast_words.specs.Laws.{words_are_long}
use Rattle.cpa_blast_words.specs.Laws.{sums_are_sums}
use Rattle.cpa_blast_words.specs.Values.{MakesNumber}
use Rattle.cpa_blast_words.specs.lemmas.Columns.{still_below}
use Rattle.cpa_blast_words.specs.lemmas.WalkMeanings.{all_still_below}
use Rattle.cpa_blast_words.specs.lemmas.Numbers.{low_step}
use Rattle.cpa_blast_words.specs.lemmas.WordMeanings.{values_repeated, repeated_below, front_below}
use Rattle.cpa_blast_words.specs.lemmas.WordMeanings.{never_below}
use Rattle.cpa_blast_arithmetic.specs.Products.{masked_word, added_word, front, product}

-- ---- one row: a word masked by a literal

masked_bits : (c b : Bool) (bs : List Bool)
    → number (walked_bits row.And c bs (replicate (length bs) b)) ≡ bit b * number bs
masked_bits c true [] = refl
masked_bits c false [] = refl
masked_bits c true (x ∷ bs) =
    kept x (number (walked_bits row.And c bs (replicate (length bs) true))) (number bs)
    (masked_bits c true bs)
  where
    kept : (x : Bool) (n k : ℕ) → n ≡ 1 * k → bit (x && true) + 2 * n ≡ 1 * (bit x + 2 * k)
    kept true n k e = omega arith
    kept false n k e = omega arith
masked_bits c false (x ∷ bs) =
    gone x (number (walked_bits row.And c bs (replicate (length bs) false))) (number bs)
    (masked_bits c false bs)
  where
    gone : (x : Bool) (n k : ℕ) → n ≡ 0 * k → bit (x && false) + 2 * n ≡ 0 * (bit x + 2 * k)
    gone true n k e = omega arith
    gone false n k e = omega arith

masked_is : (s : List Gate) (y : ℕ) (xs : List ℕ) → IsScoped s → y < 2 * vars s
    → AreBelow (vars s) xs → MakesNumber s (masked_word s y xs) (length xs)
    (λ m. bit (lit_value m y) * number (values m xs))
unfolding masked_word
masked_is s y xs scoped p q =
    let mask = replicate (length xs) y in
    let made = words_mean_their_operators.conjunction s xs mask scoped q
    (repeated_below (vars s) (length xs) y p) in
    record {
      grows = made.grows;
      below = made.below;
      long = words_are_long.conjunction s xs mask (sym (length-replicate (length xs) y));
      is = λ m holds.
          ap number (made.is m holds)
          ∙ ap (λ bs. number (walked_bits row.And (lit_value m 1) (values m xs) bs))
          (values_repeated m (length xs) y
          ∙ ap (λ k. replicate k (lit_value m y)) (sym (length-map xs (lit_value m))))
          ∙ masked_bits (lit_value m 1) (lit_value m y) (values m xs);
    }

-- ---- a row and a word one place higher

added_is : (s : List Gate) (low : ℕ) (rest above : List ℕ) → IsScoped s
    → AreBelow (vars s) (low ∷ rest) → AreBelow (vars s) above → length rest ≡ length above
    → MakesNumber s (added_word s (low ∷ rest) above) (suc (length rest))
    (λ m. (number (values m (low ∷ rest)) + 2 * number (values m above)) % 2 ^ suc (length rest))
unfolding added_word
added_is s low rest above scoped p q e =
    let made = words_mean_their_operators.sum s rest above scoped p.1 q 1 (never_below s) in
    let net = (sum_word s 1 rest above).net in
    record {
      grows = made.grows;
      below = (still_below s net low made.grows p.0, made.below);
      long = ap suc (words_are_long.sum 1 s rest above e);
      is = λ m holds.
          let ns = values m rest in
          let hs = values m above in
          let alike : length ns ≡ length hs =
          length-map rest (lit_value m) ∙ e ∙ sym (length-map above (lit_value m)) in
          ap (λ bs. bit (lit_value m low) + 2 * number bs) (made.is m holds
          ∙ ap (λ c. walked_bits row.Sum c ns hs) (literals_have_values.falsehood net m holds))
          ∙ ap (λ k. bit (lit_value m low) + 2 * k) (sums_are_sums.sum false ns hs alike
          ∙ ap (λ k. (number ns + number hs + bit false) % 2 ^ k) (length-map rest (lit_value m)))
          ∙ low_step (lit_value m low) (number ns + number hs + bit false) (length rest)
          ∙ ap (λ k. k % 2 ^ suc (length rest))
          (spread (bit (lit_value m low)) (number ns) (number hs));
    }
  where
    spread : (b n a : ℕ) → b + 2 * (n + a + bit false) ≡ (b + 2 * n) + 2 * a
    spread b n a = omega arith

-- ---- the arithmetic of one row, modulo twice the power of what stands above

same_rest : (q k a b : ℕ) → b ≡ a + q * k → a % q ≡ b % q
same_rest q k a b e = sym (ap (λ n. n % q) e ∙ add-mul-mod_self_left a q k)

doubled : (X Y : ℕ) → X * (2 * Y) ≡ 2 * (X * Y)
doubled X Y = sym (mul_assoc X 2 Y) ∙ ap (λ k. k * Y) (mul_comm X 2) ∙ mul_assoc 2 X Y

split : (X x Y w p A u : ℕ) → X ≡ w * p + x → x * Y ≡ u * p + A
    → X * Y ≡ w * p * Y + (u * p + A)
split X x Y w p A u e f =
    ap (λ k. k * Y) e ∙ mul_comm (w * p + x) Y ∙ mul-add Y (w * p) x
    ∙ ap (λ k. k + Y * x) (mul_comm Y (w * p)) ∙ ap (λ k. w * p * Y + k) (mul_comm Y x ∙ f)

times : (q p u : ℕ) → q ≡ 2 * p → q * u ≡ 2 * (u * p)
times q p u twice =
    ap (λ k. k * u) twice ∙ mul_assoc 2 p u ∙ ap (λ k. 2 * k) (mul_comm p u)

others : (q p w Y : ℕ) → q ≡ 2 * p → q * (w * Y) ≡ 2 * (w * p * Y)
others q p w Y twice =
    ap (λ k. k * (w * Y)) twice ∙ mul_assoc 2 p (w * Y)
    ∙ ap (λ k. 2 * k) (sym (mul_assoc p w Y) ∙ ap (λ k. k * Y) (mul_comm p w))

gather : (bX A a c qu qw all : ℕ) → qu ≡ 2 * c → qw ≡ 2 * a → all ≡ qu + qw
    → bX + 2 * (a + (c + A)) ≡ (bX + 2 * A) + all
gather bX A a c qu qw all e f g = omega arith

whole : (b X x Y A u w p q : ℕ) → q ≡ 2 * p → x * Y ≡ u * p + A → X ≡ w * p + x
    → X * (b + 2 * Y) ≡ (b * X + 2 * A) + q * (u + w * Y)
whole b X x Y A u w p q twice z parts =
    mul-add X b (2 * Y)
    ∙ ap (λ k. k + X * (2 * Y)) (mul_comm X b)
    ∙ ap (λ k. b * X + k) (doubled X Y ∙ ap (λ k. 2 * k) (split X x Y w p A u parts z))
    ∙ gather (b * X) A (w * p * Y) (u * p) (q * u) (q * (w * Y)) (q * (u + w * Y))
    (times q p u twice) (others q p w Y twice) (mul-add q u (w * Y))

-- X is the first word, x what is left of it one place higher, b the bit and Y the other bits
row_step : (p q b X x Y : ℕ) → q ≡ 2 * p → x ≡ X % p
    → (b * X + 2 * ((x * Y) % p)) % q ≡ (X * (b + 2 * Y)) % q
row_step p q b X x Y twice part =
    same_rest q ((x * Y) / p + X / p * Y) (b * X + 2 * ((x * Y) % p)) (X * (b + 2 * Y))
    (whole b X x Y ((x * Y) % p) ((x * Y) / p) (X / p) p q twice (sym (div-add-mod' (x * Y) p))
    (sym (div-add-mod' X p) ∙ ap (λ z. X / p * p + z) (sym part)))

-- ---- the product

next_power : (n : ℕ) → 2 ^ suc n ≡ 2 * 2 ^ n
next_power n = omega (arith, pow-suc 2 n)

-- the number of all bits but the top one
front_number : (m : ℕ → Bool) (xs : List ℕ) (n : ℕ) → length xs ≡ suc n
    → number (values m (front xs)) ≡ number (values m xs) % 2 ^ n
front_number m xs n e =
    ap (λ k. number (values m (take k xs))) (less_one (length xs) n e)
    ∙ ap number (sym (take-map (lit_value m) n xs)) ∙ words_are_numbers.low n (values m xs)
  where
    less_one : (k n : ℕ) → k ≡ suc n → k - 1 ≡ n
    less_one k n e = omega arith

-- one row on what stands above
row_is : (s : List Gate) (xs : List ℕ) (y : ℕ) (above : Built (List ℕ)) (n : ℕ)
    (A : (ℕ → Bool) → ℕ) → length xs ≡ suc n → y < 2 * vars s → AreBelow (vars s) xs
    → MakesNumber s above n A
    → MakesNumber s
    (added_word (masked_word above.net y xs).net (masked_word above.net y xs).value above.value)
    (suc n) (λ m. (bit (lit_value m y) * number (values m xs) + 2 * A m) % 2 ^ suc n)
row_is s xs y above n A e below_y below_xs up =
    let row = masked_word above.net y xs in
    let made = masked_is above.net y xs up.grows.scoped (still_below s above.net y up.grows below_y)
    (all_still_below s above.net xs up.grows below_xs) in
    let two = nets_grow.on s above.net row.net up.grows made.grows in
    added row.value made.below (made.long ∙ e) (λ m holds. made.is m holds)
    (all_still_below above.net row.net above.value made.grows up.below) made.grows two
  where
    one_less : (k n : ℕ) → suc k ≡ suc n → k ≡ n
    one_less k n e = omega arith

    added : (ls : List ℕ) → AreBelow (vars (masked_word above.net y xs).net) ls → length ls ≡ suc n
        → ((m : ℕ → Bool) → Holds m (masked_word above.net y xs).net
        → number (values m ls) ≡ bit (lit_value m y) * number (values m xs))
        → AreBelow (vars (masked_word above.net y xs).net) above.value
        → Grows above.net (masked_word above.net y xs).net
        → Grows s (masked_word above.net y xs).net
        → MakesNumber s (added_word (masked_word above.net y xs).net ls above.value) (suc n)
        (λ m. (bit (lit_value m y) * number (values m xs) + 2 * A m) % 2 ^ suc n)
    added [] below long is above_below grown two = absurd (omega arith)
    added (low ∷ rest) below long is above_below grown two =
        let net = (masked_word above.net y xs).net in
        let short : length rest ≡ n = one_less (length rest) n long in
        let sum = added_is net low rest above.value two.scoped below above_below
        (short ∙ sym up.long) in
        record {
          grows = nets_grow.on s net (added_word net (low ∷ rest) above.value).net two sum.grows;
          below = sum.below;
          long = sum.long ∙ ap suc short;
          is = λ m holds.
              let before = sum.grows.keeps m holds in
              sum.is m holds
              ∙ ap (λ k. (k + 2 * number (values m above.value)) % 2 ^ suc (length rest))
              (is m before)
              ∙ ap (λ k. (bit (lit_value m y) * number (values m xs) + 2 * k)
              % 2 ^ suc (length rest)) (up.is m (grown.keeps m before))
              ∙ ap (λ k. (bit (lit_value m y) * number (values m xs) + 2 * A m) % 2 ^ suc k) short;
        }

number_as : (s : List Gate) (made : Built (List ℕ)) (n k : ℕ) (f g : (ℕ → Bool) → ℕ)
    → MakesNumber s made n f → n ≡ k → ((m : ℕ → Bool) → f m ≡ g m) → MakesNumber s made k g
number_as s made n k f g word e same = record {
  grows = word.grows;
  below = word.below;
  long = word.long ∙ e;
  is = λ m holds. word.is m holds ∙ same m;
}

pub product_is : (s : List Gate) (xs ys : List ℕ) → IsScoped s → AreBelow (vars s) xs
    → AreBelow (vars s) ys → length xs ≡ length ys → MakesNumber s (product s xs ys) (length xs)
    (λ m. (number (values m xs) * number (values m ys)) % 2 ^ length xs)
unfolding product
product_is s [] [] scoped p q e = record {
  grows = nets_grow.stays s scoped;
  below = tt;
  long = refl;
  is = λ m holds. refl;
}
product_is s (x ∷ xs) [] scoped p q e = absurd (omega arith)
product_is s [] (y ∷ ys) scoped p q e = absurd (omega arith)
product_is s (x ∷ xs) (y ∷ ys) scoped p q e =
    let all = x ∷ xs in
    let n = length ys in
    let shorter : length (front all) ≡ n = short_front all n e in
    let up = product_is s (front all) ys scoped (front_below (vars s) (length all - 1) all p) q.1
    shorter in
    number_as s _ (suc n) (length all) _ _
    (row_is s all y (product s (front all) ys) n
    (λ m. (number (values m (front all)) * number (values m ys)) % 2 ^ n) e q.0 p
    (number_as s (product s (front all) ys) (length (front all)) n _ _ up shorter
    (λ m. ap (λ k. (number (values m (front all)) * number (values m ys)) % 2 ^ k) shorter)))
    (sym e)
    (λ m. row_step (2 ^ n) (2 ^ suc n) (bit (lit_value m y)) (number (values m all))
    (number (values m (front all))) (number (values m ys)) (next_power n)
    (front_number m all n e)
    ∙ ap (λ k. (number (values m all) * number (values m (y ∷ ys))) % 2 ^ k) (sym e))
  where
    less : (k n : ℕ) → k ≡ suc n → k - 1 ≡ n
    less k n e = omega arith

    short_front : (ls : List ℕ) (n : ℕ) → length ls ≡ suc n → length (take (length ls - 1) ls) ≡ n
    short_front ls n e =
        length-take-le (length ls - 1) ls (omega arith) ∙ less (length ls) n e
