-- What the operators on words mean: the walks of the values of their words.
use Rattle.std.proofs.Common.{◌≡◌, ℕ, zero, suc, ◌+◌, ◌*◌, ◌/◌, ◌%◌, ◌^◌, ◌<◌, Bool, true, false}
use Rattle.std.proofs.Common.{◌-◌, ◌++◌, take, drop}
use Rattle.std.proofs.Common.{not, List, [], ◌∷◌, length, map, replicate, refl, sym, ap, ◌∙◌, arith}
use Rattle.std.specs.Prelude.{◌==◌, nat_le, slice_index_or, if◌then◌else◌}
use Rattle.cpa_ints.specs.declared.integers.IntType.{IntType}
use Rattle.cpa_ints.specs.Integers.{width, is_signed}
use Rattle.std.proofs.lemmas.Bool.{eqb-true, eqb-false}
use Rattle.std.proofs.lemmas.List.{length-map, length-replicate, map-append, take-map, drop-map}
use Rattle.cpa_cnf.specs.Lines.{AreBelow}
use Rattle.cpa_blast_gates.specs.declared.gate.Gate.{Gate}
use Rattle.cpa_blast_gates.specs.Gates.{lit_value}
use Rattle.cpa_blast_gates.specs.Nets.{vars, IsScoped, Holds, Built, built}
use Rattle.cpa_blast_gates.specs.Meanings.{Makes}
use Rattle.cpa_blast_gates.specs.Laws.{literals_have_values, nets_grow}
use Rattle.cpa_blast_words.specs.declared.rows.Row.{Row}
use Rattle.cpa_blast_words.specs.declared.rows.Row.TheVariants as row
use Rattle.cpa_blast_words.specs.Walks.{walk}
use Rattle.cpa_blast_words.specs.Words.{bits_made, carry_made, opposites, falses, and_word, or_word}
use Rattle.cpa_blast_words.specs.Words.{xor_word, choose_word, sum_word, difference_word}
use Rattle.cpa_blast_words.specs.Words.{negated_word}
use Rattle.cpa_blast_words.specs.Words.{less, less_signed, equal, some_bit, flipped_top}
use Rattle.cpa_blast_words.specs.Words.{constant_literal}
use Rattle.cpa_blast_words.specs.Words.{constant_word, resized_word, filling, single, cast_word}
use Rattle.cpa_blast_words.specs.Truths.{bit, values, number, walked_bits, walked_carry}
use Rattle.cpa_blast_words.specs.Truths.{flipped_top_bits, resized_bits}
use Rattle.cpa_blast_words.specs.Types.{filling_bit, cast_bits}
use Rattle.cpa_blast_words.specs.Meanings.{MakesWord}
use Rattle.cpa_blast_words.specs.lemmas.Columns.{opposite_below}
use Rattle.cpa_blast_words.specs.lemmas.WalkMeanings.{walk_is}
use Rattle.cpa_blast_words.specs.lemmas.Numbers.{low_step, falses_number, equal_number}

pub opposites_below : (n : ℕ) (ls : List ℕ) → AreBelow n ls → AreBelow n (opposites ls)
opposites_below n [] below = tt
opposites_below n (l ∷ ls) below = (opposite_below n l below.0, opposites_below n ls below.1)

pub repeated_below : (n k l : ℕ) → l < 2 * n → AreBelow n (replicate k l)
repeated_below n zero l below = tt
repeated_below n (suc k) l below = (below, repeated_below n k l below)

pub never_below : (s : List Gate) → 1 < 2 * vars s
never_below s = omega arith

pub always_below : (s : List Gate) → 0 < 2 * vars s
always_below s = omega arith

pub values_opposites : (m : ℕ → Bool) (ls : List ℕ)
    → values m (opposites ls) ≡ map not (values m ls)
values_opposites m [] = refl
values_opposites m (l ∷ ls) =
    ap (λ b. b ∷ values m (opposites ls)) (literals_have_values.negative m l)
    ∙ ap (λ bs. not (lit_value m l) ∷ bs) (values_opposites m ls)

-- the word with its top literal flipped
top_values : (m : ℕ → Bool) (n : ℕ) (ls : List ℕ)
    → values m (take n ls ++ opposites (drop n ls))
    ≡ take n (values m ls) ++ map not (drop n (values m ls))
top_values m n ls =
    map-append (lit_value m) (take n ls) (opposites (drop n ls))
    ∙ ap (λ bs. bs ++ values m (opposites (drop n ls))) (sym (take-map (lit_value m) n ls))
    ∙ ap (λ bs. take n (values m ls) ++ bs)
    (values_opposites m (drop n ls) ∙ ap (map not) (sym (drop-map (lit_value m) n ls)))

pub values_top : (m : ℕ → Bool) (ls : List ℕ)
    → values m (flipped_top ls) ≡ flipped_top_bits (values m ls)
values_top m ls =
    top_values m (length ls - 1) ls
    ∙ ap (λ n. take (n - 1) (values m ls) ++ map not (drop (n - 1) (values m ls)))
    (sym (length-map ls (lit_value m)))

pub front_below : (n k : ℕ) (ls : List ℕ) → AreBelow n ls → AreBelow n (take k ls)
front_below n zero ls below = tt
front_below n (suc k) [] below = tt
front_below n (suc k) (l ∷ ls) below = (below.0, front_below n k ls below.1)

pub back_below : (n k : ℕ) (ls : List ℕ) → AreBelow n ls → AreBelow n (drop k ls)
back_below n zero ls below = below
back_below n (suc k) [] below = tt
back_below n (suc k) (l ∷ ls) below = back_below n k ls below.1

pub joined_below : (n : ℕ) (ls ks : List ℕ) → AreBelow n ls → AreBelow n ks → AreBelow n (ls ++ ks)
joined_below n [] ks p q = q
joined_below n (l ∷ ls) ks p q = (p.0, joined_below n ls ks p.1 q)

top_below : (n : ℕ) (ls : List ℕ) → AreBelow n ls → AreBelow n (flipped_top ls)
top_below n ls below =
    joined_below n (take (length ls - 1) ls) (opposites (drop (length ls - 1) ls))
    (front_below n (length ls - 1) ls below)
    (opposites_below n (drop (length ls - 1) ls) (back_below n (length ls - 1) ls below))

pub values_repeated : (m : ℕ → Bool) (k l : ℕ)
    → values m (replicate k l) ≡ replicate k (lit_value m l)
values_repeated m zero l = refl
values_repeated m (suc k) l = ap (λ bs. lit_value m l ∷ bs) (values_repeated m k l)

-- the false literals beside a word, and their values
values_falses : (net : List Gate) (m : ℕ → Bool) (xs : List ℕ) → Holds m net
    → values m (falses xs) ≡ replicate (length (values m xs)) false
values_falses net m xs holds =
    values_repeated m (length xs) 1
    ∙ ap (λ b. replicate (length xs) b) (literals_have_values.falsehood net m holds)
    ∙ ap (λ k. replicate k false) (sym (length-map xs (lit_value m)))

module _ (s : List Gate) (scoped : IsScoped s) where
  walked : (r : Row) (c : ℕ) (xs ys : List ℕ) → c < 2 * vars s → AreBelow (vars s) xs
      → AreBelow (vars s) ys → MakesWord s (bits_made (walk r s c xs ys))
      (λ m. walked_bits r (lit_value m c) (values m xs) (values m ys))
  walked r c xs ys below below_xs below_ys =
      let w = walk_is r s c xs ys scoped below below_xs below_ys in
      record { grows = w.grows; below = w.bits_below; is = w.bits }

  carried : (r : Row) (c : ℕ) (xs ys : List ℕ) → c < 2 * vars s → AreBelow (vars s) xs
      → AreBelow (vars s) ys → Makes s (carry_made (walk r s c xs ys))
      (λ m. walked_carry r (lit_value m c) (values m xs) (values m ys))
  carried r c xs ys below below_xs below_ys =
      let w = walk_is r s c xs ys scoped below below_xs below_ys in
      record { grows = w.grows; below = w.carry_below; is = w.carry }

-- a word means the same where its values are the same in each net that holds
word_as : (s : List Gate) (made : Built (List ℕ)) (f g : (ℕ → Bool) → List Bool)
    → MakesWord s made f → ((m : ℕ → Bool) → Holds m made.net → f m ≡ g m) → MakesWord s made g
word_as s made f g word same = record {
  grows = word.grows;
  below = word.below;
  is = λ m holds. word.is m holds ∙ same m holds;
}

literal_as : (s : List Gate) (made : Built ℕ) (f g : (ℕ → Bool) → Bool) → Makes s made f
    → ((m : ℕ → Bool) → Holds m made.net → f m ≡ g m) → Makes s made g
literal_as s made f g makes same = record {
  grows = makes.grows;
  below = makes.below;
  is = λ m holds. makes.is m holds ∙ same m holds;
}

module _ (s : List Gate) (xs ys : List ℕ) (scoped : IsScoped s) (below_xs : AreBelow (vars s) xs)
    (below_ys : AreBelow (vars s) ys) where
  pub and_word_is : MakesWord s (and_word s xs ys)
      (λ m. walked_bits row.And (lit_value m 1) (values m xs) (values m ys))
  unfolding and_word
  and_word_is = walked s scoped row.And 1 xs ys (never_below s) below_xs below_ys

  pub or_word_is : MakesWord s (or_word s xs ys)
      (λ m. walked_bits row.Or (lit_value m 1) (values m xs) (values m ys))
  unfolding or_word
  or_word_is = walked s scoped row.Or 1 xs ys (never_below s) below_xs below_ys

  pub xor_word_is : MakesWord s (xor_word s xs ys)
      (λ m. walked_bits row.Xor (lit_value m 1) (values m xs) (values m ys))
  unfolding xor_word
  xor_word_is = walked s scoped row.Xor 1 xs ys (never_below s) below_xs below_ys

  pub choose_word_is : (test : ℕ) → test < 2 * vars s → MakesWord s (choose_word s test xs ys)
      (λ m. walked_bits row.Choose (lit_value m test) (values m xs) (values m ys))
  unfolding choose_word
  choose_word_is test below = walked s scoped row.Choose test xs ys below below_xs below_ys

  pub sum_word_is : (c : ℕ) → c < 2 * vars s → MakesWord s (sum_word s c xs ys)
      (λ m. walked_bits row.Sum (lit_value m c) (values m xs) (values m ys))
  unfolding sum_word
  sum_word_is c below = walked s scoped row.Sum c xs ys below below_xs below_ys

  pub less_is : Makes s (less s xs ys)
      (λ m. walked_carry row.Less false (values m xs) (values m ys))
  unfolding less
  less_is =
      literal_as s (carry_made (walk row.Less s 1 xs ys)) _ _
      (carried s scoped row.Less 1 xs ys (never_below s) below_xs below_ys)
      (λ m holds. ap (λ c. walked_carry row.Less c (values m xs) (values m ys))
      (literals_have_values.falsehood (walk row.Less s 1 xs ys).net m holds))

  pub equal_is : Makes s (equal s xs ys)
      (λ m. walked_carry row.Equal true (values m xs) (values m ys))
  unfolding equal
  equal_is =
      literal_as s (carry_made (walk row.Equal s 0 xs ys)) _ _
      (carried s scoped row.Equal 0 xs ys (always_below s) below_xs below_ys)
      (λ m holds. ap (λ c. walked_carry row.Equal c (values m xs) (values m ys))
      (literals_have_values.truth (walk row.Equal s 0 xs ys).net m holds))

pub difference_word_is : (s : List Gate) (xs ys : List ℕ) → IsScoped s → AreBelow (vars s) xs
    → AreBelow (vars s) ys → MakesWord s (difference_word s xs ys)
    (λ m. walked_bits row.Sum true (values m xs) (map not (values m ys)))
unfolding difference_word
difference_word_is s xs ys scoped p q =
    word_as s (sum_word s 0 xs (opposites ys)) _ _
    (sum_word_is s xs (opposites ys) scoped p (opposites_below (vars s) ys q) 0 (always_below s))
    (λ m holds.
    ap (λ c. walked_bits row.Sum c (values m xs) (values m (opposites ys)))
    (literals_have_values.truth (sum_word s 0 xs (opposites ys)).net m holds)
    ∙ ap (λ zs. walked_bits row.Sum true (values m xs) zs) (values_opposites m ys))

pub negated_word_is : (s : List Gate) (xs : List ℕ) → IsScoped s → AreBelow (vars s) xs
    → MakesWord s (negated_word s xs) (λ m. walked_bits row.Sum true (map not (values m xs))
    (replicate (length (values m xs)) false))
unfolding negated_word
negated_word_is s xs scoped p =
    let net = (sum_word s 0 (opposites xs) (falses xs)).net in
    word_as s (sum_word s 0 (opposites xs) (falses xs)) _ _
    (sum_word_is s (opposites xs) (falses xs) scoped (opposites_below (vars s) xs p)
    (repeated_below (vars s) (length xs) 1 (never_below s)) 0 (always_below s))
    (λ m holds.
    ap (λ c. walked_bits row.Sum c (values m (opposites xs)) (values m (falses xs)))
    (literals_have_values.truth net m holds)
    ∙ ap (λ zs. walked_bits row.Sum true zs (values m (falses xs))) (values_opposites m xs)
    ∙ ap (λ zs. walked_bits row.Sum true (map not (values m xs)) zs)
    (values_falses net m xs holds))

pub less_signed_is : (s : List Gate) (xs ys : List ℕ) → IsScoped s → AreBelow (vars s) xs
    → AreBelow (vars s) ys → Makes s (less_signed s xs ys)
    (λ m. walked_carry row.Less false (flipped_top_bits (values m xs))
    (flipped_top_bits (values m ys)))
unfolding less_signed
less_signed_is s xs ys scoped p q =
    literal_as s (less s (flipped_top xs) (flipped_top ys)) _ _
    (less_is s (flipped_top xs) (flipped_top ys) scoped (top_below (vars s) xs p)
    (top_below (vars s) ys q))
    (λ m holds.
    ap (λ bs. walked_carry row.Less false bs (values m (flipped_top ys))) (values_top m xs)
    ∙ ap (λ bs. walked_carry row.Less false (flipped_top_bits (values m xs)) bs)
    (values_top m ys))

-- some bit is true where the number is not 0
none_is : (bs : List Bool) → walked_carry row.Equal true bs (replicate (length bs) false)
    ≡ (number bs == 0)
none_is bs =
    equal_number true bs (replicate (length bs) false) (sym (length-replicate (length bs) false))
    ∙ ap (λ n. number bs == n) (falses_number (length bs))

pub some_bit_is : (s : List Gate) (xs : List ℕ) → IsScoped s → AreBelow (vars s) xs
    → Makes s (some_bit s xs) (λ m. not (number (values m xs) == 0))
unfolding some_bit
some_bit_is s xs scoped p =
    let none = equal_is s xs (falses xs) scoped p
    (repeated_below (vars s) (length xs) 1 (never_below s)) in
    let net = (equal s xs (falses xs)).net in
    record {
      grows = none.grows;
      below = opposite_below (vars net) (equal s xs (falses xs)).value none.below;
      is = λ m holds.
          literals_have_values.negative m (equal s xs (falses xs)).value
          ∙ ap not (none.is m holds
          ∙ ap (λ zs. walked_carry row.Equal true (values m xs) zs) (values_falses net m xs holds)
          ∙ none_is (values m xs));
    }

-- the values of a resized word
values_resized : (m : ℕ → Bool) (w f : ℕ) (xs : List ℕ)
    → values m (resized_word w f xs) ≡ resized_bits w (lit_value m f) (values m xs)
values_resized m w f xs =
    by (nat_le w (length xs))
    ∙ ap (λ k. if nat_le w k then take w (values m xs)
    else values m xs ++ replicate (w - k) (lit_value m f)) (sym (length-map xs (lit_value m)))
  where
    by : (b : Bool) → values m (if b then take w xs else xs ++ replicate (w - length xs) f)
        ≡ (if b then take w (values m xs)
        else values m xs ++ replicate (w - length xs) (lit_value m f))
    by true = sym (take-map (lit_value m) w xs)
    by false =
        map-append (lit_value m) xs (replicate (w - length xs) f)
        ∙ ap (λ bs. values m xs ++ bs) (values_repeated m (w - length xs) f)

value_at : (m : ℕ → Bool) (xs : List ℕ) (i : ℕ)
    → lit_value m (slice_index_or xs i 1) ≡ slice_index_or (values m xs) i (lit_value m 1)
value_at m [] i = refl
value_at m (x ∷ xs) zero = refl
value_at m (x ∷ xs) (suc i) = value_at m xs i

pub values_filling : (net : List Gate) (m : ℕ → Bool) (t : IntType) (xs : List ℕ) → Holds m net
    → lit_value m (filling t xs) ≡ filling_bit t (values m xs)
values_filling net m t xs holds = by (is_signed t)
  where
    by : (b : Bool) → lit_value m (if b then slice_index_or xs (length xs - 1) 1 else 1)
        ≡ (if b then slice_index_or (values m xs) (length (values m xs) - 1) false else false)
    by true =
        value_at m xs (length xs - 1)
        ∙ ap (λ b. slice_index_or (values m xs) (length xs - 1) b)
        (literals_have_values.falsehood net m holds)
        ∙ ap (λ k. slice_index_or (values m xs) (k - 1) false) (sym (length-map xs (lit_value m)))
    by false = literals_have_values.falsehood net m holds

item_below : (n i : ℕ) (xs : List ℕ) → 1 < 2 * n → AreBelow n xs → slice_index_or xs i 1 < 2 * n
item_below n i [] one below = one
item_below n zero (x ∷ xs) one below = below.0
item_below n (suc i) (x ∷ xs) one below = item_below n i xs one below.1

pub filling_below : (n : ℕ) (t : IntType) (xs : List ℕ) → 1 < 2 * n → AreBelow n xs
    → filling t xs < 2 * n
filling_below n t xs one below = by (is_signed t)
  where
    by : (b : Bool) → (if b then slice_index_or xs (length xs - 1) 1 else 1) < 2 * n
    by true = item_below n (length xs - 1) xs one below
    by false = one

resized_below : (n w f : ℕ) (xs : List ℕ) → f < 2 * n → AreBelow n xs
    → AreBelow n (resized_word w f xs)
resized_below n w f xs one below = by (nat_le w (length xs))
  where
    by : (b : Bool) → AreBelow n (if b then take w xs else xs ++ replicate (w - length xs) f)
    by true = front_below n w xs below
    by false =
        joined_below n xs (replicate (w - length xs) f) below
        (repeated_below n (w - length xs) f one)

pub cast_word_is : (s : List Gate) (from onto : IntType) (xs : List ℕ) → IsScoped s
    → AreBelow (vars s) xs
    → MakesWord s (cast_word from onto s xs) (λ m. cast_bits from onto (values m xs))
unfolding cast_word
cast_word_is s from onto xs scoped below = by (width onto == 1)
  where
    by : (b : Bool) → MakesWord s
        (if b then single (some_bit s xs)
        else built s (resized_word (width onto) (filling from xs) xs))
        (λ m. if b then not (number (values m xs) == 0) ∷ []
        else resized_bits (width onto) (filling_bit from (values m xs)) (values m xs))
    by true =
        let made = some_bit_is s xs scoped below in
        record {
          grows = made.grows;
          below = (made.below, tt);
          is = λ m holds. ap (λ b. b ∷ []) (made.is m holds);
        }
    by false = record {
      grows = nets_grow.stays s scoped;
      below = resized_below (vars s) (width onto) (filling from xs) xs
          (filling_below (vars s) from xs (never_below s) below) below;
      is = λ m holds.
          values_resized m (width onto) (filling from xs) xs
          ∙ ap (λ b. resized_bits (width onto) b (values m xs)) (values_filling s m from xs holds);
    }

-- the word of a number stands for its low bits
constant_bit : (net : List Gate) (m : ℕ → Bool) (b : Bool) → Holds m net
    → lit_value m (constant_literal b) ≡ b
constant_bit net m true holds = literals_have_values.truth net m holds
constant_bit net m false holds = literals_have_values.falsehood net m holds

bit_of : (b : Bool) (k : ℕ) → (b ≡ true → k ≡ 1) → (b ≡ false → k ≡ 0) → bit b ≡ k
bit_of true k f g = sym (f refl)
bit_of false k f g = sym (g refl)

low_bit : (n : ℕ) → bit (n % 2 == 1) ≡ n % 2
low_bit n =
    bit_of (n % 2 == 1) (n % 2) (λ e. eqb-true (n % 2) 1 e)
    (λ e. zero_then n (eqb-false (n % 2) 1 e))
  where
    zero_then : (n : ℕ) → (n % 2 ≡ 1 → ⊥) → n % 2 ≡ 0
    zero_then n h = omega arith

pub constant_number : (net : List Gate) (m : ℕ → Bool) (width n : ℕ) → Holds m net
    → number (values m (constant_word width n)) ≡ n % 2 ^ width
constant_number net m zero n holds = omega arith
constant_number net m (suc width) n holds =
    ap (λ b. bit b + 2 * number (values m (constant_word width (n / 2))))
    (constant_bit net m (n % 2 == 1) holds)
    ∙ ap (λ k. bit (n % 2 == 1) + 2 * k) (constant_number net m width (n / 2) holds)
    ∙ low_step (n % 2 == 1) (n / 2) width
    ∙ ap (λ k. k % 2 ^ suc width) (whole n (bit (n % 2 == 1)) (low_bit n))
  where
    whole : (n b : ℕ) → b ≡ n % 2 → b + 2 * (n / 2) ≡ n
    whole n b e = omega arith
