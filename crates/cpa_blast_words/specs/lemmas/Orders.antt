-- A word is less where its number is: natural numbers by borrow, and two's complement after the top
-- bits are flipped, which adds half of the range to the number.
use Rattle.std.proofs.Common.{◌≡◌, ℕ, zero, suc, ◌+◌, ◌-◌, ◌*◌, ◌^◌, ◌<◌, Bool, true, false}
use Rattle.std.proofs.Common.{not}
use Rattle.std.proofs.Common.{List, [], ◌∷◌, ◌++◌, length, map, take, drop, refl, sym, ap, subst}
use Rattle.std.proofs.Common.{◌∙◌}
use Rattle.std.proofs.Common.{arith, ℤ, pos, negsuc, neg_ℤ, ◌+ℤ◌, ◌≤ℤ◌, int_lt}
use Rattle.std.specs.Prelude.{nat_lt, slice_index_or, if◌then◌else◌}
use Rattle.std.proofs.Common.{get_or}
use Rattle.std.proofs.lemmas.Int.{ints}
use Rattle.std.proofs.lemmas.Bool.{lt-ltb, le-ltb}
use Rattle.std.proofs.lemmas.List.{length-take-le, length-append, length-drop, length-map}
use Rattle.std.proofs.lemmas.List.{take-append-drop}
use Rattle.cpa_ints.specs.declared.integers.IntType.{IntType}
use Rattle.cpa_ints.specs.declared.integers.IntType.TheVariants as ty
use Rattle.cpa_ints.specs.Integers.{width, is_signed, IsInRange}
use Rattle.cpa_ints.specs.lemmas.Congruence.{Same, Same-refl, Same-sym, Same-trans, Same-add}
use Rattle.cpa_ints.specs.lemmas.Congruence.{Same-unique}
use Rattle.cpa_blast_words.specs.declared.rows.Row.TheVariants as row
use Rattle.cpa_blast_words.specs.Truths.{bit, number, walked_carry, flipped_top_bits}
use Rattle.cpa_blast_words.specs.Types.{StandsFor, WordsCompare}
use Rattle.cpa_blast_words.specs.lemmas.Numbers.{number_below, number_append, same_lt, less_number}
use Rattle.cpa_blast_words.specs.lemmas.AtTypes.{near}

-- numbers moved up alike compare alike
moved_lt : (a b : ℤ) (h x y : ℕ) → pos x ≡ a +ℤ pos h → pos y ≡ b +ℤ pos h
    → nat_lt x y ≡ int_lt a b
moved_lt (pos a) (pos b) h x y e f =
    same_lt x y a b (λ l. omega (arith, ints)) (λ l. omega (arith, ints))
moved_lt (pos a) (negsuc b) h x y e f = le-ltb x y (omega (arith, ints))
moved_lt (negsuc a) (pos b) h x y e f = lt-ltb x y (omega (arith, ints))
moved_lt (negsuc a) (negsuc b) h x y e f =
    same_lt x y b a (λ l. omega (arith, ints)) (λ l. omega (arith, ints))

-- the low bits of a word, and its top one
pub record HasTop (k : ℕ) (bs : List Bool) : Type 0 where
  pub low : ℕ
  pub top : Bool
  pub below : low < 2 ^ k
  pub whole : number bs ≡ low + 2 ^ k * bit top
  pub flipped : number (flipped_top_bits bs) ≡ low + 2 ^ k * bit (not top)
  pub at : slice_index_or bs (length bs - 1) false ≡ top

-- what lies at place k of a word of k + 1 bits
pub record IsLast (k : ℕ) (bs : List Bool) (b : Bool) : Type 0 where
  pub behind : drop k bs ≡ b ∷ []
  pub at : get_or bs k false ≡ b

last_one : (k : ℕ) (bs : List Bool) → length bs ≡ suc k → (b : Bool) × IsLast k bs b
last_one k [] e = absurd (omega arith)
last_one zero (b ∷ []) e = (b, record { behind = refl; at = refl })
last_one zero (b ∷ c ∷ bs) e = absurd (omega arith)
last_one (suc k) (b ∷ bs) e =
    let rest = last_one k bs (omega arith) in
    (rest.0, record { behind = rest.1.behind; at = rest.1.at })

one_bit : (low p : ℕ) (b : Bool) → low + p * number (b ∷ []) ≡ low + p * bit b
one_bit low p b = ap (λ k. low + p * k) (single (bit b))
  where
    single : (k : ℕ) → k + 2 * 0 ≡ k
    single k = omega arith

pub has_top : (k : ℕ) (bs : List Bool) → length bs ≡ suc k → HasTop k bs
has_top k bs e =
    let front = take k bs in
    let last = last_one k bs e in
    let long : length front ≡ k = length-take-le k bs (omega arith) in
    let parts = λ (back : List Bool) (b : Bool) (is : back ≡ b ∷ []).
    number_append front back ∙ ap (λ n. number front + 2 ^ n * number back) long
    ∙ ap (λ z. number front + 2 ^ k * number z) is ∙ one_bit (number front) (2 ^ k) b in
    record {
      low = number front;
      top = last.0;
      below = subst (λ n. number front < 2 ^ n) long (number_below front);
      whole = ap number (sym (take-append-drop k bs)) ∙ parts (drop k bs) last.0 last.1.behind;
      flipped = ap (λ n. number (take n bs ++ map not (drop n bs))) (less_one (length bs) k e)
          ∙ parts (map not (drop k bs)) (not last.0) (ap (map not) last.1.behind);
      at = ap (λ n. get_or bs n false) (less_one (length bs) k e) ∙ last.1.at;
    }
  where
    less_one : (n k : ℕ) → n ≡ suc k → n - 1 ≡ k
    less_one n k e = omega arith

flipped_long : (bs : List Bool) → length (flipped_top_bits bs) ≡ length bs
flipped_long bs =
    let n = length bs - 1 in
    let front = length-take-le n bs (omega arith) in
    omega (
      arith,
      length-append (take n bs) (map not (drop n bs)),
      length-map (drop n bs) not,
      length-drop n bs,
    )

flipped_same : (top : Bool) (p h low n f : ℕ) → p ≡ 2 * h → n ≡ low + h * bit top
    → f ≡ low + h * bit (not top) → Same p (pos n +ℤ pos h) (pos f)
flipped_same true p h low n f e whole flipped = record { j = 0; k = 1; same = omega (arith, ints) }
flipped_same false p h low n f e whole flipped = record { j = 0; k = 0; same = omega (arith, ints) }

pub width_positive : (t : IntType) → width t ≡ suc (width t - 1)
width_positive ty.Bool = refl
width_positive ty.I8 = refl
width_positive ty.U8 = refl
width_positive ty.I16 = refl
width_positive ty.U16 = refl
width_positive ty.I32 = refl
width_positive ty.U32 = refl
width_positive ty.I64 = refl
width_positive ty.U64 = refl

pub halves : (t : IntType) → 2 ^ width t ≡ 2 * 2 ^ (width t - 1)
halves ty.Bool = refl
halves ty.I8 = refl
halves ty.U8 = refl
halves ty.I16 = refl
halves ty.U16 = refl
halves ty.I32 = refl
halves ty.U32 = refl
halves ty.I64 = refl
halves ty.U64 = refl

pub signed_range : (t : IntType) (a : ℤ) → is_signed t ≡ true → IsInRange t a
    → (neg_ℤ (pos (2 ^ (width t - 1))) ≤ℤ a) × (a ≤ℤ pos (2 ^ (width t - 1) - 1))
signed_range t a e r =
    subst (λ s. ((if s then neg_ℤ (pos (2 ^ (width t - 1))) else pos 0) ≤ℤ a)
    × (a ≤ℤ (if s then pos (2 ^ (width t - 1) - 1) else pos (2 ^ width t - 1)))) e r

pub unsigned_range : (t : IntType) (a : ℤ) → is_signed t ≡ false → IsInRange t a
    → (pos 0 ≤ℤ a) × (a ≤ℤ pos (2 ^ width t - 1))
unsigned_range t a e r =
    subst (λ s. ((if s then neg_ℤ (pos (2 ^ (width t - 1))) else pos 0) ≤ℤ a)
    × (a ≤ℤ (if s then pos (2 ^ (width t - 1) - 1) else pos (2 ^ width t - 1)))) e r

no_less : (xs ys : List Bool) → length xs ≡ length ys
    → walked_carry row.Less false xs ys ≡ nat_lt (number xs) (number ys)
no_less xs ys e =
    less_number false xs ys e ∙ ap (λ n. nat_lt (number xs) n) (nothing (number ys))
  where
    nothing : (n : ℕ) → n + bit false ≡ n
    nothing n = omega arith

module _ (t : IntType) where
  pub own : (bs : List Bool) (a : ℤ) → is_signed t ≡ false → IsInRange t a → StandsFor t bs a
      → pos (number bs) ≡ a +ℤ pos 0
  own bs a e r s =
      let p = 2 ^ width t in
      let range = unsigned_range t a e r in
      let low = range.0 in
      let high = range.1 in
      let below : number bs < p = subst (λ n. number bs < 2 ^ n) s.long (number_below bs) in
      let same = Same-sym p a (pos (number bs)) (near t bs a s) in
      let is = Same-unique p (pos 0) (pos (number bs)) a (omega (arith, ints)) (omega (arith, ints))
      (omega (arith, ints)) (omega (arith, ints)) same in
      is ∙ plus_zero a
    where
      plus_zero : (a : ℤ) → a ≡ a +ℤ pos 0
      plus_zero a = omega (arith, ints)

  pub moved : (bs : List Bool) (a : ℤ) → is_signed t ≡ true → IsInRange t a → StandsFor t bs a
      → pos (number (flipped_top_bits bs)) ≡ a +ℤ pos (2 ^ (width t - 1))
  moved bs a e r s =
      let p = 2 ^ width t in
      let h = 2 ^ (width t - 1) in
      let f = number (flipped_top_bits bs) in
      let twice : p ≡ 2 * h = halves t in
      let range = signed_range t a e r in
      let low = range.0 in
      let high = range.1 in
      let top = has_top (width t - 1) bs (s.long ∙ width_positive t) in
      let below : f < p =
      subst (λ n. f < 2 ^ n) (flipped_long bs ∙ s.long) (number_below (flipped_top_bits bs)) in
      let same = Same-trans p (a +ℤ pos h) (pos (number bs) +ℤ pos h) (pos f)
      (Same-add p a (pos (number bs)) (pos h) (pos h) (near t bs a s)
      (Same-refl p (pos h)))
      (flipped_same top.top p h top.low (number bs) f twice top.whole top.flipped) in
      Same-unique p (pos 0) (pos f) (a +ℤ pos h) (omega (arith, ints)) (omega (arith, ints))
      (omega (arith, ints)) (omega (arith, ints)) (Same-sym p (a +ℤ pos h) (pos f) same)

pub compare_at_types : WordsCompare
compare_at_types = record {
  natural = λ t xs ys a b e ra rb x y.
      no_less xs ys (x.long ∙ sym y.long)
      ∙ moved_lt a b 0 (number xs) (number ys) (own t xs a e ra x) (own t ys b e rb y);
  signed = λ t xs ys a b e ra rb x y.
      no_less (flipped_top_bits xs) (flipped_top_bits ys)
      (flipped_long xs ∙ x.long ∙ sym (flipped_long ys ∙ y.long))
      ∙ moved_lt a b (2 ^ (width t - 1)) (number (flipped_top_bits xs))
      (number (flipped_top_bits ys)) (moved t xs a e ra x) (moved t ys b e rb y);
}
