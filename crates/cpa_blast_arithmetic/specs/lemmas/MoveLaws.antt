-- A moved word keeps its length, one moved twice is moved by both, and its number is the product
-- with a power of two, or the quotient.
use Rattle.std.proofs.Common.{◌≡◌, ℕ, zero, suc, ◌+◌, ◌*◌, ◌/◌, ◌%◌, ◌^◌, ◌≤◌, Bool, true}
use Rattle.std.proofs.Common.{false, not, List, [], ◌∷◌, ◌++◌, length, map, take, drop, replicate}
use Rattle.std.proofs.Common.{refl, sym, ap, ◌∙◌, arith, append_assoc}
use Rattle.std.proofs.Math.Nat.{pow-suc, div-div-eq-div-mul}
use Rattle.std.proofs.Math.Seq.{drop-nil}
use Rattle.std.proofs.lemmas.List.{length-append, length-drop, length-replicate, length-take-le}
use Rattle.std.proofs.lemmas.List.{length-map, take_all, append-nil, drop-append-le, take-map}
use Rattle.std.proofs.lemmas.List.{drop-map, map-append, replicate-append-replicate}
use Rattle.cpa_blast_gates.specs.Gates.{lit_value}
use Rattle.cpa_blast_words.specs.Truths.{bit, values, number}
use Rattle.cpa_blast_words.specs.Laws.{words_are_numbers}
use Rattle.cpa_blast_words.specs.lemmas.WordMeanings.{values_repeated}
use Rattle.cpa_blast_arithmetic.specs.declared.moves.Direction.{Direction}
use Rattle.cpa_blast_arithmetic.specs.declared.moves.Direction.TheVariants as toward
use Rattle.cpa_blast_arithmetic.specs.Moves.{moved}

-- ---- lengths

pub moved_length : {A : Type 0} (d : Direction) (n : ℕ) (f : A) (xs : List A)
    → length (moved d n f xs) ≡ length xs
moved_length toward.Left n f xs =
    length-take-le (length xs) (replicate n f ++ xs)
    (omega (arith, length-append (replicate n f) xs))
moved_length toward.Right n f xs =
    omega (
      arith,
      length-drop n (xs ++ replicate n f),
      length-append xs (replicate n f),
      length-replicate n f,
    )

-- ---- moved by nothing, and twice

pub moved_nothing : {A : Type 0} (d : Direction) (f : A) (xs : List A) → moved d 0 f xs ≡ xs
moved_nothing toward.Left f xs = take_all (length xs) xs (omega arith)
moved_nothing toward.Right f xs = append-nil xs

take_take : {A : Type 0} (n k : ℕ) (xs : List A) → n ≤ k → take n (take k xs) ≡ take n xs
take_take zero k xs h = refl
take_take (suc n) zero xs h = absurd (omega arith)
take_take (suc n) (suc k) [] h = refl
take_take (suc n) (suc k) (x ∷ xs) h = ap (λ zs. x ∷ zs) (take_take n k xs (omega arith))

take_inner : {A : Type 0} (n k : ℕ) (us vs : List A) → n ≤ k
    → take n (us ++ take k vs) ≡ take n (us ++ vs)
take_inner zero k us vs h = refl
take_inner (suc n) k [] vs h = take_take (suc n) k vs h
take_inner (suc n) k (u ∷ us) vs h = ap (λ zs. u ∷ zs) (take_inner n k us vs (omega arith))

drop_drop : {A : Type 0} (n k : ℕ) (xs : List A) → drop n (drop k xs) ≡ drop (k + n) xs
drop_drop n zero xs = ap (λ j. drop j xs) (nothing n)
  where
    nothing : (n : ℕ) → n ≡ 0 + n
    nothing n = omega arith
drop_drop n (suc k) [] = drop-nil n ∙ sym (drop-nil (suc k + n))
drop_drop n (suc k) (x ∷ xs) =
    drop_drop n k xs ∙ ap (λ j. drop j (x ∷ xs)) (next n k)
  where
    next : (n k : ℕ) → suc (k + n) ≡ suc k + n
    next n k = omega arith

pub moved_twice : {A : Type 0} (d : Direction) (n k : ℕ) (f : A) (xs : List A)
    → moved d n f (moved d k f xs) ≡ moved d (k + n) f xs
moved_twice toward.Left n k f xs =
    ap (λ j. take j (replicate n f ++ moved toward.Left k f xs)) (moved_length toward.Left k f xs)
    ∙ take_inner (length xs) (length xs) (replicate n f) (replicate k f ++ xs) (omega arith)
    ∙ ap (take (length xs)) (sym (append_assoc (replicate n f) (replicate k f) xs))
    ∙ ap (λ fs. take (length xs) (fs ++ xs)) (replicate-append-replicate n k f
    ∙ ap (λ j. replicate j f) (turn n k))
  where
    turn : (n k : ℕ) → n + k ≡ k + n
    turn n k = omega arith
moved_twice toward.Right n k f xs =
    ap (drop n) (sym (drop-append-le k (xs ++ replicate k f) (replicate n f)
    (omega (arith, length-append xs (replicate k f), length-replicate k f))))
    ∙ drop_drop n k ((xs ++ replicate k f) ++ replicate n f)
    ∙ ap (drop (k + n)) (append_assoc xs (replicate k f) (replicate n f)
    ∙ ap (λ fs. xs ++ fs) (replicate-append-replicate k n f))

-- ---- the values of a moved word, and their opposites

pub values_moved : (m : ℕ → Bool) (d : Direction) (n f : ℕ) (xs : List ℕ)
    → values m (moved d n f xs) ≡ moved d n (lit_value m f) (values m xs)
values_moved m toward.Left n f xs =
    sym (take-map (lit_value m) (length xs) (replicate n f ++ xs))
    ∙ ap (take (length xs)) (map-append (lit_value m) (replicate n f) xs
    ∙ ap (λ bs. bs ++ values m xs) (values_repeated m n f))
    ∙ ap (λ k. take k (replicate n (lit_value m f) ++ values m xs))
    (sym (length-map xs (lit_value m)))
values_moved m toward.Right n f xs =
    sym (drop-map (lit_value m) n (xs ++ replicate n f))
    ∙ ap (drop n) (map-append (lit_value m) xs (replicate n f)
    ∙ ap (λ bs. values m xs ++ bs) (values_repeated m n f))

opposites_repeated : (n : ℕ) (b : Bool) → map not (replicate n b) ≡ replicate n (not b)
opposites_repeated zero b = refl
opposites_repeated (suc n) b = ap (λ bs. not b ∷ bs) (opposites_repeated n b)

pub opposites_moved : (d : Direction) (n : ℕ) (b : Bool) (bs : List Bool)
    → map not (moved d n b bs) ≡ moved d n (not b) (map not bs)
opposites_moved toward.Left n b bs =
    sym (take-map not (length bs) (replicate n b ++ bs))
    ∙ ap (take (length bs)) (map-append not (replicate n b) bs
    ∙ ap (λ cs. cs ++ map not bs) (opposites_repeated n b))
    ∙ ap (λ k. take k (replicate n (not b) ++ map not bs)) (sym (length-map bs not))
opposites_moved toward.Right n b bs =
    sym (drop-map not n (bs ++ replicate n b))
    ∙ ap (drop n) (map-append not bs (replicate n b)
    ∙ ap (λ cs. map not bs ++ cs) (opposites_repeated n b))

-- ---- numbers

-- what stands behind the low bits
pub high_number : (n : ℕ) (bs : List Bool) → number (drop n bs) ≡ number bs / 2 ^ n
high_number zero bs = omega arith
high_number (suc n) [] = omega arith
high_number (suc n) (b ∷ bs) =
    high_number n bs ∙ ap (λ k. k / 2 ^ n) (half b (number bs))
    ∙ div-div-eq-div-mul (bit b + 2 * number bs) 2 (2 ^ n)
    ∙ ap (λ k. (bit b + 2 * number bs) / k) (twice n)
  where
    half : (b : Bool) (n : ℕ) → n ≡ (bit b + 2 * n) / 2
    half true n = omega arith
    half false n = omega arith

    twice : (n : ℕ) → 2 * 2 ^ n ≡ 2 ^ suc n
    twice n = omega (arith, pow-suc 2 n)

-- moved left, filled with false: the product with a power of two
pub left_number : (n : ℕ) (bs : List Bool)
    → number (moved toward.Left n false bs) ≡ (2 ^ n * number bs) % 2 ^ length bs
left_number n bs =
    words_are_numbers.low (length bs) (replicate n false ++ bs)
    ∙ ap (λ k. k % 2 ^ length bs) (words_are_numbers.appended (replicate n false) bs
    ∙ ap (λ k. k + 2 ^ length (replicate n false) * number bs) (words_are_numbers.falses n)
    ∙ ap (λ k. 0 + 2 ^ k * number bs) (length-replicate n false)
    ∙ nothing (2 ^ n * number bs))
  where
    nothing : (k : ℕ) → 0 + k ≡ k
    nothing k = omega arith

-- moved right, filled with false: the quotient by a power of two
pub right_number : (n : ℕ) (bs : List Bool)
    → number (moved toward.Right n false bs) ≡ number bs / 2 ^ n
right_number n bs =
    high_number n (bs ++ replicate n false)
    ∙ ap (λ k. k / 2 ^ n) (words_are_numbers.appended bs (replicate n false)
    ∙ ap (λ k. number bs + 2 ^ length bs * k) (words_are_numbers.falses n)
    ∙ nothing (number bs) (2 ^ length bs))
  where
    nothing : (k p : ℕ) → k + p * 0 ≡ k
    nothing k p = omega arith
