-- The numbers that words stand for: sums and differences modulo a power of two, comparisons by
-- borrow, masks bit by bit, and the number that a word determines.
use Rattle.std.proofs.Common.{◌≡◌, ℕ, zero, suc, ◌+◌, ◌-◌, ◌*◌, ◌/◌, ◌%◌, ◌^◌, ◌<◌, ◌≤◌, Bool, true}
use Rattle.std.proofs.Common.{false}
use Rattle.std.proofs.Common.{not, ◌&&◌, ◌||◌, List, [], ◌∷◌, ◌++◌, length, map, refl, sym, ap}
use Rattle.std.proofs.Common.{subst}
use Rattle.std.proofs.Common.{◌∙◌, arith, bit_and, bit_or, take, replicate, inl, inr}
use Rattle.std.specs.Prelude.{◌==◌, nat_lt, bit_xor, if◌then◌else◌}
use Rattle.std.proofs.Math.Nat.{pow-suc, mul_assoc, mod-eq_of_lt, add-mul-mod_self_left}
use Rattle.std.proofs.lemmas.Nat.{and_block, or_block, xor_block, pow_pos, mod-pow-add}
use Rattle.std.proofs.lemmas.Bool.{lt-ltb, le-ltb, eq-eqb, ne_eqb, cases_lt, cases_eq}
use Rattle.cpa_blast_gates.specs.Gates.{differ, majority}
use Rattle.cpa_blast_words.specs.declared.rows.Row.{Row}
use Rattle.cpa_blast_words.specs.declared.rows.Row.TheVariants as row
use Rattle.cpa_blast_words.specs.Truths.{bit, number, row_carry, walked_bits, walked_carry}

pub walked_length : (r : Row) (c : Bool) (xs ys : List Bool) → length xs ≡ length ys
    → length (walked_bits r c xs ys) ≡ length xs
walked_length r c [] ys e = refl
walked_length r c (x ∷ xs) [] e = absurd (omega arith)
walked_length r c (x ∷ xs) (y ∷ ys) e =
    ap suc (walked_length r (row_carry r c x y) xs ys (omega arith))

-- a power of two, twice
doubled : (n : ℕ) → 2 ^ suc n ≡ 2 * 2 ^ n
doubled n = omega (arith, pow-suc 2 n)

pub number_below : (bs : List Bool) → number bs < 2 ^ length bs
number_below [] = omega arith
number_below (true ∷ bs) = omega (arith, number_below bs, doubled (length bs))
number_below (false ∷ bs) = omega (arith, number_below bs, doubled (length bs))

times_twice : (p b : ℕ) → 2 * p * b ≡ 2 * (p * b)
times_twice p b = mul_assoc 2 p b

-- the sum with its carry is exact
full : (c x y : Bool) → bit (differ (differ x y) c) + 2 * bit (majority x y c)
    ≡ bit x + bit y + bit c
full true true true = refl
full true true false = refl
full true false true = refl
full true false false = refl
full false true true = refl
full false true false = refl
full false false true = refl
full false false false = refl

sum_step : (b k n s t c x y p : ℕ) → b + 2 * k ≡ x + y + c → n + p ≡ s + t + k
    → (b + 2 * n) + 2 * p ≡ (x + 2 * s) + (y + 2 * t) + c
sum_step b k n s t c x y p e f = omega arith

pub sum_exact : (c : Bool) (xs ys : List Bool) → length xs ≡ length ys
    → number (walked_bits row.Sum c xs ys)
    + 2 ^ length xs * bit (walked_carry row.Sum c xs ys)
    ≡ number xs + number ys + bit c
sum_exact c [] [] e = omega arith
sum_exact c [] (y ∷ ys) e = absurd (omega arith)
sum_exact c (x ∷ xs) [] e = absurd (omega arith)
sum_exact c (x ∷ xs) (y ∷ ys) e =
    let k = majority x y c in
    let rest = sum_exact k xs ys (omega arith) in
    let out = walked_carry row.Sum k xs ys in
    carry_up (length xs) (bit out)
    (number (walked_bits row.Sum c (x ∷ xs) (y ∷ ys)))
    (number (x ∷ xs) + number (y ∷ ys) + bit c)
    (sum_step (bit (differ (differ x y) c)) (bit k) (number (walked_bits row.Sum k xs ys))
    (number xs) (number ys) (bit c) (bit x) (bit y) (2 ^ length xs * bit out)
    (full c x y) rest)
  where
    carry_up : (n b low all : ℕ) → low + 2 * (2 ^ n * b) ≡ all → low + 2 ^ suc n * b ≡ all
    carry_up n b low all e =
        ap (λ p. low + p * b) (doubled n) ∙ ap (λ q. low + q) (times_twice (2 ^ n) b) ∙ e

-- and modulo the power
modulo : (low p k all : ℕ) → low < p → low + p * k ≡ all → low ≡ all % p
modulo low p k all below e =
    sym (mod-eq_of_lt below) ∙ sym (add-mul-mod_self_left low p k) ∙ ap (λ n. n % p) e

pub sum_number : (c : Bool) (xs ys : List Bool) → length xs ≡ length ys
    → number (walked_bits row.Sum c xs ys) ≡ (number xs + number ys + bit c) % 2 ^ length xs
sum_number c xs ys e =
    modulo (number (walked_bits row.Sum c xs ys)) (2 ^ length xs)
    (bit (walked_carry row.Sum c xs ys)) (number xs + number ys + bit c)
    (subst (λ n. number (walked_bits row.Sum c xs ys) < 2 ^ n) (walked_length row.Sum c xs ys e)
    (number_below (walked_bits row.Sum c xs ys)))
    (sum_exact c xs ys e)

-- the opposite bits
pub flipped_number : (bs : List Bool) → number (map not bs) + number bs + 1 ≡ 2 ^ length bs
flipped_number [] = refl
flipped_number (true ∷ bs) = omega (arith, flipped_number bs, doubled (length bs))
flipped_number (false ∷ bs) = omega (arith, flipped_number bs, doubled (length bs))

pub flipped_length : (bs : List Bool) → length (map not bs) ≡ length bs
flipped_length [] = refl
flipped_length (b ∷ bs) = ap suc (flipped_length bs)

pub difference_number : (xs ys : List Bool) → length xs ≡ length ys
    → number (walked_bits row.Sum true xs (map not ys))
    ≡ (number xs + (2 ^ length xs - number ys)) % 2 ^ length xs
difference_number xs ys e =
    sum_number true xs (map not ys) (e ∙ sym (flipped_length ys))
    ∙ ap (λ n. n % 2 ^ length xs)
    (sums (number xs) (number (map not ys)) (number ys) (2 ^ length xs)
    (flipped_number ys ∙ ap (λ n. 2 ^ n) (sym e)))
  where
    sums : (x f y p : ℕ) → f + y + 1 ≡ p → x + f + bit true ≡ x + (p - y)
    sums x f y p h = omega arith

-- tests of two pairs of numbers that stand alike
pub same_lt : (a b c d : ℕ) → (a < b → c < d) → (b ≤ a → d ≤ c) → nat_lt a b ≡ nat_lt c d
same_lt a b c d f g =
    elim (cases_lt a b) [
      | inl h ↦ lt-ltb a b h ∙ sym (lt-ltb c d (f h))
      | inr h ↦ le-ltb a b h ∙ sym (le-ltb c d (g h))
    ]

same_eq : (a b c d : ℕ) → (a ≡ b → c ≡ d) → (c ≡ d → a ≡ b) → (a == b) ≡ (c == d)
same_eq a b c d f g =
    elim (cases_eq a b) [
      | inl h ↦ eq-eqb a b h ∙ sym (eq-eqb c d (f h))
      | inr h ↦ ne_eqb a b h ∙ sym (ne_eqb c d (λ e. h (g e)))
    ]

-- a borrow
less_step : (c x y : Bool) (n m : ℕ) → nat_lt n (m + bit (majority (not x) y c))
    ≡ nat_lt (bit x + 2 * n) ((bit y + 2 * m) + bit c)
less_step true true true n m =
    same_lt n (m + 1) (1 + 2 * n) ((1 + 2 * m) + 1) (λ h. omega arith) (λ h. omega arith)
less_step true true false n m =
    same_lt n (m + 0) (1 + 2 * n) ((0 + 2 * m) + 1) (λ h. omega arith) (λ h. omega arith)
less_step true false true n m =
    same_lt n (m + 1) (0 + 2 * n) ((1 + 2 * m) + 1) (λ h. omega arith) (λ h. omega arith)
less_step true false false n m =
    same_lt n (m + 1) (0 + 2 * n) ((0 + 2 * m) + 1) (λ h. omega arith) (λ h. omega arith)
less_step false true true n m =
    same_lt n (m + 0) (1 + 2 * n) ((1 + 2 * m) + 0) (λ h. omega arith) (λ h. omega arith)
less_step false true false n m =
    same_lt n (m + 0) (1 + 2 * n) ((0 + 2 * m) + 0) (λ h. omega arith) (λ h. omega arith)
less_step false false true n m =
    same_lt n (m + 1) (0 + 2 * n) ((1 + 2 * m) + 0) (λ h. omega arith) (λ h. omega arith)
less_step false false false n m =
    same_lt n (m + 0) (0 + 2 * n) ((0 + 2 * m) + 0) (λ h. omega arith) (λ h. omega arith)

pub less_number : (c : Bool) (xs ys : List Bool) → length xs ≡ length ys
    → walked_carry row.Less c xs ys ≡ nat_lt (number xs) (number ys + bit c)
less_number true [] [] e = refl
less_number false [] [] e = refl
less_number c [] (y ∷ ys) e = absurd (omega arith)
less_number c (x ∷ xs) [] e = absurd (omega arith)
less_number c (x ∷ xs) (y ∷ ys) e =
    less_number (majority (not x) y c) xs ys (omega arith)
    ∙ less_step c x y (number xs) (number ys)

-- a chain of equal bits
equal_step : (c x y : Bool) (n m : ℕ) → ((c && not (differ x y)) && (n == m))
    ≡ (c && (bit x + 2 * n == bit y + 2 * m))
equal_step false x y n m = refl
equal_step true true true n m =
    same_eq n m (1 + 2 * n) (1 + 2 * m) (λ h. omega arith) (λ h. omega arith)
equal_step true true false n m = sym (ne_eqb (1 + 2 * n) (0 + 2 * m) (λ h. absurd (omega arith)))
equal_step true false true n m = sym (ne_eqb (0 + 2 * n) (1 + 2 * m) (λ h. absurd (omega arith)))
equal_step true false false n m =
    same_eq n m (0 + 2 * n) (0 + 2 * m) (λ h. omega arith) (λ h. omega arith)

and_true : (c : Bool) → c ≡ (c && true)
and_true true = refl
and_true false = refl

pub equal_number : (c : Bool) (xs ys : List Bool) → length xs ≡ length ys
    → walked_carry row.Equal c xs ys ≡ (c && (number xs == number ys))
equal_number c [] [] e = and_true c
equal_number c [] (y ∷ ys) e = absurd (omega arith)
equal_number c (x ∷ xs) [] e = absurd (omega arith)
equal_number c (x ∷ xs) (y ∷ ys) e =
    equal_number (c && not (differ x y)) xs ys (omega arith)
    ∙ equal_step c x y (number xs) (number ys)

-- masks, bit by bit
shape : (b n : ℕ) → b + 2 * n ≡ n * 2 ^ 1 + b
shape b n = omega arith

turn : (k p q : ℕ) → p ≡ q → k * 2 ^ 1 + p ≡ q + 2 * k
turn k p q e = omega arith

small : (x : Bool) → bit x < 2 ^ 1
small true = omega arith
small false = omega arith

and_row : (x y : Bool) → bit_and (bit x) (bit y) ≡ bit (x && y)
and_row true true = refl
and_row true false = refl
and_row false true = refl
and_row false false = refl

and_bit : (x y : Bool) (n m : ℕ)
    → bit (x && y) + 2 * bit_and n m ≡ bit_and (bit x + 2 * n) (bit y + 2 * m)
and_bit x y n m =
    sym (ap (λ a. bit_and a (bit y + 2 * m)) (shape (bit x) n)
    ∙ ap (λ b. bit_and (n * 2 ^ 1 + bit x) b) (shape (bit y) m)
    ∙ and_block 1 n m (bit x) (bit y) (small x) (small y)
    ∙ turn (bit_and n m) (bit_and (bit x) (bit y)) (bit (x && y)) (and_row x y))

or_row : (x y : Bool) → bit_or (bit x) (bit y) ≡ bit (x || y)
or_row true true = refl
or_row true false = refl
or_row false true = refl
or_row false false = refl

or_bit : (x y : Bool) (n m : ℕ)
    → bit (x || y) + 2 * bit_or n m ≡ bit_or (bit x + 2 * n) (bit y + 2 * m)
or_bit x y n m =
    sym (ap (λ a. bit_or a (bit y + 2 * m)) (shape (bit x) n)
    ∙ ap (λ b. bit_or (n * 2 ^ 1 + bit x) b) (shape (bit y) m)
    ∙ or_block 1 n m (bit x) (bit y) (small x) (small y)
    ∙ turn (bit_or n m) (bit_or (bit x) (bit y)) (bit (x || y)) (or_row x y))

xor_row : (x y : Bool) → bit_xor (bit x) (bit y) ≡ bit (differ x y)
xor_row true true = refl
xor_row true false = refl
xor_row false true = refl
xor_row false false = refl

xor_bit : (x y : Bool) (n m : ℕ)
    → bit (differ x y) + 2 * bit_xor n m ≡ bit_xor (bit x + 2 * n) (bit y + 2 * m)
xor_bit x y n m =
    sym (ap (λ a. bit_xor a (bit y + 2 * m)) (shape (bit x) n)
    ∙ ap (λ b. bit_xor (n * 2 ^ 1 + bit x) b) (shape (bit y) m)
    ∙ xor_block 1 n m (bit x) (bit y) (small x) (small y)
    ∙ turn (bit_xor n m) (bit_xor (bit x) (bit y)) (bit (differ x y)) (xor_row x y))

pub and_number : (c : Bool) (xs ys : List Bool) → length xs ≡ length ys
    → number (walked_bits row.And c xs ys) ≡ bit_and (number xs) (number ys)
and_number c [] [] e = refl
and_number c [] (y ∷ ys) e = absurd (omega arith)
and_number c (x ∷ xs) [] e = absurd (omega arith)
and_number c (x ∷ xs) (y ∷ ys) e =
    ap (λ n. bit (x && y) + 2 * n) (and_number c xs ys (omega arith))
    ∙ and_bit x y (number xs) (number ys)

pub or_number : (c : Bool) (xs ys : List Bool) → length xs ≡ length ys
    → number (walked_bits row.Or c xs ys) ≡ bit_or (number xs) (number ys)
or_number c [] [] e = refl
or_number c [] (y ∷ ys) e = absurd (omega arith)
or_number c (x ∷ xs) [] e = absurd (omega arith)
or_number c (x ∷ xs) (y ∷ ys) e =
    ap (λ n. bit (x || y) + 2 * n) (or_number c xs ys (omega arith))
    ∙ or_bit x y (number xs) (number ys)

pub xor_number : (c : Bool) (xs ys : List Bool) → length xs ≡ length ys
    → number (walked_bits row.Xor c xs ys) ≡ bit_xor (number xs) (number ys)
xor_number c [] [] e = refl
xor_number c [] (y ∷ ys) e = absurd (omega arith)
xor_number c (x ∷ xs) [] e = absurd (omega arith)
xor_number c (x ∷ xs) (y ∷ ys) e =
    ap (λ n. bit (differ x y) + 2 * n) (xor_number c xs ys (omega arith))
    ∙ xor_bit x y (number xs) (number ys)

-- a choice is one of the words
pub chosen_bits : (c : Bool) (xs ys : List Bool) → length xs ≡ length ys
    → walked_bits row.Choose c xs ys ≡ (if c then xs else ys)
chosen_bits true [] [] e = refl
chosen_bits false [] [] e = refl
chosen_bits c [] (y ∷ ys) e = absurd (omega arith)
chosen_bits c (x ∷ xs) [] e = absurd (omega arith)
chosen_bits true (x ∷ xs) (y ∷ ys) e = ap (λ bs. x ∷ bs) (chosen_bits true xs ys (omega arith))
chosen_bits false (x ∷ xs) (y ∷ ys) e = ap (λ bs. y ∷ bs) (chosen_bits false xs ys (omega arith))

-- words behind one another, and words of one bit
pub number_append : (xs ys : List Bool)
    → number (xs ++ ys) ≡ number xs + 2 ^ length xs * number ys
number_append [] ys = omega arith
number_append (x ∷ xs) ys =
    longer (bit x) (number xs) (number (xs ++ ys)) (2 ^ length xs) (2 ^ suc (length xs)) (number ys)
    (number_append xs ys) (doubled (length xs))
  where
    spread : (b n all z : ℕ) → all ≡ n + z → b + 2 * all ≡ (b + 2 * n) + 2 * z
    spread b n all z e = omega arith

    longer : (b n all p q k : ℕ) → all ≡ n + p * k → q ≡ 2 * p → b + 2 * all ≡ (b + 2 * n) + q * k
    longer b n all p q k e d =
        spread b n all (p * k) e ∙ ap (λ z. (b + 2 * n) + z) (sym (times_twice p k))
        ∙ ap (λ z. (b + 2 * n) + z * k) (sym d)

pub falses_number : (k : ℕ) → number (replicate k false) ≡ 0
falses_number zero = refl
falses_number (suc k) = omega (arith, falses_number k)

pub trues_number : (k : ℕ) → number (replicate k true) + 1 ≡ 2 ^ k
trues_number zero = refl
trues_number (suc k) = omega (arith, trues_number k, doubled k)

-- the low bits of a word
pub low_step : (b : Bool) (n p : ℕ) → bit b + 2 * (n % 2 ^ p) ≡ (bit b + 2 * n) % 2 ^ suc p
low_step b n p =
    sums (bit b) n p (small b) ∙ sym (mod-pow-add (bit b + 2 * n) p 1)
    ∙ ap (λ q. (bit b + 2 * n) % 2 ^ q) (next p)
  where
    next : (p : ℕ) → p + 1 ≡ suc p
    next p = omega arith

    half : (b n : ℕ) → b < 2 ^ 1 → n ≡ (b + 2 * n) / 2 ^ 1
    half b n h = omega arith

    rest : (b n : ℕ) → b < 2 ^ 1 → b ≡ (b + 2 * n) % 2 ^ 1
    rest b n h = omega arith

    sums : (b n p : ℕ) → b < 2 ^ 1
        → b + 2 * (n % 2 ^ p) ≡ ((b + 2 * n) / 2 ^ 1 % 2 ^ p) * 2 ^ 1 + (b + 2 * n) % 2 ^ 1
    sums b n p h =
        shape b (n % 2 ^ p)
        ∙ ap (λ k. k % 2 ^ p * 2 ^ 1 + b) (half b n h)
        ∙ ap (λ k. (b + 2 * n) / 2 ^ 1 % 2 ^ p * 2 ^ 1 + k) (rest b n h)

pub low_number : (n : ℕ) (bs : List Bool) → number (take n bs) ≡ number bs % 2 ^ n
low_number zero bs = omega arith
low_number (suc n) [] = sym (mod-eq_of_lt (pow_pos (suc n)))
low_number (suc n) (b ∷ bs) =
    ap (λ k. bit b + 2 * k) (low_number n bs) ∙ low_step b (number bs) n
