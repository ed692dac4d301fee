-- Products rise or fall with each factor, and so do quotients but for a divisor of 0.
use Rattle.std.proofs.Common.{◌≡◌, ◌≢◌, ℕ, zero, suc, ◌*◌, ◌/◌, ◌<◌, ◌≤◌, ℤ, pos, negsuc, neg_ℤ}
use Rattle.std.proofs.Common.{◌*ℤ◌, ◌≤ℤ◌, ◌<ℤ◌, int_div, refl, subst, arith}
use Rattle.std.proofs.lemmas.Int.{ints}
use Rattle.std.proofs.Math.Nat.{mul-le-mul_right, mul-le-mul_left, div-mul-le_self}
use Rattle.std.proofs.lemmas.Nat.{le-div}
use Rattle.cpa_interval_bounds.specs.declared.bounds.Bounds.{Bounds}
use Rattle.cpa_interval_bounds.specs.Bounds.{Has}
use Rattle.cpa_interval_bounds.specs.Arithmetic.{product, quotient}
use Rattle.cpa_interval_bounds.specs.lemmas.Corners.{IsAmong, rises, falls, corners}

-- a larger number has larger quotients, and a larger divisor gives smaller ones
pub larger_quotient : (m n k : ℕ) → 0 < k → m ≤ n → m / k ≤ n / k
larger_quotient m n k some h =
    let part = div-mul-le_self m k in le-div (m / k) n k some (omega arith)

pub larger_divisor : (m j k : ℕ) → 0 < j → j ≤ k → m / k ≤ m / j
larger_divisor m j k some h =
    let part = div-mul-le_self m k in
    let less : m / k * j ≤ m / k * k = mul-le-mul_left (m / k) h in
    le-div (m / k) m j some (omega arith)

negated : (m n : ℕ) → m ≤ n → neg_ℤ (pos n) ≤ℤ neg_ℤ (pos m)
negated zero zero h = omega (arith, ints)
negated zero (suc n) h = omega (arith, ints)
negated (suc m) zero h = absurd (omega arith)
negated (suc m) (suc n) h = omega (arith, ints)

under_zero : (m n : ℕ) → neg_ℤ (pos m) ≤ℤ pos n
under_zero zero n = omega (arith, ints)
under_zero (suc m) n = omega (arith, ints)

-- ---- products

times_up : (x z : ℤ) (k : ℕ) → x ≤ℤ z → (x *ℤ pos k) ≤ℤ (z *ℤ pos k)
times_up (pos m) (pos n) k h =
    let less : m ≤ n = omega (arith, ints) in
    let more : m * k ≤ n * k = mul-le-mul_right k less in omega (arith, ints)
times_up (pos m) (negsuc n) k h = absurd (omega (arith, ints))
times_up (negsuc m) (pos n) k h = under_zero (suc m * k) (n * k)
times_up (negsuc m) (negsuc n) k h =
    let less : suc n ≤ suc m = omega (arith, ints) in
    negated (suc n * k) (suc m * k) (mul-le-mul_right k less)

times_down : (x z : ℤ) (k : ℕ) → x ≤ℤ z → (z *ℤ negsuc k) ≤ℤ (x *ℤ negsuc k)
times_down (pos m) (pos n) k h =
    let less : m ≤ n = omega (arith, ints) in
    negated (m * suc k) (n * suc k) (mul-le-mul_right (suc k) less)
times_down (pos m) (negsuc n) k h = absurd (omega (arith, ints))
times_down (negsuc m) (pos n) k h = under_zero (n * suc k) (suc m * suc k)
times_down (negsuc m) (negsuc n) k h =
    let less : suc n ≤ suc m = omega (arith, ints) in
    let more : suc n * suc k ≤ suc m * suc k = mul-le-mul_right (suc k) less in
    omega (arith, ints)

among_times : (first n second y : ℤ) → first ≤ℤ n → n ≤ℤ second
    → IsAmong (first *ℤ y) (n *ℤ y) (second *ℤ y)
among_times first n second (pos k) low high =
    rises (first *ℤ pos k) (n *ℤ pos k) (second *ℤ pos k)
    (times_up first n k low) (times_up n second k high)
among_times first n second (negsuc k) low high =
    falls (first *ℤ negsuc k) (n *ℤ negsuc k) (second *ℤ negsuc k)
    (times_down n second k high) (times_down first n k low)

turned : (x y : ℤ) → x *ℤ y ≡ y *ℤ x
turned x y = omega (arith, ints)

times_among : (x first n second : ℤ) → first ≤ℤ n → n ≤ℤ second
    → IsAmong (x *ℤ first) (x *ℤ n) (x *ℤ second)
times_among x first n second low high =
    subst (λ z. IsAmong z (x *ℤ n) (x *ℤ second)) (turned first x)
    (subst (λ z. IsAmong (first *ℤ x) z (x *ℤ second)) (turned n x)
    (subst (IsAmong (first *ℤ x) (n *ℤ x)) (turned second x)
    (among_times first n second x low high)))

pub product_has : (a b : Bounds) (n m : ℤ) → Has a n → Has b m → Has (product a b) (n *ℤ m)
product_has a b n m first second = corners ◌*ℤ◌ a b n m
    (times_among n b.lo m b.hi second.low second.high)
    (among_times a.lo n a.hi b.lo first.low first.high)
    (among_times a.lo n a.hi b.hi first.low first.high)

-- ---- quotients

over_up : (x z : ℤ) (k : ℕ) → x ≤ℤ z → int_div x (pos (suc k)) ≤ℤ int_div z (pos (suc k))
over_up (pos m) (pos n) k h =
    let less : m ≤ n = omega (arith, ints) in
    let more = larger_quotient m n (suc k) (omega arith) less in omega (arith, ints)
over_up (pos m) (negsuc n) k h = absurd (omega (arith, ints))
over_up (negsuc m) (pos n) k h = under_zero (suc m / suc k) (n / suc k)
over_up (negsuc m) (negsuc n) k h =
    let less : suc n ≤ suc m = omega (arith, ints) in
    negated (suc n / suc k) (suc m / suc k)
    (larger_quotient (suc n) (suc m) (suc k) (omega arith) less)

over_down : (x z : ℤ) (k : ℕ) → x ≤ℤ z → int_div z (negsuc k) ≤ℤ int_div x (negsuc k)
over_down (pos m) (pos n) k h =
    let less : m ≤ n = omega (arith, ints) in
    negated (m / suc k) (n / suc k) (larger_quotient m n (suc k) (omega arith) less)
over_down (pos m) (negsuc n) k h = absurd (omega (arith, ints))
over_down (negsuc m) (pos n) k h = under_zero (n / suc k) (suc m / suc k)
over_down (negsuc m) (negsuc n) k h =
    let less : suc n ≤ suc m = omega (arith, ints) in
    let more = larger_quotient (suc n) (suc m) (suc k) (omega arith) less in
    omega (arith, ints)

among_over : (first n second y : ℤ) → y ≢ pos 0 → first ≤ℤ n → n ≤ℤ second
    → IsAmong (int_div first y) (int_div n y) (int_div second y)
among_over first n second (pos zero) some low high = absurd (some refl)
among_over first n second (pos (suc k)) some low high =
    rises (int_div first (pos (suc k))) (int_div n (pos (suc k))) (int_div second (pos (suc k)))
    (over_up first n k low) (over_up n second k high)
among_over first n second (negsuc k) some low high =
    falls (int_div first (negsuc k)) (int_div n (negsuc k)) (int_div second (negsuc k))
    (over_down n second k high) (over_down first n k low)

-- a divisor on one side of 0
pub data OneSide (x y : ℤ) : Type 0 where
  above : pos 0 <ℤ x → OneSide x y
  below : y <ℤ pos 0 → OneSide x y

-- of a number that is not negative: larger divisors of one sign give smaller quotients
by_down : (m : ℕ) (y z : ℤ) → OneSide y z → y ≤ℤ z → int_div (pos m) z ≤ℤ int_div (pos m) y
by_down m (pos zero) z (above h) le = absurd (omega (arith, ints))
by_down m (pos (suc j)) (pos zero) side le = absurd (omega (arith, ints))
by_down m (pos (suc j)) (pos (suc k)) side le =
    let more : suc j ≤ suc k = omega (arith, ints) in
    let less = larger_divisor m (suc j) (suc k) (omega arith) more in omega (arith, ints)
by_down m (pos j) (negsuc k) side le = absurd (omega (arith, ints))
by_down m (negsuc j) z (above h) le = absurd (omega (arith, ints))
by_down m (negsuc j) (pos k) (below h) le = absurd (omega (arith, ints))
by_down m (negsuc j) (negsuc k) side le =
    let more : suc k ≤ suc j = omega (arith, ints) in
    negated (m / suc j) (m / suc k) (larger_divisor m (suc k) (suc j) (omega arith) more)
by_down m (pos zero) (pos k) (below h) le = absurd (omega (arith, ints))

by_up : (m : ℕ) (y z : ℤ) → OneSide y z → y ≤ℤ z
    → int_div (negsuc m) y ≤ℤ int_div (negsuc m) z
by_up m (pos zero) z (above h) le = absurd (omega (arith, ints))
by_up m (pos (suc j)) (pos zero) side le = absurd (omega (arith, ints))
by_up m (pos (suc j)) (pos (suc k)) side le =
    let more : suc j ≤ suc k = omega (arith, ints) in
    negated (suc m / suc k) (suc m / suc j)
    (larger_divisor (suc m) (suc j) (suc k) (omega arith) more)
by_up m (pos j) (negsuc k) side le = absurd (omega (arith, ints))
by_up m (negsuc j) z (above h) le = absurd (omega (arith, ints))
by_up m (negsuc j) (pos k) (below h) le = absurd (omega (arith, ints))
by_up m (negsuc j) (negsuc k) side le =
    let more : suc k ≤ suc j = omega (arith, ints) in
    let less = larger_divisor (suc m) (suc k) (suc j) (omega arith) more in omega (arith, ints)
by_up m (pos zero) (pos k) (below h) le = absurd (omega (arith, ints))

first_side : (x n y : ℤ) → OneSide x y → n ≤ℤ y → OneSide x n
first_side x n y (above h) le = above h
first_side x n y (below h) le = below (omega (arith, ints))

second_side : (x n y : ℤ) → OneSide x y → x ≤ℤ n → OneSide n y
second_side x n y (above h) le = above (omega (arith, ints))
second_side x n y (below h) le = below h

over_among : (x first n second : ℤ) → OneSide first second → first ≤ℤ n → n ≤ℤ second
    → IsAmong (int_div x first) (int_div x n) (int_div x second)
over_among (pos m) first n second side low high =
    falls (int_div (pos m) first) (int_div (pos m) n) (int_div (pos m) second)
    (by_down m n second (second_side first n second side low) high)
    (by_down m first n (first_side first n second side high) low)
over_among (negsuc m) first n second side low high =
    rises (int_div (negsuc m) first) (int_div (negsuc m) n) (int_div (negsuc m) second)
    (by_up m first n (first_side first n second side high) low)
    (by_up m n second (second_side first n second side low) high)

some_first : (x y : ℤ) → OneSide x y → x ≤ℤ y → x ≢ pos 0
some_first x y (above h) le same = absurd (omega (arith, ints, same))
some_first x y (below h) le same = absurd (omega (arith, ints, same))

some_second : (x y : ℤ) → OneSide x y → x ≤ℤ y → y ≢ pos 0
some_second x y (above h) le same = absurd (omega (arith, ints, same))
some_second x y (below h) le same = absurd (omega (arith, ints, same))

pub quotient_has : (a b : Bounds) (n m : ℤ) → OneSide b.lo b.hi → Has a n → Has b m
    → Has (quotient a b) (int_div n m)
quotient_has a b n m side first second =
    let low = second.low in
    let high = second.high in
    let order : b.lo ≤ℤ b.hi = omega (arith, ints) in
    corners int_div a b n m
    (over_among n b.lo m b.hi side low high)
    (among_over a.lo n a.hi b.lo (some_first b.lo b.hi side order) first.low first.high)
    (among_over a.lo n a.hi b.hi (some_second b.lo b.hi side order) first.low first.high)
