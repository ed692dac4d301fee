-- The number that digits write grows with each digit.
use Rattle.std.proofs.Common.{◌≡◌, ℕ, ◌+◌, ◌*◌, ◌<◌, ◌≤◌, List, [], ◌∷◌, ◌++◌, take, drop, arith}
use Rattle.std.proofs.Common.{refl, ap, sym, ◌∙◌}
use Rattle.std.specs.Char.{digit_value}
use Rattle.std.specs.Str.Parse.{digits_value, digits_value_after}
use Rattle.std.proofs.Math.Nat.{mul-le-mul_left}
use Rattle.std.proofs.lemmas.List.{take-append-drop}

pub value_grows : (radix n : ℕ) (ds : List ℕ) → 0 < radix → n ≤ digits_value_after radix n ds
value_grows radix n [] some = omega arith
value_grows radix n (c ∷ cs) some =
    let ih = value_grows radix (n * radix + digit_value c) cs some in
    let le : n * 1 ≤ n * radix = mul-le-mul_left n (omega arith) in
    omega (arith, ih, le)

pub value_parts : (radix n : ℕ) (xs ys : List ℕ) →
    digits_value_after radix n (xs ++ ys) ≡ digits_value_after radix (digits_value_after radix n xs)
    ys
value_parts radix n [] ys = refl
value_parts radix n (x ∷ xs) ys = value_parts radix (n * radix + digit_value x) xs ys

-- the number of the first digits is at most that of all
pub value_of_front : (radix k : ℕ) (ds : List ℕ) → 0 < radix →
    digits_value radix (take k ds) ≤ digits_value radix ds
value_of_front radix k ds some =
    let whole : digits_value radix ds ≡ digits_value_after radix (digits_value radix (take k ds))
    (drop k ds) =
    sym (ap (digits_value radix) (take-append-drop k ds))
    ∙ value_parts radix 0 (take k ds) (drop k ds) in
    omega (arith, whole, value_grows radix (digits_value radix (take k ds)) (drop k ds) some)
