-- The text of a number of 128 bits is read as the number.
use Rattle.std.proofs.Common.{◌≡◌, ℕ, suc, ℤ, pos, negsuc, neg_ℤ, List, ◌∷◌, refl, ap, ◌∙◌}
use Rattle.std.proofs.Common.{subst, arith}
use Rattle.std.specs.Prelude.{Result, Ok, decimal, FitsSigned}
use Rattle.std.specs.Int.{w128}
use Rattle.std.specs.Fmt.{signed_decimal}
use Rattle.std.specs.Str.Parse.{ParsesSigned}
use Rattle.std.proofs.lemmas.Fmt.{decimal_is_IsNumeral_wide}
use Rattle.std.proofs.lemmas.Result.{Ok-from_Ok_iff}
use Rattle.std.proofs.lemmas.Str.Parse.{numerals_by_value, tells_digits, parse_signed_minus}
use Rattle.std.proofs.lemmas.Str.Parse.{parse_signed_digits}

pub read_signed : {E : Type 0} (z : ℤ) (bs : List ℕ) (r : Result ℤ E) → FitsSigned w128 z
    → bs ≡ signed_decimal z → ParsesSigned w128 10 bs r → r ≡ Ok z
read_signed (pos n) bs r fits is h =
    let k = decimal_is_IsNumeral_wide n (omega (arith, fits.sfits)) in
    let read = parse_signed_digits (numerals_by_value _ tells_digits) w128 (decimal n) r
    (subst (λ l. ParsesSigned w128 10 l r) is h) k.0.1 in
    Ok-from_Ok_iff r _ _ read (k.0.0, omega (arith, k.1, fits.sfits)) ∙ ap (λ m. Ok (pos m)) k.1
read_signed (negsuc n) bs r fits is h =
    let k = decimal_is_IsNumeral_wide (suc n) (omega (arith, fits.sfits)) in
    let read = parse_signed_minus (numerals_by_value _ tells_digits) w128
    (45 ∷ decimal (suc n)) r (subst (λ l. ParsesSigned w128 10 l r) is h) refl in
    Ok-from_Ok_iff r _ _ read (k.0.1, k.0.0, omega (arith, k.1, fits.sfits))
    ∙ ap (λ m. Ok (neg_ℤ (pos m))) k.1
