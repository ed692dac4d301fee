-- The ends of signed types, and numbers near a number of the range.
use Rattle.std.proofs.Common.{◌≡◌, ◌≢◌, ◌⊎◌, inl, inr, ℕ, ◌+◌, ◌-◌, ◌^◌, ◌≤◌, ℤ, pos, negsuc, ◌+ℤ◌}
use Rattle.std.proofs.Common.{◌<ℤ◌, Bool, true, refl, arith}
use Rattle.std.proofs.lemmas.Int.{ints, by_lt_z}
use Rattle.cpa_ints.specs.declared.integers.IntType.{IntType}
use Rattle.cpa_ints.specs.declared.integers.IntType.TheVariants as ty
use Rattle.cpa_ints.specs.Integers.{width, is_signed, least, greatest, IsInRange}
use Rattle.cpa_ints.specs.Wrapping.{wrapped}
use Rattle.cpa_ints.specs.lemmas.Congruence.{Same, Same-unique}
use Rattle.cpa_ints.specs.lemmas.Arithmetic.{near}
use Rattle.cpa_trap_checks.specs.Wraps.{IsBeyond}

-- a signed type has one negative number more than it has positive ones
pub record Ends (t : IntType) : Type 0 where
  pub most : ℕ
  pub some : 1 ≤ most
  pub greatest_is : greatest t ≡ pos most
  pub least_is : least t ≡ negsuc most
  pub window : 2 ^ width t ≡ most + most + 2
  pub modular : t ≢ ty.Bool

pub signed_ends : (t : IntType) → is_signed t ≡ true → Ends t
signed_ends ty.Bool h = absurd (cc)
signed_ends ty.I8 h = record {
  most = 2 ^ 7 - 1;
  some = omega arith;
  greatest_is = refl;
  least_is = refl;
  window = refl;
  modular = λ e. cc;
}
signed_ends ty.U8 h = absurd (cc)
signed_ends ty.I16 h = record {
  most = 2 ^ 15 - 1;
  some = omega arith;
  greatest_is = refl;
  least_is = refl;
  window = refl;
  modular = λ e. cc;
}
signed_ends ty.U16 h = absurd (cc)
signed_ends ty.I32 h = record {
  most = 2 ^ 31 - 1;
  some = omega arith;
  greatest_is = refl;
  least_is = refl;
  window = refl;
  modular = λ e. cc;
}
signed_ends ty.U32 h = absurd (cc)
signed_ends ty.I64 h = record {
  most = 2 ^ 63 - 1;
  some = omega arith;
  greatest_is = refl;
  least_is = refl;
  window = refl;
  modular = λ e. cc;
}
signed_ends ty.U64 h = absurd (cc)

-- a number is one of the range, or beyond it, and not both
pub within_or_beyond : (t : IntType) (n : ℤ) → IsInRange t n ⊎ IsBeyond t n
within_or_beyond t n =
    by_lt_z n (least t) (λ low. inr (inl low)) (λ above. by_lt_z (greatest t) n
    (λ high. inr (inr high)) (λ below. inl (above, below)))

pub not_both_ways : (t : IntType) (n : ℤ) → IsInRange t n → IsBeyond t n → ⊥
not_both_ways t n r b =
    let low = r.0 in
    let high = r.1 in
    elim b [
      | inl h ↦ absurd (omega (arith, ints, low, h))
      | inr h ↦ absurd (omega (arith, ints, high, h))
    ]

-- a number that lies less than 2^width from the number that it wraps to is that number
pub close : (t : IntType) → t ≢ ty.Bool → (n : ℤ) → wrapped t n <ℤ (n +ℤ pos (2 ^ width t))
    → n <ℤ (wrapped t n +ℤ pos (2 ^ width t)) → wrapped t n ≡ n
close t h n above below =
    let m = 2 ^ width t in
    let w = wrapped t n in
    by_lt_z n w
    (λ less. Same-unique m n w n (omega (arith, ints, less)) above (omega (arith, ints))
    (omega (arith, ints, above, less)) (near t h n))
    (λ most. Same-unique m w w n (omega (arith, ints)) (omega (arith, ints, most, below)) most below
    (near t h n))
