-- Conversion to an integer type (C11 6.3.1.2 and 6.3.1.3; signed types wrap as gcc defines it):
-- congruence and range name the number, and `wrapped` computes it.
use Rattle.std.specs.Prelude.{ℕ, ◌^◌, ◌≡◌, ◌≢◌, ℤ, pos, ◌+ℤ◌, ◌-ℤ◌, ◌*ℤ◌, if◌then◌else◌}
use Rattle.std.specs.Int.{int_rem_euclid}
use Rattle.std.specs.Ordering.{int_eq}
use Rattle.cpa_ints.specs.declared.integers.IntType.{IntType}
use Rattle.cpa_ints.specs.declared.integers.IntType.TheVariants as ty
use Rattle.cpa_ints.specs.Integers.{width, least, IsInRange}

-- n and m differ by a multiple of 2 to the power of bits
abbrev pub IsCongruent : ℕ → ℤ → ℤ → Type 0
IsCongruent bits n m = (k : ℤ) × (n ≡ m +ℤ k *ℤ pos (2 ^ bits))

-- m is 0 where n is 0, and 1 otherwise
abbrev pub IsTruth : ℤ → ℤ → Type 0
IsTruth n m = (n ≡ pos 0 → m ≡ pos 0) × (n ≢ pos 0 → m ≡ pos 1)

-- m is the number of t's range to which n wraps
pub record IsWrapOf (t : IntType) (n m : ℤ) : Type 0 where
  pub in_range : IsInRange t m
  pub truth : t ≡ ty.Bool → IsTruth n m
  pub congruent : t ≢ ty.Bool → IsCongruent (width t) n m

-- that number: n's distance from the least value, reduced modulo 2^width, and counted from there;
-- 0 or 1 for Bool
unfoldable pub wrapped : IntType → ℤ → ℤ
wrapped ty.Bool n = if int_eq n (pos 0) then pos 0 else pos 1
wrapped t n = least t +ℤ int_rem_euclid (n -ℤ least t) (pos (2 ^ width t))
