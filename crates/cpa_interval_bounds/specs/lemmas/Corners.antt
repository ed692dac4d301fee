-- What a function of two numbers gives lies in the hull of what it gives for the ends, where it
-- rises or falls in each of them.
use Rattle.std.proofs.Common.{ℤ}
use Rattle.std.proofs.Common.{◌≤ℤ◌, arith, inl, inr}
use Rattle.std.specs.Prelude.{◌⊎◌}
use Rattle.std.proofs.lemmas.Int.{ints, clamps}
use Rattle.cpa_interval_bounds.specs.declared.bounds.Bounds.{Bounds}
use Rattle.cpa_interval_bounds.specs.Bounds.{Has, only, hull}
use Rattle.cpa_interval_bounds.specs.Arithmetic.{of_ends}

-- between the first and the second, or the other way round
pub record IsAmong (first n second : ℤ) : Type 0 where
  pub among : ((first ≤ℤ n) × (n ≤ℤ second)) ⊎ ((second ≤ℤ n) × (n ≤ℤ first))

pub rises : (first n second : ℤ) → first ≤ℤ n → n ≤ℤ second → IsAmong first n second
rises first n second low high = record { among = inl (low, high) }

pub falls : (first n second : ℤ) → second ≤ℤ n → n ≤ℤ first → IsAmong first n second
falls first n second low high = record { among = inr (low, high) }

-- no lower than a lower bound of both, and no higher than an upper one
least_of : (l first n second : ℤ) → IsAmong first n second → l ≤ℤ first → l ≤ℤ second → l ≤ℤ n
least_of l first n second h low other =
    elim h.among [
      | inl p ↦ let it = p.0 in omega (arith, ints)
      | inr p ↦ let it = p.0 in omega (arith, ints)
    ]

greatest_of : (g first n second : ℤ) → IsAmong first n second → first ≤ℤ g → second ≤ℤ g → n ≤ℤ g
greatest_of g first n second h high other =
    elim h.among [
      | inl p ↦ let it = p.1 in omega (arith, ints)
      | inr p ↦ let it = p.1 in omega (arith, ints)
    ]

pub record IsUnder (a : Bounds) (lo hi : ℤ) : Type 0 where
  pub low : lo ≤ℤ a.lo
  pub high : a.hi ≤ℤ hi

hull_under : (a b : Bounds) → (IsUnder a (hull a b).lo (hull a b).hi)
    × (IsUnder b (hull a b).lo (hull a b).hi)
hull_under a b = (
  record { low = omega (arith, ints, clamps); high = omega (arith, ints, clamps) },
  record { low = omega (arith, ints, clamps); high = omega (arith, ints, clamps) },
)

further : (a b : Bounds) (lo hi : ℤ) → IsUnder (hull a b) lo hi → IsUnder a lo hi × IsUnder b lo hi
further a b lo hi h =
    let both = hull_under a b in
    let first = both.0 in
    let second = both.1 in
    let low = h.low in
    let high = h.high in
    let a_low = first.low in let a_high = first.high in
    let b_low = second.low in let b_high = second.high in (
      record { low = omega (arith, ints); high = omega (arith, ints) },
      record { low = omega (arith, ints); high = omega (arith, ints) },
    )

-- the four corners have all between
pub corners : (f : ℤ → ℤ → ℤ) (a b : Bounds) (n m : ℤ)
    → IsAmong (f n b.lo) (f n m) (f n b.hi)
    → IsAmong (f a.lo b.lo) (f n b.lo) (f a.hi b.lo)
    → IsAmong (f a.lo b.hi) (f n b.hi) (f a.hi b.hi)
    → Has (of_ends f a b) (f n m)
corners f a b n m across lower upper =
    let whole = of_ends f a b in
    let p = only (f a.lo b.lo) in
    let q = only (f a.lo b.hi) in
    let r = only (f a.hi b.lo) in
    let s = only (f a.hi b.hi) in
    let halves = hull_under (hull p q) (hull r s) in
    let first = further p q whole.lo whole.hi halves.0 in
    let second = further r s whole.lo whole.hi halves.1 in
    record {
      low = least_of whole.lo (f n b.lo) (f n m) (f n b.hi) across
          (least_of whole.lo (f a.lo b.lo) (f n b.lo) (f a.hi b.lo) lower first.0.low second.0.low)
          (least_of whole.lo (f a.lo b.hi) (f n b.hi) (f a.hi b.hi) upper first.1.low
          second.1.low);
      high = greatest_of whole.hi (f n b.lo) (f n m) (f n b.hi) across
          (greatest_of whole.hi (f a.lo b.lo) (f n b.lo) (f a.hi b.lo) lower first.0.high
          second.0.high)
          (greatest_of whole.hi (f a.lo b.hi) (f n b.hi) (f a.hi b.hi) upper first.1.high
          second.1.high);
    }
