-- What the operations on bounds are as sets of numbers.
use Rattle.std.proofs.Common.{◌≡◌, ℤ, ◌≤ℤ◌, ◌<ℤ◌, Bool, true, false, refl, sym}
use Rattle.std.proofs.Common.{subst, arith, cond}
use Rattle.std.specs.Prelude.{int_le, int_lt, None, Some, IsSomeAnd}
use Rattle.std.specs.Int.{int_max, int_min}
use Rattle.std.proofs.lemmas.Int.{ints, clamps}
use Rattle.std.proofs.lemmas.Bool.{and_parts}
use Rattle.cpa_interval_bounds.specs.declared.bounds.Bounds.{Bounds}
use Rattle.cpa_interval_bounds.specs.Bounds.{Has, bounds, between, has, hull, meet}

pub le_true : (a b : ℤ) → a ≤ℤ b → int_le a b ≡ true
le_true a b h = grind (arith, ints)

pub le_false : (a b : ℤ) → b <ℤ a → int_le a b ≡ false
le_false a b h = grind (arith, ints)

pub from_le : (a b : ℤ) → int_le a b ≡ true → a ≤ℤ b
from_le a b h = grind (arith, ints)

pub from_not_le : (a b : ℤ) → int_le a b ≡ false → b <ℤ a
from_not_le a b h = grind (arith, ints)

pub lt_true : (a b : ℤ) → a <ℤ b → int_lt a b ≡ true
lt_true a b h = grind (arith, ints)

pub from_lt : (a b : ℤ) → int_lt a b ≡ true → a <ℤ b
from_lt a b h = grind (arith, ints)

pub from_not_lt : (a b : ℤ) → int_lt a b ≡ false → b ≤ℤ a
from_not_lt a b h = grind (arith, ints)

-- the test says what is meant
pub has_means : (b : Bounds) (n : ℤ) → has b n ≡ true → Has b n
has_means b n h =
    let both = and_parts (int_le b.lo n) (int_le n b.hi) h in
    record { low = from_le b.lo n both.0; high = from_le n b.hi both.1 }

pub has_from : (b : Bounds) (n : ℤ) → Has b n → has b n ≡ true
has_from b n h =
    rw (le_true b.lo n h.low) (le_true n b.hi h.high)

-- the numbers from one to another are those between
pub between_has : (lo hi n : ℤ) → lo ≤ℤ n → n ≤ℤ hi → IsSomeAnd (between lo hi) (λ b. Has b n)
between_has lo hi n low high =
    let order : lo ≤ℤ hi = omega (arith, ints) in
    rw (le_true lo hi order) (record { low = low; high = high })

-- and no others
pub between_is : (lo hi : ℤ) (b : Bounds) → between lo hi ≡ Some b
    → (lo ≤ℤ hi) × (b ≡ bounds lo hi)
between_is lo hi b is = by (int_le lo hi) refl is where
  by : (x : Bool) → int_le lo hi ≡ x → cond x (Some (bounds lo hi)) None ≡ Some b
      → (lo ≤ℤ hi) × (b ≡ bounds lo hi)
  by true order same = (from_le lo hi order, cc)
  by false order same = absurd (cc)

-- a number of both is one of the meet
pub meet_has : (a b : Bounds) (n : ℤ) → Has a n → Has b n → IsSomeAnd (meet a b) (λ c. Has c n)
meet_has a b n first second =
    let a_low = first.low in let a_high = first.high in
    let b_low = second.low in let b_high = second.high in
    between_has (int_max a.lo b.lo) (int_min a.hi b.hi) n
    (omega (arith, ints, clamps)) (omega (arith, ints, clamps))

pub record IsMeet (a b c : Bounds) : Type 0 where
  pub order : c.lo ≤ℤ c.hi
  pub left_low : a.lo ≤ℤ c.lo
  pub left_high : c.hi ≤ℤ a.hi
  pub right_low : b.lo ≤ℤ c.lo
  pub right_high : c.hi ≤ℤ b.hi

-- the meet lies in both
pub meet_is : (a b c : Bounds) → meet a b ≡ Some c → IsMeet a b c
meet_is a b c is =
    let it = between_is (int_max a.lo b.lo) (int_min a.hi b.hi) c is in
    let order = it.0 in
    let whole : IsMeet a b (bounds (int_max a.lo b.lo) (int_min a.hi b.hi)) = record {
      order = order;
      left_low = omega (arith, ints, clamps);
      left_high = omega (arith, ints, clamps);
      right_low = omega (arith, ints, clamps);
      right_high = omega (arith, ints, clamps);
    } in
    subst (IsMeet a b) (sym it.1) whole

-- the hull has the numbers of both
pub hull_left : (a b : Bounds) (n : ℤ) → Has a n → Has (hull a b) n
hull_left a b n h =
    let low = h.low in let high = h.high in
    record { low = omega (arith, ints, clamps); high = omega (arith, ints, clamps) }

pub hull_right : (a b : Bounds) (n : ℤ) → Has b n → Has (hull a b) n
hull_right a b n h =
    let low = h.low in let high = h.high in
    record { low = omega (arith, ints, clamps); high = omega (arith, ints, clamps) }
