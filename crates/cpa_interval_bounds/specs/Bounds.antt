-- Bounds as sets of numbers: those from a least to a greatest one (this project's own).
use Rattle.std.specs.Prelude.{ℤ, ◌≤ℤ◌, int_le, Bool, ◌&&◌, if◌then◌else◌, Option, None, Some}
use Rattle.std.specs.Int.{int_max, int_min}
use Rattle.cpa_ints.specs.declared.integers.IntType.{IntType}
use Rattle.cpa_ints.specs.Integers.{least, greatest}
use Rattle.cpa_interval_bounds.specs.declared.bounds.Bounds.{Bounds}

-- the number is one of these
pub record Has (b : Bounds) (n : ℤ) : Type 0 where
  pub low : b.lo ≤ℤ n
  pub high : n ≤ℤ b.hi

-- there is such a number, and all of them are numbers of the type
pub record IsOf (t : IntType) (b : Bounds) : Type 0 where
  pub order : b.lo ≤ℤ b.hi
  pub low : least t ≤ℤ b.lo
  pub high : b.hi ≤ℤ greatest t

abbrev pub bounds : ℤ → ℤ → Bounds
bounds lo hi = record { lo = lo; hi = hi }

-- one number alone
abbrev pub only : ℤ → Bounds
only n = bounds n n

-- all numbers of a type
abbrev pub range_of : IntType → Bounds
range_of t = bounds (least t) (greatest t)

-- the numbers from lo to hi, where there are any
abbrev pub between : ℤ → ℤ → Option Bounds
between lo hi = if int_le lo hi then Some (bounds lo hi) else None

-- the number is one of these, as a test
abbrev pub has : Bounds → ℤ → Bool
has b n = int_le b.lo n && int_le n b.hi

-- both ends of a are numbers of b, so all its numbers are
abbrev pub is_inside : Bounds → Bounds → Bool
is_inside a b = has b a.lo && has b a.hi

-- the least bounds that have the numbers of both
abbrev pub hull : Bounds → Bounds → Bounds
hull a b = bounds (int_min a.lo b.lo) (int_max a.hi b.hi)

-- the hull of what there is
abbrev pub hull_where_some : Option Bounds → Option Bounds → Option Bounds
hull_where_some (Some a) (Some b) = Some (hull a b)
hull_where_some (Some a) None = Some a
hull_where_some None b = b

-- the numbers of both, where there are any
abbrev pub meet : Bounds → Bounds → Option Bounds
meet a b = between (int_max a.lo b.lo) (int_min a.hi b.hi)

-- the bounds where they fit the type, and else all its numbers, since a number beyond its range
-- wraps to any of them
abbrev pub fitted : IntType → Bounds → Bounds
fitted t b = if is_inside b (range_of t) then b else range_of t
