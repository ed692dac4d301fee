-- The widening of bounds (POPL 1977, with thresholds; this project's own).
use Rattle.std.specs.Prelude.{ℤ, int_le, int_lt, List, [], ◌∷◌, if◌then◌else◌}
use Rattle.std.specs.Int.{int_max, int_min}
use Rattle.cpa_ints.specs.declared.integers.IntType.{IntType}
use Rattle.cpa_ints.specs.Integers.{least, greatest}
use Rattle.cpa_interval_bounds.specs.declared.bounds.Bounds.{Bounds}
use Rattle.cpa_interval_bounds.specs.Bounds.{bounds}

-- the greatest of low and of the numbers that are at most end
abbrev pub next_down : List ℤ → ℤ → ℤ → ℤ
next_down [] low end = low
next_down (n ∷ ns) low end = next_down ns (if int_le n end then int_max low n else low) end

-- the least of high and of the numbers that are at least end
abbrev pub next_up : List ℤ → ℤ → ℤ → ℤ
next_up [] high end = high
next_up (n ∷ ns) high end = next_up ns (if int_le end n then int_min high n else high) end

-- An end that the new bounds move goes on to the next number, or to the type's end; one that they
-- do not move stays.
abbrev pub widened : List ℤ → IntType → Bounds → Bounds → Bounds
widened ns t old new =
    bounds (if int_lt new.lo old.lo then next_down ns (least t) new.lo else old.lo)
    (if int_lt old.hi new.hi then next_up ns (greatest t) new.hi else old.hi)
