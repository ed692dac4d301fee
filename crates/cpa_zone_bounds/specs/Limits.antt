-- What two bounds of one difference are merged to: the greater one, or the next of some numbers
-- (widening: POPL 1977; with thresholds: Blanchet et al., PLDI 2003, section 7.1.2). A bound that
-- is not below what the ranges give says nothing.
use Rattle.std.specs.Prelude.{ℕ, ◌+◌, ℤ, int_le, int_lt, Bool, true, false, if◌then◌else◌, List, []}
use Rattle.std.specs.Prelude.{◌∷◌}
use Rattle.std.specs.Int.{int_max, int_min}

-- the least of top and of the numbers that are at least end
abbrev pub next_number : List ℤ → ℤ → ℤ → ℤ
next_number [] top end = top
next_number (n ∷ ns) top end =
    next_number ns (if int_le end n then int_min top n else top) end

-- the greater one
abbrev pub joined : ℤ → ℤ → ℤ
joined old new = int_max old new

-- the old one where it is at least the new one, and else the least number that is
abbrev pub widened : List ℤ → ℤ → ℤ → ℤ → ℤ
widened ns top old new = if int_le new old then old else next_number ns top new

abbrev pub one_where : Bool → ℕ
one_where true = 1
one_where false = 0

-- how many of the numbers are above the bound
abbrev pub count_above : List ℤ → ℤ → ℕ
count_above [] d = 0
count_above (n ∷ ns) d = one_where (int_lt d n) + count_above ns d

-- how often a bound can be widened: to each number above it, and to what says nothing
abbrev pub steps : List ℤ → ℤ → ℤ → ℕ
steps ns top d = if int_lt d top then 1 + count_above ns d else 0
