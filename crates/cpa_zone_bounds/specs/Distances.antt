-- Bounds of the differences of numbers, in a square of rows and columns (difference-bound matrices:
-- Dill, 1989; Miné, PADO 2001). The bound in row i and column j is one of number i minus number j;
-- row 0 stands for the number 0.
use Rattle.std.specs.Prelude.{◌≡◌, ℕ, ◌+◌, ◌*◌, ◌/◌, ◌%◌, ◌^◌, ◌<◌, ◌≤◌, ◌==◌, ℤ, pos, neg_ℤ}
use Rattle.std.specs.Prelude.{◌-ℤ◌, ◌≤ℤ◌, List, length, map, get_or, if◌then◌else◌}
use Rattle.std.specs.List.{range_with_len, All}
use Rattle.cpa_zone_bounds.specs.declared.ranges.Range.{Range}

-- the range of each row's number, and the bounds, row after row
pub record Square : Type 0 where
  pub ranges : List Range
  pub most : List ℤ

-- how many rows there are
abbrev pub rows_of : Square → ℕ
rows_of s = length s.ranges

-- the bound in this row and column, where there are n rows
abbrev pub entry : ℕ → List ℤ → ℕ → ℕ → ℤ
entry n most i j = get_or most (i * n + j) (pos 0)

-- the bound of number i minus number j
abbrev pub bound : Square → ℕ → ℕ → ℤ
bound s i j = entry (rows_of s) s.most i j

-- the bounds of n rows that d gives
abbrev pub table : ℕ → (ℕ → ℕ → ℤ) → List ℤ
table n d = map (λ place. d (place / n) (place % n)) (range_with_len 0 (n * n))

-- the number 0 alone
abbrev pub zero_range : Range
zero_range = record { least = pos 0; greatest = pos 0 }

abbrev pub range_at : List Range → ℕ → Range
range_at ranges i = get_or ranges i zero_range

-- what the ranges of two numbers give for their difference
abbrev pub widest : List Range → ℕ → ℕ → ℤ
widest ranges i j =
    if i == j then pos 0 else (range_at ranges i).greatest -ℤ (range_at ranges j).least

-- numbers of 32 bits, with a sign or without
pub record IsNarrow (r : Range) : Type 0 where
  pub low : neg_ℤ (pos (2 ^ 31)) ≤ℤ r.least
  pub order : r.least ≤ℤ r.greatest
  pub high : r.greatest ≤ℤ pos (2 ^ 32)

-- one row at least, and the first one for the number 0; no more than those of sixteen cells beside
-- it
pub record AreRanges (ranges : List Range) : Type 0 where
  pub some : 0 < length ranges
  pub few : length ranges ≤ 17
  pub first : range_at ranges 0 ≡ zero_range
  pub narrow : All IsNarrow ranges

-- no two numbers of 32 bits differ by as much
abbrev pub far : ℤ
far = pos (2 ^ 34)

-- from the least to the greatest difference that is kept
pub record IsKept (d : ℤ) : Type 0 where
  pub low : neg_ℤ far ≤ℤ d
  pub high : d ≤ℤ pos (2 ^ 33)

-- each number differs from itself by 0
abbrev pub AreOwn : ℕ → List ℤ → Type 0
AreOwn n most = (i : ℕ) → i < n → entry n most i i ≡ pos 0

-- Bounds of these ranges: none is beyond what is kept, and each number differs from itself by 0.
pub record AreBounds (ranges : List Range) (most : List ℤ) : Type 0 where
  pub of_ranges : AreRanges ranges
  pub square : length most ≡ length ranges * length ranges
  pub kept : All IsKept most
  pub own : AreOwn (length ranges) most

-- The numbers, one for each row, differ by no more.
pub record Meets (n : ℕ) (most : List ℤ) (x : ℕ → ℤ) : Type 0 where
  pub differ : (i j : ℕ) → i < n → j < n → (x i -ℤ x j) ≤ℤ entry n most i j

-- each number lies in the range of its row, so the first one is 0
pub record AreInside (ranges : List Range) (x : ℕ → ℤ) : Type 0 where
  pub low : (i : ℕ) → i < length ranges → (range_at ranges i).least ≤ℤ x i
  pub high : (i : ℕ) → i < length ranges → x i ≤ℤ (range_at ranges i).greatest
