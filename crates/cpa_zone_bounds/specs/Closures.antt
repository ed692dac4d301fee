-- The closure of bounds: each is the length of a shortest way, where a bound is the length of a
-- step (Floyd, CACM 1962, algorithm 97). A way back that is shorter than none leaves no numbers.
use Rattle.std.specs.Prelude.{◌≡◌, ℕ, zero, suc, ◌<◌, ℤ, pos, ◌+ℤ◌, ◌-ℤ◌, ◌≤ℤ◌, int_le, Bool, true}
use Rattle.std.specs.Prelude.{◌&&◌, if◌then◌else◌, List, Option, None, Some, option_and_then}
use Rattle.std.specs.Int.{int_min}
use Rattle.cpa_zone_bounds.specs.Distances.{entry, table, Meets}

-- a bound, or the sum of those through row k where that is less
abbrev pub by_way : ℕ → ℕ → List ℤ → ℕ → ℕ → ℤ
by_way n k most i j = int_min (entry n most i j) (entry n most i k +ℤ entry n most k j)

-- so it is with each bound
abbrev pub through : ℕ → ℕ → List ℤ → List ℤ
through n k most = table n (by_way n k most)

-- no way from one of the first rows to row k and back is shorter than none
abbrev pub come_back : ℕ → ℕ → List ℤ → ℕ → Bool
come_back n k most zero = true
come_back n k most (suc i) =
    come_back n k most i && int_le (pos 0) (entry n most i k +ℤ entry n most k i)

-- the ways that may go through row k besides; nothing where one that comes back is shorter than
-- none
abbrev pub opened : ℕ → ℕ → List ℤ → Option (List ℤ)
opened n k most = if come_back n k most n then Some (through n k most) else None

-- the ways through the first k rows
abbrev pub closed_through : ℕ → ℕ → List ℤ → Option (List ℤ)
closed_through n zero most = Some most
closed_through n (suc k) most = option_and_then (opened n k) (closed_through n k most)

-- the ways through all rows
abbrev pub closure : ℕ → List ℤ → Option (List ℤ)
closure n most = closed_through n n most

-- Each bound is at most the sum of any two that go through a third row, or through row 0.
pub record IsClosed (n : ℕ) (most : List ℤ) : Type 0 where
  pub own : (i : ℕ) → i < n → entry n most i i ≡ pos 0
  pub ways : (i j k : ℕ) → i < n → j < n → k < n
      → entry n most i j ≤ℤ (entry n most i k +ℤ entry n most k j)

-- numbers, 0 in row 0, that differ by no more, and two of them by as much as they may
pub record Attains (n : ℕ) (most : List ℤ) (i j : ℕ) (x : ℕ → ℤ) : Type 0 where
  pub meets : Meets n most x
  pub first : x 0 ≡ pos 0
  pub as_much : (x i -ℤ x j) ≡ entry n most i j
