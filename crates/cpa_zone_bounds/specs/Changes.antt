-- What becomes of bounds where one of the numbers changes, or more is known of two of them.
use Rattle.std.specs.Prelude.{◌≡◌, ◌≢◌, ℕ, ◌+◌, ◌*◌, ◌^◌, ◌<◌, ◌==◌, nat_le, nat_lt, ℤ, pos}
use Rattle.std.specs.Prelude.{neg_ℤ, ◌+ℤ◌, ◌-ℤ◌, ◌≤ℤ◌, Bool, false, ◌&&◌, ◌||◌, if◌then◌else◌}
use Rattle.std.specs.Prelude.{List, length, slice_set, ⊤}
use Rattle.std.specs.Int.{int_max, int_min}
use Rattle.cpa_zone_bounds.specs.declared.ranges.Range.{Range}
use Rattle.cpa_zone_bounds.specs.declared.changes.Change.{Change}
use Rattle.cpa_zone_bounds.specs.declared.changes.Change.TheVariants.{Everything, Forgotten}
use Rattle.cpa_zone_bounds.specs.declared.changes.Change.TheVariants.{Shifted}
use Rattle.cpa_zone_bounds.specs.Distances.{entry, table, widest, far}

-- no less than what is kept: no numbers of 32 bits differ by so much, so nothing is lost
abbrev pub not_below : ℤ → ℤ
not_below d = int_max (neg_ℤ far) d

-- the lesser of two bounds, where it is kept
abbrev pub lesser : ℤ → ℤ → ℤ
lesser own d = not_below (int_min own d)

-- number i minus number j is at most d, too
abbrev pub tightened : ℕ → ℕ → ℕ → ℤ → List ℤ → List ℤ
tightened n i j d most = slice_set most (i * n + j) (lesser (entry n most i j) d)

-- a bound, and what the two ranges give for it at most
abbrev pub kept_within : List Range → ℕ → ℕ → ℤ → ℤ
kept_within ranges i j d = lesser (widest ranges i j) d

-- the row is one of these
abbrev pub is_among : ℕ → ℕ → ℕ → Bool
is_among start end row = nat_le start row && nat_lt row end

-- the bound in row i and column j after the change, where it was d: nothing is known of any number,
-- or of some, or one grew and stayed in its range
abbrev pub after_change : List Range → Change → ℕ → ℕ → ℤ → ℤ
after_change ranges Everything i j d = widest ranges i j
after_change ranges (Forgotten start end) i j d =
    if is_among start end i || is_among start end j then widest ranges i j else d
after_change ranges (Shifted row by) i j d =
    if i == j then d
    else if i == row then kept_within ranges i j (d +ℤ by)
    else if j == row then kept_within ranges i j (d -ℤ by)
    else d

-- the bounds after the change
abbrev pub changed : List Range → Change → List ℤ → List ℤ
changed ranges change most =
    table (length ranges) (λ i j. after_change ranges change i j (entry (length ranges) most i j))

-- from the least to the greatest sum of a number of 64 bits and a few others
pub record IsModest (n : ℤ) : Type 0 where
  pub low : neg_ℤ (pos (2 ^ 66)) ≤ℤ n
  pub high : n ≤ℤ pos (2 ^ 66)

-- a number grows by no more
abbrev pub IsSmall : Change → Type 0
IsSmall Everything = ⊤
IsSmall (Forgotten start end) = ⊤
IsSmall (Shifted row by) = IsModest by

-- the numbers after the change beside those before: only those of its rows may differ
abbrev pub Become : List Range → Change → (ℕ → ℤ) → (ℕ → ℤ) → Type 0
Become ranges Everything x y = ⊤
Become ranges (Forgotten start end) x y =
    (i : ℕ) → i < length ranges → is_among start end i ≡ false → y i ≡ x i
Become ranges (Shifted row by) x y =
    (y row ≡ x row +ℤ by) × ((i : ℕ) → i < length ranges → i ≢ row → y i ≡ x i)
