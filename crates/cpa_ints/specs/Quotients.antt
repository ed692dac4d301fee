-- What it means to divide whole numbers: toward zero (C11 6.5.5p6), and rounded down (a shift to
-- the right: C11 6.5.7p5 leaves negative numbers to the implementation, and gcc rounds down).
use Rattle.std.specs.Prelude.{◌≡◌, ℕ, ℤ, pos, ◌+ℤ◌, ◌*ℤ◌, ◌≤ℤ◌, ◌<◌, unsigned_abs}

-- r is 0 or has the sign of a
abbrev pub IsZeroOrSigned : ℤ → ℤ → Type 0
IsZeroOrSigned a r = (pos 0 ≤ℤ a → pos 0 ≤ℤ r) × (a ≤ℤ pos 0 → r ≤ℤ pos 0)

-- q is the quotient of a by b, with its fraction discarded, and r is what it leaves
pub record IsQuotient (a b q r : ℤ) : Type 0 where
  pub whole : a ≡ q *ℤ b +ℤ r
  pub smaller : unsigned_abs r < unsigned_abs b
  pub toward_zero : IsZeroOrSigned a r

-- q is the quotient of a by d rounded down: the greatest number that times d is at most a
pub record IsFloor (a : ℤ) (d : ℕ) (q : ℤ) : Type 0 where
  pub at_most : (q *ℤ pos d) ≤ℤ a
  pub greatest : (p : ℤ) → (p *ℤ pos d) ≤ℤ a → p ≤ℤ q
