-- The least number of which something holds (this project's own).
use Rattle.std.specs.Prelude.{ℕ, ◌≤◌, Option, None, Some}

-- None where it holds of no number, and else the least one
abbrev pub FindsLeast : (ℕ → Type 0) → Option ℕ → Type 0
FindsLeast holds None = (number : ℕ) → holds number → ⊥
FindsLeast holds (Some least) = holds least × ((number : ℕ) → holds number → least ≤ number)
