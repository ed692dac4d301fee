-- Clauses (Robinson 1965), as the ascending list of their literals, each once.
use Rattle.std.specs.Prelude.{ℕ, ◌==◌, ◌≤◌, ◌+◌, ◌||◌, Bool, false, List, [], ◌∷◌}

-- the literal stands in the list
abbrev pub has : List ℕ → ℕ → Bool
has [] l = false
has (x ∷ xs) l = (x == l) || has xs l

-- each number is at least n and below the one behind it
abbrev pub AscendsFrom : ℕ → List ℕ → Type 0
AscendsFrom n [] = Unit {0}
AscendsFrom n (x ∷ xs) = (n ≤ x) × AscendsFrom (x + 1) xs

-- sorted by variable, the positive literal first, each literal once
abbrev pub IsClause : List ℕ → Type 0
IsClause xs = AscendsFrom 0 xs
