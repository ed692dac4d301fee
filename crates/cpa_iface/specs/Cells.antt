-- Cells at their own places in a list (this project's own).
use Rattle.std.specs.Prelude.{ℕ, suc, ◌+◌, ◌==◌, List, [], ◌∷◌, if◌then◌else◌}

-- how many of the first cells are the consecutive ones from this one on
abbrev pub consecutive_from : ℕ → List ℕ → ℕ
consecutive_from n [] = 0
consecutive_from n (cell ∷ cells) =
    if cell == n then suc (consecutive_from (n + 1) cells) else 0

-- how many of the first cells stand at their own places
abbrev pub own_places : List ℕ → ℕ
own_places cells = consecutive_from 0 cells
