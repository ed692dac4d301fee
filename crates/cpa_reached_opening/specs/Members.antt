-- Members of lists, by recursion (this project's own).
use Rattle.std.specs.Prelude.{◌≡◌, ℕ, ◌==◌, Bool, List, [], ◌∷◌, ◌⊎◌}
use Rattle.std.specs.List.{list_any}

-- the item is one of the list
abbrev pub IsIn : {X : Type 0} → X → List X → Type 0
IsIn x [] = ⊥
IsIn x (y ∷ ys) = (y ≡ x) ⊎ IsIn x ys

-- the number is one of the list, as a test
abbrev pub is_in : ℕ → List ℕ → Bool
is_in n ns = list_any (λ m. m == n) ns
