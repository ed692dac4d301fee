-- Facts in blocks (this project's own).
use Rattle.std.specs.Prelude.{◌≡◌, ℕ, ◌<◌, ◌≤◌, ⊤, List, [], ◌∷◌, ◌++◌, length}
use Rattle.std.specs.Prelude.{Option, None, Some, slice_get}
use Rattle.std.specs.List.{AllByRecursion}
use Rattle.cpa_facts.specs.declared.fact.Fact.{Fact}

-- what the lists hold, one after the other
abbrev pub joined : {X : Type 0} → List (List X) → List X
joined [] = []
joined (xs ∷ more) = xs ++ joined more

-- each block has 16 facts
abbrev pub AreFull : List (List Fact) → Type 0
AreFull blocks = AllByRecursion (λ block. length block ≡ 16) blocks

-- each block has facts, 16 at most, and so many where others follow
abbrev pub AreFilled : List (List Fact) → Type 0
AreFilled [] = ⊤
AreFilled (block ∷ blocks) = (0 < length block) × (length block ≤ 16)
    × (0 < length blocks → length block ≡ 16) × AreFilled blocks

-- what stands at a place of the block, where there is one
abbrev pub fact_in : Option (List Fact) → ℕ → Option Fact
fact_in (Some block) place = slice_get block place
fact_in None place = None
