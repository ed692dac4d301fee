-- How many cells a refinement can still add, where analyses suggest cells alone (this project's
-- own).
use Rattle.std.specs.Prelude.{◌≡◌, ℕ, zero, suc, ◌+◌, if◌then◌else◌, List, [], ◌∷◌, IsSomeAnd}
use Rattle.std.specs.List.{AllByRecursion}
use Rattle.cpa_model.specs.declared.automaton.Cfa.{Cfa}
use Rattle.cpa_model.specs.declared.automaton.Path.{Path}
use Rattle.cpa_iface.specs.declared.precisions.Precision.{Precision}
use Rattle.cpa_iface.specs.Meanings.{IsPathOf}
use Rattle.cpa_composite.specs.Components.{Component}
use Rattle.cpa_reached.specs.Members.{is_in}

-- each analysis tells its suggestion for every path, and no expression is in it
abbrev pub TellCells : Cfa → List Component → Type 0
TellCells cfa cs = AllByRecursion
    (λ c. (path : Path) → IsPathOf cfa path
    → IsSomeAnd (c.meaning.suggestion cfa path) (λ s. s.preds ≡ [])) cs

-- how many of so many cells are none of these
abbrev pub untracked : ℕ → List ℕ → ℕ
untracked zero tracked = 0
untracked (suc cell) tracked = (if is_in cell tracked then 0 else 1) + untracked cell tracked

-- how many each precision does not track, together
abbrev pub all_untracked : ℕ → List Precision → ℕ
all_untracked cells [] = 0
all_untracked cells (p ∷ ps) = untracked cells p.tracked + all_untracked cells ps
