-- The rank of a row, which falls where a merge changes it (this project's own; the widening law of
-- each component).
use Rattle.std.specs.Prelude.{◌≡◌, ◌≢◌, ℕ, ◌+◌, ◌≤◌, List, [], ◌∷◌, ⊤}
use Rattle.std.specs.List.{AllByRecursion}
use Rattle.cpa_model.specs.declared.facts.Elem.{Elem}
use Rattle.cpa_model.specs.declared.automaton.Cfa.{Cfa}
use Rattle.cpa_iface.specs.declared.merging.MergeRule.{MergeRule}
use Rattle.cpa_iface.specs.declared.merging.MergeRule.TheVariants.{Sep, Join, Widen}
use Rattle.cpa_iface.specs.declared.precisions.Precision.{Precision}
use Rattle.cpa_iface.specs.Meanings.{IsPrecision}
use Rattle.cpa_composite.specs.Components.{Component}

-- what the element of an analysis that widens counts for
abbrev pub rank_by : MergeRule → ℕ → ℕ
rank_by Sep rank = 0
rank_by Join rank = 0
rank_by Widen rank = rank

-- the ranks of the elements of those that widen, together
abbrev pub row_rank : Cfa → List Component → List Elem → ℕ
row_rank cfa [] es = 0
row_rank cfa (c ∷ cs) [] = 0
row_rank cfa (c ∷ cs) (e ∷ es) = rank_by c.rule (c.meaning.rank cfa e) + row_rank cfa cs es

-- no component joins
abbrev pub JoinNone : List Component → Type 0
JoinNone cs = AllByRecursion (λ c. c.rule ≢ Join) cs

-- the precision that keeps nothing
abbrev pub coarsest : Precision
coarsest = record { tracked = []; preds = []; limit = 0 }

-- the heights of the analyses that widen, together
abbrev pub row_height : Cfa → List Component → ℕ
row_height cfa [] = 0
row_height cfa (c ∷ cs) = rank_by c.rule (c.meaning.height cfa coarsest) + row_height cfa cs

-- where it widens, the analysis has the same height for every precision
abbrev pub HasFixedHeight : Cfa → Component → Type 0
HasFixedHeight cfa c = c.rule ≡ Widen → (p : Precision) → IsPrecision cfa p
    → c.meaning.height cfa p ≡ c.meaning.height cfa coarsest

abbrev pub HaveFixedHeights : Cfa → List Component → Type 0
HaveFixedHeights cfa cs = AllByRecursion (HasFixedHeight cfa) cs

-- where the analysis widens, the rank of the element is at most its height
abbrev pub IsLow : Cfa → Component → Elem → Type 0
IsLow cfa c e = c.rule ≡ Widen → c.meaning.rank cfa e ≤ c.meaning.height cfa coarsest

-- so it is of each element of the row
abbrev pub IsRanked : Cfa → List Component → List Elem → Type 0
IsRanked cfa [] es = ⊤
IsRanked cfa (c ∷ cs) [] = ⊤
IsRanked cfa (c ∷ cs) (e ∷ es) = IsLow cfa c e × IsRanked cfa cs es
