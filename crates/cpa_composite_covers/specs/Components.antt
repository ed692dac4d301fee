-- The components that picks make of analyses (this project's own).
use Rattle.std.specs.Prelude.{◌≡◌, ℕ, ◌<◌, List, [], ◌∷◌, slice_get, Option, Some, None}
use Rattle.std.specs.List.{AllByRecursion}
use Rattle.cpa_iface.specs.declared.merging.Pick.{Pick}
use Rattle.cpa_iface.specs.declared.merging.MergeRule.{MergeRule}
use Rattle.cpa_iface.specs.Meanings.{Meaning}

-- An analysis that is used: what it means, and the rule by which its elements merge.
pub record Component : Type 0 where
  pub meaning : Meaning
  pub rule : MergeRule

-- what an analysis that means this makes with the rule, before the later components
abbrev pub picked_before : Option Meaning → MergeRule → List Component → List Component
picked_before None rule later = later
picked_before (Some m) rule later = record { meaning = m; rule = rule } ∷ later

-- the components that the picks make of analyses with these meanings, in the order of the picks
abbrev pub picked : List Meaning → List Pick → List Component
picked ms [] = []
picked ms (p ∷ picks) = picked_before (slice_get ms p.place) p.rule (picked ms picks)

-- the pick makes this component
pub record IsPicked (ms : List Meaning) (p : Pick) (c : Component) : Type 0 where
  pub meaning : slice_get ms p.place ≡ Some c.meaning
  pub rule : p.rule ≡ c.rule

-- places of so many analyses
abbrev pub ArePlaces : ℕ → List Pick → Type 0
ArePlaces count picks = AllByRecursion (λ p. p.place < count) picks
