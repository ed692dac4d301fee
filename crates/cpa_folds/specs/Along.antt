-- The acts along a path (this project's own).
use Rattle.std.specs.Prelude.{ℕ, List, [], ◌∷◌, ◌++◌, Option, None, Some, slice_get}
use Rattle.cpa_model.specs.declared.automaton.Act.{Act}
use Rattle.cpa_model.specs.declared.automaton.Edge.{Edge}
use Rattle.cpa_model.specs.declared.automaton.Cfa.{Cfa}

-- the act of an edge, where it is there
abbrev pub act_of : Option Edge → List Act
act_of None = []
act_of (Some edge) = edge.act ∷ []

-- the acts of the edges, in order
abbrev pub acts_along : Cfa → List ℕ → List Act
acts_along cfa [] = []
acts_along cfa (edge ∷ edges) = act_of (slice_get cfa.edges edge) ++ acts_along cfa edges
