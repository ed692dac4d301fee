-- Pins, the elements that give a part of a state whole, and the steps of a part by itself (this
-- project's own).
use Rattle.std.specs.Prelude.{◌≡◌, ℕ, ◌+◌, ◌<◌, ℤ, List, [], ◌∷◌, length, ⊤, ◌⊎◌}
use Rattle.std.specs.List.{Contains}
use Rattle.cpa_facts.specs.declared.fact.Fact.{Fact}
use Rattle.cpa_facts.specs.declared.fact.Fact.TheVariants.{At, Stack, Equals}
use Rattle.cpa_model.specs.declared.facts.Elem.{Elem}
use Rattle.cpa_model.specs.declared.states.State.{State}
use Rattle.cpa_model.specs.declared.automaton.Act.{Act}
use Rattle.cpa_model.specs.declared.automaton.Act.TheVariants.{Input}
use Rattle.cpa_model.specs.declared.automaton.Edge.{Edge}
use Rattle.cpa_model.specs.declared.automaton.Cfa.{Cfa}
use Rattle.cpa_model.specs.Automata.{IsStateOf}
use Rattle.cpa_model.specs.Steps.{StepsStack, StepsStore}
use Rattle.cpa_iface.specs.declared.analysis.Part.{Part}
use Rattle.cpa_iface.specs.declared.analysis.Part.TheVariants as part
use Rattle.cpa_iface.specs.declared.precisions.Precision.{Precision}

-- an Equals for each value, for the cells from this one on
abbrev pub equals_from : ℕ → List ℤ → List Fact
equals_from cell [] = []
equals_from cell (v ∷ values) = Equals cell v ∷ equals_from (cell + 1) values

-- the pin of a point
abbrev pub pin : ℕ → Elem
pin point = record { facts = At point ∷ [] }

-- The pin of a part of a state: its point, its stack, or the value of each cell, ascending.
abbrev pub pin_of : Part → State → Elem
pin_of part.Nothing s = record { facts = [] }
pin_of part.Point s = pin s.point
pin_of part.Stack s = record { facts = Stack s.stack ∷ [] }
pin_of part.Store s = record { facts = equals_from 0 s.store.values }

-- the pin of this part of some state of the automaton
abbrev pub IsPinOf : Cfa → Part → Elem → Type 0
IsPinOf cfa which e = (s : State) × IsStateOf cfa s × (e ≡ pin_of which s)

-- the pin of a point or of a stack
abbrev pub IsControlPin : Cfa → Elem → Type 0
IsControlPin cfa e = IsPinOf cfa part.Point e ⊎ IsPinOf cfa part.Stack e

-- The part steps along the edge, by itself.
abbrev pub StepsPart : Part → Cfa → Edge → State → State → Type 0
StepsPart part.Nothing cfa g s t = ⊤
StepsPart part.Point cfa g s t = (s.point ≡ g.from) × (t.point ≡ g.to)
StepsPart part.Stack cfa g s t = StepsStack g.act s.stack t.stack
StepsPart part.Store cfa g s t = StepsStore cfa.cells g.act s.store.values t.store.values

-- the step of the part along such an edge leads to one value at most: of the store all but Input do
abbrev pub IsSettledBy : Part → Act → Type 0
IsSettledBy part.Store (Input cell) = ⊥
IsSettledBy which act = ⊤

-- each cell is tracked, and no number of values is too many
pub record TracksAll (cfa : Cfa) (p : Precision) : Type 0 where
  pub cells : (cell : ℕ) → cell < length cfa.cells → Contains p.tracked cell
  pub no_limit : p.limit ≡ 0

-- An analysis of this part has to be exact at the precision: of the point and of the stack at each
-- one, of the store where all cells are tracked.
abbrev pub MustBeExact : Part → Cfa → Precision → Type 0
MustBeExact part.Nothing cfa p = ⊥
MustBeExact part.Point cfa p = ⊤
MustBeExact part.Stack cfa p = ⊤
MustBeExact part.Store cfa p = TracksAll cfa p

-- The elements are the pin of the part to which the step along the edge leads, or none where there
-- is no step.
pub record PinsStep (which : Part) (cfa : Cfa) (g : Edge) (s : State)
    (es : List Elem) : Type 0 where
  pub step : (t : State) → StepsPart which cfa g s t → es ≡ pin_of which t ∷ []
  pub stuck : ((t : State) → StepsPart which cfa g s t → ⊥) → es ≡ []
