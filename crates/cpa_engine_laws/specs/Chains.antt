-- How the edges of a path chain, by points, by call sites and by steps (this project's own).
use Rattle.std.specs.Prelude.{◌≡◌, ℕ, List, [], ◌∷◌, ◌++◌, slice_get, Some}
use Rattle.std.specs.List.{AllByRecursion}
use Rattle.cpa_model.specs.declared.automaton.Cfa.{Cfa}
use Rattle.cpa_model.specs.declared.automaton.Edge.{Edge}
use Rattle.cpa_model.specs.declared.states.State.{State}
use Rattle.cpa_model.specs.Automata.{StepsAlong, initial_state}
use Rattle.cpa_model.specs.Steps.{StepsStack}
use Rattle.cpa_iface.specs.declared.analysis.Part.{Part}
use Rattle.cpa_iface.specs.declared.analysis.Part.TheVariants.{Store}
use Rattle.cpa_iface.specs.declared.merging.MergeRule.TheVariants.{Sep}
use Rattle.cpa_iface.specs.Pins.{IsSettledBy}
use Rattle.cpa_composite.specs.Components.{Component}

-- Some component is exact on the part, and keeps its elements apart.
pub record HaveApart (cs : List Component) (which : Part) : Type 0 where
  pub place : ℕ
  pub component : Component
  pub at : slice_get cs place ≡ Some component
  pub is : component.meaning.part ≡ which
  pub sep : component.rule ≡ Sep

-- by these edges the relation leads from the one to the other
abbrev pub WalksTo : {X : Type 0} → (ℕ → X → X → Type 0) → X → List ℕ → X → Type 0
WalksTo R s [] t = t ≡ s
WalksTo {X} R s (n ∷ ns) t = (m : X) × R n s m × WalksTo R m ns t

-- from a point on, each edge leaves the point to which the one before leads, and the last one
-- leads to the other point
abbrev pub PointsChain : Cfa → ℕ → List ℕ → ℕ → Type 0
PointsChain cfa p [] q = q ≡ p
PointsChain cfa p (n ∷ ns) q =
    (g : Edge) × (slice_get cfa.edges n ≡ Some g) × (g.from ≡ p) × PointsChain cfa g.to ns q

-- with these call sites on the stack, each return goes back to the call on top, and at the end
-- those are left
abbrev pub SitesChain : Cfa → List ℕ → List ℕ → List ℕ → Type 0
SitesChain cfa calls [] last = last ≡ calls
SitesChain cfa calls (n ∷ ns) last =
    (g : Edge) × (next : List ℕ) × (slice_get cfa.edges n ≡ Some g) × StepsStack g.act calls next
    × SitesChain cfa next ns last

-- a step from the one state to the other along the edge of this number
abbrev pub StepsBy : Cfa → ℕ → State → State → Type 0
StepsBy cfa n s t = (g : Edge) × (slice_get cfa.edges n ≡ Some g) × StepsAlong cfa g s t

-- no edge is an input
abbrev pub AreSettled : Cfa → List ℕ → Type 0
AreSettled cfa path = AllByRecursion
    (λ n. (g : Edge) → slice_get cfa.edges n ≡ Some g → IsSettledBy Store g.act) path

-- The path has an input, and the edges before the first one are those of an execution.
pub record RunsToInput (cfa : Cfa) (path : List ℕ) : Type 0 where
  pub front : List ℕ
  pub number : ℕ
  pub back : List ℕ
  pub is : path ≡ front ++ number ∷ back
  pub settled : AreSettled cfa front
  pub edge : Edge
  pub at : slice_get cfa.edges number ≡ Some edge
  pub input : IsSettledBy Store edge.act → ⊥
  pub state : State
  pub runs : WalksTo (StepsBy cfa) (initial_state cfa) front state
