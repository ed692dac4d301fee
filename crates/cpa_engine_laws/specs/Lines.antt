-- What an entry has of its parent, where its elements are pins: of points and stacks, by which
-- entries are told apart, or of whole states (this project's own).
use Rattle.std.specs.Prelude.{◌≡◌, ℕ, List, length, slice_get, Some, None}
use Rattle.std.specs.List.{AllByRecursion}
use Rattle.cpa_model.specs.declared.automaton.Cfa.{Cfa}
use Rattle.cpa_model.specs.declared.automaton.Edge.{Edge}
use Rattle.cpa_model.specs.declared.facts.Elem.{Elem}
use Rattle.cpa_model.specs.declared.states.State.{State}
use Rattle.cpa_model.specs.Automata.{IsStateOf, initial_state, StepsAlong}
use Rattle.cpa_iface.specs.declared.analysis.Part.TheVariants.{Store}
use Rattle.cpa_iface.specs.declared.entries.Entry.{Entry}
use Rattle.cpa_iface.specs.declared.merging.MergeRule.TheVariants.{Sep}
use Rattle.cpa_iface.specs.Pins.{IsSettledBy}
use Rattle.cpa_composite.specs.Components.{Component}
use Rattle.cpa_composite.specs.Exact.{AreExact, BindAll, HaveEachPart, pins}
use Rattle.cpa_reached.specs.Members.{IsIn}
use Rattle.cpa_engine_turn.specs.Bounds.{KeyStepsTo}
use Rattle.cpa_engine_turn.specs.Keys.{key_of}

-- The row has an item for each component, and the key of a state.
pub record HasStateKey (cs : List Component) (es : List Elem) : Type 0 where
  pub size : length es ≡ length cs
  pub state : State
  pub key : key_of cs es ≡ key_of cs (pins cs state)

-- An entry without parent has a first row, and each other one stands to its parent as its edge
-- says.
pub record AreLines (R : ℕ → List Elem → List Elem → Type 0) (Root : List Elem → Type 0)
    (xs : List Entry) : Type 0 where
  pub roots : (e : Entry) → IsIn e xs → e.parent ≡ None → Root e.elems
  pub steps : (e f : Entry) (p edge : ℕ) → IsIn e xs → IsIn f xs → e.parent ≡ Some (p, edge)
      → f.number ≡ p → R edge f.elems e.elems

-- where the parent has the key of a state, the child has that of one to which these parts step
abbrev pub KeyComes : Cfa → List Component → ℕ → List Elem → List Elem → Type 0
KeyComes cfa cs edge es fs =
    (g : Edge) (s : State) → slice_get cfa.edges edge ≡ Some g → IsStateOf cfa s
    → key_of cs es ≡ key_of cs (pins cs s) → KeyStepsTo cfa cs g s fs

-- it has the key of the initial state
abbrev pub KeyRoot : Cfa → List Component → List Elem → Type 0
KeyRoot cfa cs es = key_of cs es ≡ key_of cs (pins cs (initial_state cfa))

-- where the parent is the row of the pins of a state and the edge is no input, there is a step
-- along it, to a state of whose pins the child is the row
abbrev pub PinComes : Cfa → List Component → ℕ → List Elem → List Elem → Type 0
PinComes cfa cs edge es fs =
    (g : Edge) (s : State) → slice_get cfa.edges edge ≡ Some g → IsSettledBy Store g.act
    → IsStateOf cfa s → es ≡ pins cs s → (t : State) × StepsAlong cfa g s t × (fs ≡ pins cs t)

-- it is the row of the pins of the initial state
abbrev pub PinRoot : Cfa → List Component → List Elem → Type 0
PinRoot cfa cs es = es ≡ pins cs (initial_state cfa)

-- Each entry stands to its parent as its edge says, in the elements that tell entries apart.
abbrev pub AreKeyLines : Cfa → List Component → List Entry → Type 0
AreKeyLines cfa cs xs = AreLines (KeyComes cfa cs) (KeyRoot cfa cs) xs

-- So it does in all elements, and each precision binds its component to be exact.
pub record ArePinLines (cfa : Cfa) (cs : List Component) (xs : List Entry) : Type 0 where
  pub lines : AreLines (PinComes cfa cs) (PinRoot cfa cs) xs
  pub binds : (e : Entry) → IsIn e xs → BindAll cfa cs e.precisions

-- The components pin whole states: each part of a state has its own exact one, all are exact, and
-- all keep their elements apart.
pub record PinStates (cs : List Component) : Type 0 where
  pub apart : AllByRecursion (λ c. c.rule ≡ Sep) cs
  pub exact : AreExact cs
  pub parts : HaveEachPart cs
