-- How many turns may follow, where keys are finite and elements widen to a height, and where all is
-- exact (this project's own; the widening and exactness laws of each component).
use Rattle.std.specs.Prelude.{◌≡◌, ℕ, ◌+◌, ◌*◌, ◌-◌, true, if◌then◌else◌, List, [], ◌∷◌, length}
use Rattle.std.specs.Prelude.{Some}
use Rattle.std.specs.Prelude.{slice_get}
use Rattle.std.specs.List.{AllByRecursion}
use Rattle.cpa_model.specs.declared.automaton.Cfa.{Cfa}
use Rattle.cpa_model.specs.declared.automaton.Edge.{Edge}
use Rattle.cpa_model.specs.declared.facts.Elem.{Elem}
use Rattle.cpa_model.specs.declared.states.State.{State}
use Rattle.cpa_model.specs.Automata.{IsStateOf, StepsAlong}
use Rattle.cpa_iface.specs.declared.analysis.Part.TheVariants.{Store}
use Rattle.cpa_iface.specs.declared.entries.Entry.{Entry}
use Rattle.cpa_iface.specs.declared.merging.MergeRule.TheVariants.{Sep}
use Rattle.cpa_iface.specs.Pins.{StepsPart, IsSettledBy}
use Rattle.cpa_composite.specs.Components.{Component}
use Rattle.cpa_composite.specs.Exact.{AreExact, BindAll, HaveEachPart, pins}
use Rattle.cpa_composite.specs.Keys.{is_key}
use Rattle.cpa_composite.specs.Ranks.{row_rank, row_height, HaveFixedHeights, IsRanked}
use Rattle.cpa_reached.specs.Members.{IsIn}
use Rattle.cpa_engine_turn.specs.Keys.{key_of, WidenBesideKeys, HaveOwnKeys}

-- how many turns the entries are good for: the ranks of each, and one where it waits
abbrev pub turns_due : Cfa → List Component → List Entry → ℕ
turns_due cfa cs [] = 0
turns_due cfa cs (e ∷ xs) =
    row_rank cfa cs e.elems + (if e.waiting then 1 else 0) + turns_due cfa cs xs

-- A bound on the turns that are left, where so many entries may have keys of their own: of each one
-- that is still to come one turn, and as many as it may widen, and what those that are there are
-- good for.
abbrev pub turns_left : Cfa → List Component → ℕ → List Entry → ℕ
turns_left cfa cs count xs =
    (count - length xs) * (1 + row_height cfa cs) + turns_due cfa cs xs

-- each part by which entries are told apart steps along the edge
abbrev pub KeysStep : Cfa → List Component → Edge → State → State → Type 0
KeysStep cfa cs g s t =
    AllByRecursion (λ c. is_key c ≡ true → StepsPart c.meaning.part cfa g s t) cs

-- The row has the key of a state to which these parts step.
pub record KeyStepsTo (cfa : Cfa) (cs : List Component) (g : Edge) (s : State) (row : List Elem)
    : Type 0 where
  pub state : State
  pub is_state : IsStateOf cfa state
  pub step : KeysStep cfa cs g s state
  pub key : key_of cs row ≡ key_of cs (pins cs state)

-- Where all that do not tell entries apart widen, to one height at all precisions, and steps do not
-- lead out of the keys.
pub record KeysBound (cfa : Cfa) (cs : List Component) (keys : List (List Elem)) : Type 0 where
  pub widen : WidenBesideKeys cs
  pub heights : HaveFixedHeights cfa cs
  pub closed : (k : ℕ) (g : Edge) (s t : State) → slice_get cfa.edges k ≡ Some g → IsStateOf cfa s
      → IsStateOf cfa t → KeysStep cfa cs g s t → IsIn (key_of cs (pins cs s)) keys
      → IsIn (key_of cs (pins cs t)) keys

-- The row has one of the keys, that of a state.
pub record HasKey (cfa : Cfa) (cs : List Component) (keys : List (List Elem)) (es : List Elem)
    : Type 0 where
  pub state : State
  pub is_state : IsStateOf cfa state
  pub key : key_of cs es ≡ key_of cs (pins cs state)
  pub is_in : IsIn (key_of cs es) keys

-- Entries have keys of their own, each one of these, and no rank is above its height.
pub record AreBounded (cfa : Cfa) (cs : List Component) (keys : List (List Elem)) (xs : List Entry)
    : Type 0 where
  pub own : HaveOwnKeys cs xs
  pub keyed : (e : Entry) → IsIn e xs → HasKey cfa cs keys e.elems
  pub ranked : (e : Entry) → IsIn e xs → IsRanked cfa cs e.elems

-- Where all components are kept apart and each part of a state has its exact one, no edge is an
-- input, and steps do not lead out of the states.
pub record StatesBound (cfa : Cfa) (cs : List Component) (states : List State) : Type 0 where
  pub apart : AllByRecursion (λ c. c.rule ≡ Sep) cs
  pub exact : AreExact cs
  pub parts : HaveEachPart cs
  pub settled : (k : ℕ) (g : Edge) → slice_get cfa.edges k ≡ Some g → IsSettledBy Store g.act
  pub closed : (k : ℕ) (g : Edge) (s t : State) → slice_get cfa.edges k ≡ Some g → IsIn s states
      → StepsAlong cfa g s t → IsIn t states

-- The entry is the row of the pins of one of the states.
pub record IsPinned (cfa : Cfa) (cs : List Component) (states : List State) (e : Entry) : Type 0
  where
    pub state : State
    pub is_state : IsStateOf cfa state
    pub is_in : IsIn state states
    pub elems : e.elems ≡ pins cs state
    pub binds : BindAll cfa cs e.precisions

-- Each entry is, and no two are the same row.
pub record ArePinned (cfa : Cfa) (cs : List Component) (states : List State) (xs : List Entry)
    : Type 0 where
  pub each : (e : Entry) → IsIn e xs → IsPinned cfa cs states e
  pub once : (e f : Entry) → IsIn e xs → IsIn f xs → e.elems ≡ f.elems → e.number ≡ f.number
