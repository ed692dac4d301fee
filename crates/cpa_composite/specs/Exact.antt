-- How the rows of successors follow a part of a state on which a component is exact (this project's
-- own).
use Rattle.std.specs.Prelude.{◌≡◌, ℕ, List, [], ◌∷◌, map, slice_get, Some, ◌⊎◌, ⊤}
use Rattle.std.specs.List.{AllByRecursion}
use Rattle.cpa_model.specs.declared.facts.Elem.{Elem}
use Rattle.cpa_model.specs.declared.states.State.{State}
use Rattle.cpa_model.specs.declared.automaton.Cfa.{Cfa}
use Rattle.cpa_model.specs.declared.automaton.Edge.{Edge}
use Rattle.cpa_model.specs.Automata.{IsStateOf}
use Rattle.cpa_iface.specs.declared.analysis.Part.{Part}
use Rattle.cpa_iface.specs.declared.analysis.Part.TheVariants.{Point, Stack, Store}
use Rattle.cpa_iface.specs.declared.precisions.Precision.{Precision}
use Rattle.cpa_iface.specs.Pins.{pin_of, StepsPart, MustBeExact}
use Rattle.cpa_composite.specs.Components.{Component}

-- the point or the stack
abbrev pub IsControl : Part → Type 0
IsControl which = (which ≡ Point) ⊎ (which ≡ Stack)

-- each row has this element at this place
abbrev pub HaveAt : ℕ → Elem → List (List Elem) → Type 0
HaveAt i e rows = AllByRecursion (λ row. slice_get row i ≡ Some e) rows

-- The rows have at this place the pin of the part after the step, and there are none where there is
-- no step.
pub record FollowPart (which : Part) (cfa : Cfa) (g : Edge) (s : State) (i : ℕ)
    (rows : List (List Elem)) : Type 0 where
  pub step : (t : State) → StepsPart which cfa g s t → HaveAt i (pin_of which t) rows
  pub stuck : ((t : State) → StepsPart which cfa g s t → ⊥) → rows ≡ []

-- The components of the point and of the stack whose elements are pins of the state step to that
-- after it, and the row has the pins of that.
pub record ControlSteps (cs : List Component) (cfa : Cfa) (g : Edge) (s : State) (es : List Elem)
    (row : List Elem) : Type 0 where
  pub after : State
  pub is_state : IsStateOf cfa after
  pub each : (i : ℕ) (c : Component) (e : Elem) → slice_get cs i ≡ Some c → slice_get es i ≡ Some e
      → IsControl c.meaning.part → e ≡ pin_of c.meaning.part s
      → StepsPart c.meaning.part cfa g s after
      × (slice_get row i ≡ Some (pin_of c.meaning.part after))

-- the row of the pins of a state
abbrev pub pins : List Component → State → List Elem
pins cs s = map (λ c. pin_of c.meaning.part s) cs

abbrev pub AreControl : List Component → Type 0
AreControl cs = AllByRecursion (λ c. IsControl c.meaning.part) cs

-- each component is exact on the point or on the stack, but for one, at most, that is exact on the
-- store
abbrev pub AreExact : List Component → Type 0
AreExact [] = ⊤
AreExact (c ∷ cs) =
    (IsControl c.meaning.part × AreExact cs) ⊎ ((c.meaning.part ≡ Store) × AreControl cs)

-- some component is exact on the part
pub record HavePart (cs : List Component) (which : Part) : Type 0 where
  pub place : ℕ
  pub component : Component
  pub at : slice_get cs place ≡ Some component
  pub is : component.meaning.part ≡ which

abbrev pub HaveEachPart : List Component → Type 0
HaveEachPart cs = HavePart cs Point × HavePart cs Stack × HavePart cs Store

-- the precision of each component binds it to be exact: that of the store tracks all cells
abbrev pub BindAll : Cfa → List Component → List Precision → Type 0
BindAll cfa cs ps =
    (i : ℕ) (c : Component) (p : Precision) → slice_get cs i ≡ Some c → slice_get ps i ≡ Some p
    → MustBeExact c.meaning.part cfa p
