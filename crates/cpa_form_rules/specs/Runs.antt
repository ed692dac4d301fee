-- Runs of stores along edges that meet what was added to a form (the store's part of a step: CAV
-- 2007, section 2; elements as lists of facts: this project's own).
use Rattle.std.specs.Prelude.{◌≡◌, ℤ, ◌≤ℤ◌, ⊤, ◌⊎◌, Bool, true, false, List, [], ◌∷◌, ◌++◌, map}
use Rattle.std.specs.Prelude.{IsSomeAnd, slice_get, slice_set, Some}
use Rattle.std.specs.List.{AllByRecursion}
use Rattle.cpa_expr.specs.Cells.{AreValues}
use Rattle.cpa_model.specs.declared.program.Cell.{Cell}
use Rattle.cpa_model.specs.declared.automaton.Act.{Act}
use Rattle.cpa_model.specs.declared.automaton.Act.TheVariants as act
use Rattle.cpa_facts.specs.declared.fact.Fact.{Fact}
use Rattle.cpa_facts.specs.declared.fact.Fact.TheVariants.{At, Stack, Equals, Within, Truth}
use Rattle.cpa_model.specs.declared.facts.Elem.{Elem}
use Rattle.cpa_expr.specs.Values.{HasTruth}
use Rattle.cpa_model.specs.Expressions.{types_of}
use Rattle.cpa_model.specs.Facts.{IsValueOf}
use Rattle.cpa_model.specs.Steps.{StepsStore}

-- what is added to a form, in order: an edge is taken, an element holds, each of some elements
-- fails
pub data Added : Type 0 where
  taken : Act → Added
  holding : Elem → Added
  failing : List Elem → Added

-- a fact on the store holds of it; facts on the point and on the stack are passed over
abbrev pub StoreFactHolds : List ℤ → Fact → Type 0
StoreFactHolds store (At point) = ⊤
StoreFactHolds store (Stack sites) = ⊤
StoreFactHolds store (Equals cell value) = slice_get store cell ≡ Some value
StoreFactHolds store (Within cell lo hi) =
    IsSomeAnd (slice_get store cell) (λ v. (lo ≤ℤ v) × (v ≤ℤ hi))
StoreFactHolds store (Truth expr holds) = HasTruth store expr holds

-- the facts on the store all hold
abbrev pub StoreHolds : List ℤ → Elem → Type 0
StoreHolds store elem = AllByRecursion (StoreFactHolds store) elem.facts

-- some fact on the store does not hold; where there is none, none fails
abbrev pub SomeFails : List ℤ → List Fact → Type 0
SomeFails store [] = ⊥
SomeFails store (fact ∷ facts) = (StoreFactHolds store fact → ⊥) ⊎ SomeFails store facts

abbrev pub StoreFails : List ℤ → Elem → Type 0
StoreFails store elem = SomeFails store elem.facts

-- the act leads from one store to the other and takes these inputs: one where it is an input
abbrev pub StepsWith : List Cell → Act → List ℤ → List ℤ → List ℤ → Type 0
StepsWith cells (act.Input cell) old inputs new =
    (v : ℤ) × IsValueOf cells cell v × (inputs ≡ v ∷ []) × (new ≡ slice_set old cell v)
StepsWith cells other old inputs new = (inputs ≡ []) × StepsStore cells other old new

-- What was added leads from one store to the other and takes these inputs: an edge by its step.
-- What is said of a store is said of the one that is there, and leaves it.
abbrev pub Meets : List Cell → Added → List ℤ → List ℤ → List ℤ → Type 0
Meets cells (taken act) old inputs new = StepsWith cells act old inputs new
Meets cells (holding elem) old inputs new =
    StoreHolds old elem × (inputs ≡ []) × (new ≡ old)
Meets cells (failing elems) old inputs new =
    AllByRecursion (StoreFails old) elems × (inputs ≡ []) × (new ≡ old)

-- A run from the first store to the last one meets all that was added, in order, and takes these
-- inputs.
abbrev pub Runs : List Cell → List Added → List ℤ → List ℤ → List ℤ → Type 0
Runs cells [] first inputs last = (inputs ≡ []) × (last ≡ first)
Runs cells (one ∷ rest) first inputs last =
    (next own others : List ℤ) × Meets cells one first own next × (inputs ≡ own ++ others)
    × Runs cells rest next others last

-- the store at the beginning: each cell at its start, or any values in range
abbrev pub Begins : List Cell → Bool → List ℤ → Type 0
Begins cells true first = first ≡ map (λ cell. cell.start) cells
Begins cells false first = AreValues (types_of cells) first
