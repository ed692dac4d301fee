-- What facts, elements and entries say of a state (the abstract elements of CAV 2007, section 2, as
-- lists of facts: this project's own), and which are shaped for an automaton.
use Rattle.std.specs.Prelude.{◌≡◌, ℕ, ◌<◌, ℤ, ◌≤ℤ◌, List, Some, slice_get, IsSomeAnd}
use Rattle.std.specs.List.{AllByRecursion, Contains}
use Rattle.cpa_model.specs.declared.program.Cell.{Cell}
use Rattle.cpa_model.specs.declared.states.State.{State}
use Rattle.cpa_facts.specs.declared.fact.Fact.{Fact}
use Rattle.cpa_facts.specs.declared.fact.Fact.TheVariants.{At, Stack, Equals, Within, Truth}
use Rattle.cpa_model.specs.declared.facts.Elem.{Elem}
use Rattle.cpa_ints.specs.Integers.{IsInRange}
use Rattle.cpa_expr.specs.Values.{HasTruth}
use Rattle.cpa_model.specs.Expressions.{IsExpr}

-- the fact holds of the state
abbrev pub FactHolds : State → Fact → Type 0
FactHolds s (At point) = s.point ≡ point
FactHolds s (Stack sites) = s.stack ≡ sites
FactHolds s (Equals cell value) = slice_get s.store.values cell ≡ Some value
FactHolds s (Within cell lo hi) =
    IsSomeAnd (slice_get s.store.values cell) (λ v. (lo ≤ℤ v) × (v ≤ℤ hi))
FactHolds s (Truth expr holds) = HasTruth s.store.values expr holds

-- the element holds of the state: all its facts do, the element without facts always
abbrev pub Holds : Elem → State → Type 0
Holds e s = AllByRecursion (FactHolds s) e.facts

-- every state of e is one of f
abbrev pub IsWithin : Elem → Elem → Type 0
IsWithin e f = (s : State) → Holds e s → Holds f s

-- each fact of the other element is one of the element's own
abbrev pub HasFacts : Elem → Elem → Type 0
HasFacts e other = AllByRecursion (Contains e.facts) other.facts

-- all elements of an entry hold of the state: the state lies in the entry
abbrev pub LiesIn : State → List Elem → Type 0
LiesIn s elems = AllByRecursion (λ e. Holds e s) elems

-- the cell is there, and the value lies in its range
abbrev pub IsValueOf : List Cell → ℕ → ℤ → Type 0
IsValueOf cells cell v = IsSomeAnd (slice_get cells cell) (λ c. IsInRange c.ty v)

-- shaped for these cells and this many points: the fact names what is there
abbrev pub IsFact : List Cell → ℕ → Fact → Type 0
IsFact cells points (At point) = point < points
IsFact cells points (Stack sites) = AllByRecursion (λ site. site < points) sites
IsFact cells points (Equals cell value) = IsValueOf cells cell value
IsFact cells points (Within cell lo hi) =
    IsValueOf cells cell lo × IsValueOf cells cell hi × (lo ≤ℤ hi)
IsFact cells points (Truth expr holds) = IsExpr cells expr

abbrev pub IsElem : List Cell → ℕ → Elem → Type 0
IsElem cells points e = AllByRecursion (IsFact cells points) e.facts
