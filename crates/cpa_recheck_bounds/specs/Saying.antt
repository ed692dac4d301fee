-- What bounds of cells say of the facts of an element (this project's own).
use Rattle.std.specs.Prelude.{ℤ, Bool, true, false, List, Option, None, Some, slice_get}
use Rattle.std.specs.List.{AllByRecursion}
use Rattle.cpa_expr.specs.Cells.{AreValues}
use Rattle.cpa_facts.specs.declared.fact.Fact.{Fact}
use Rattle.cpa_facts.specs.declared.fact.Fact.TheVariants.{At, Stack, Equals, Within, Truth}
use Rattle.cpa_model.specs.declared.facts.Elem.{Elem}
use Rattle.cpa_model.specs.declared.automaton.Act.{Act}
use Rattle.cpa_model.specs.declared.automaton.Cfa.{Cfa}
use Rattle.cpa_model.specs.Expressions.{types_of}
use Rattle.cpa_model.specs.Steps.{StepsStore}
use Rattle.cpa_form_rules.specs.Runs.{StoreFactHolds, StoreHolds, StoreFails}
use Rattle.cpa_interval_bounds.specs.declared.bounds.Bounds.{Bounds}
use Rattle.cpa_interval_bounds.specs.Bounds.{bounds, only, is_inside}
use Rattle.cpa_interval_bounds.specs.ExpressionBounds.{LieWithin}

-- all numbers of the cell are among these
abbrev pub is_among : Bounds → Option Bounds → Bool
is_among other None = false
is_among other (Some own) = is_inside own other

-- the bounds say the fact; of truths they say none
abbrev pub bounds_say : List Bounds → Fact → Bool
bounds_say all (At point) = true
bounds_say all (Stack sites) = true
bounds_say all (Equals cell value) = is_among (only value) (slice_get all cell)
bounds_say all (Within cell lo hi) = is_among (bounds lo hi) (slice_get all cell)
bounds_say all (Truth expr holds) = false

-- The fact holds on each store within the bounds on which the element does.
abbrev pub IsSaid : List Bounds → Elem → Fact → Type 0
IsSaid all elem fact =
    (store : List ℤ) → LieWithin all store → StoreHolds store elem → StoreFactHolds store fact

-- So does the other element.
abbrev pub AreAllSaid : List Bounds → Elem → Elem → Type 0
AreAllSaid all elem other =
    (store : List ℤ) → LieWithin all store → StoreHolds store elem → StoreHolds store other

-- On each store within the bounds on which the element holds, one of the others holds.
abbrev pub AreSaid : List Bounds → Elem → List Elem → Type 0
AreSaid all elem others =
    (store : List ℤ) → LieWithin all store → StoreHolds store elem
    → AllByRecursion (StoreFails store) others → ⊥

-- Each store to which the act leads from one on which the element holds is one on which one of the
-- others holds.
abbrev pub AreFoundBehind : Cfa → Elem → Act → List Elem → Type 0
AreFoundBehind cfa elem a others =
    (old new : List ℤ) → AreValues (types_of cfa.cells) old → StoreHolds old elem
    → StepsStore cfa.cells a old new → AllByRecursion (StoreFails new) others → ⊥
