-- Facts that an act leaves true (this project's own): those on the truth of expressions that read
-- no cell which it may write, and the truth that it tests.
use Rattle.std.specs.Prelude.{◌≡◌, ◌≤◌, ◌<◌, ◌+◌, ℕ, ℤ, false, List}
use Rattle.std.specs.List.{AllByRecursion}
use Rattle.cpa_expr.specs.declared.tree.Expr.{Expr}
use Rattle.cpa_expr.specs.Cells.{may_read}
use Rattle.cpa_facts.specs.declared.fact.Fact.{Fact}
use Rattle.cpa_model.specs.declared.facts.Elem.{Elem}
use Rattle.cpa_model.specs.declared.automaton.Act.{Act}
use Rattle.cpa_model.specs.declared.automaton.Act.TheVariants.{Assign, Input}
use Rattle.cpa_model.specs.declared.program.Cell.{Cell}
use Rattle.cpa_model.specs.Steps.{StepsStore}
use Rattle.cpa_form_rules.specs.Runs.{StoreFactHolds, StoreHolds}

-- the act may write the cell
abbrev pub Writes : Act → ℕ → Type 0
Writes (Assign base len index value) cell = (base ≤ cell) × (cell < base + len)
Writes (Input own) cell = cell ≡ own
Writes a cell = ⊥

-- the act writes no cell that the expression may read
abbrev pub Spares : Act → Expr → Type 0
Spares a e = (cell : ℕ) → Writes a cell → may_read e cell ≡ false

-- where the fact holds before the act, it holds behind it
abbrev pub Stands : Act → Fact → Type 0
Stands a fact =
    (cells : List Cell) (old new : List ℤ) → StoreFactHolds old fact → StepsStore cells a old new
    → StoreFactHolds new fact

-- the facts hold behind the act, whatever holds before it
abbrev pub AreTested : Act → List Fact → Type 0
AreTested a facts =
    (cells : List Cell) (old new : List ℤ) → StepsStore cells a old new
    → AllByRecursion (StoreFactHolds new) facts

-- the act leads nowhere from a store on which the element holds
abbrev pub IsBarred : Act → Elem → Type 0
IsBarred a elem =
    (cells : List Cell) (old new : List ℤ) → StoreHolds old elem → StepsStore cells a old new → ⊥

-- where the element holds before the act, the other one holds behind it
abbrev pub AreLeft : Act → Elem → Elem → Type 0
AreLeft a elem left =
    (cells : List Cell) (old new : List ℤ) → StoreHolds old elem → StepsStore cells a old new
    → StoreHolds new left
