-- Steps that have the outcome of a skip (this project's own).
use Rattle.std.specs.Prelude.{◌≡◌, ◌↔◌, ℕ, ◌<◌, ◌-◌, ◌^◌, false, Bool, List, Option}
use Rattle.cpa_expr.specs.declared.tree.Expr.{Expr}
use Rattle.cpa_expr.specs.Cells.{may_read}
use Rattle.cpa_model.specs.declared.facts.Elem.{Elem}
use Rattle.cpa_model.specs.declared.automaton.Act.{Act}
use Rattle.cpa_model.specs.declared.automaton.Act.TheVariants.{Skip}
use Rattle.cpa_model.specs.declared.automaton.Edge.{Edge}
use Rattle.cpa_model.specs.declared.automaton.Cfa.{Cfa}
use Rattle.cpa_model.specs.Acts.{IsActOf}
use Rattle.cpa_model.specs.Automata.{IsAutomaton}
use Rattle.cpa_predicate.specs.Standing.{Writes}
use Rattle.cpa_predicate.specs.Transfer.{NoneOpen, IsOutcome}

-- the act writes no cell that the expression may read
abbrev pub Leaves : Act → Expr → Type 0
Leaves act p = (cell : ℕ) → Writes act cell → cell < 2 ^ 32 - 1 → may_read p cell ≡ false

-- From whatever element, a step by the act has the outcome of a skip for these predicates.
abbrev pub ActsAsSkip : Act → List Expr → Type 0
ActsAsSkip act preds =
    (cfa : Cfa) (e : Elem) (g h : Edge) → IsAutomaton cfa → IsActOf cfa act → g.act ≡ act
    → h.act ≡ Skip → (outcome : Option (List (Option Bool)))
    → IsOutcome NoneOpen cfa e g preds outcome ↔ IsOutcome NoneOpen cfa e h preds outcome
