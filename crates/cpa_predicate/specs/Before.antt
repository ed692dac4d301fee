-- What a predicate is before an act (the weakest precondition of an assignment: Dijkstra 1975;
-- this project's own).
use Rattle.std.specs.Prelude.{◌≡◌, ℤ, List}
use Rattle.cpa_expr.specs.declared.tree.Expr.{Expr}
use Rattle.cpa_expr.specs.Cells.{AreValues}
use Rattle.cpa_expr.specs.Values.{value_of}
use Rattle.cpa_model.specs.declared.automaton.Act.{Act}
use Rattle.cpa_model.specs.declared.automaton.Cfa.{Cfa}
use Rattle.cpa_model.specs.Acts.{IsActOf}
use Rattle.cpa_model.specs.Expressions.{types_of}
use Rattle.cpa_model.specs.Steps.{StepsStore}

-- the expression q has before the act the value that p has after it
abbrev pub IsBefore : Act → Expr → Expr → Type 0
IsBefore act p q =
    (cfa : Cfa) (old new : List ℤ) → IsActOf cfa act → AreValues (types_of cfa.cells) old
    → StepsStore cfa.cells act old new → value_of q old ≡ value_of p new
