-- Acts that lead on from each store, since what they evaluate cannot trap (C11 6.5.5 to 6.5.7;
-- this project's own).
use Rattle.std.specs.Prelude.{ℤ, List}
use Rattle.cpa_expr.specs.declared.tree.Expr.{Expr}
use Rattle.cpa_expr.specs.Cells.{AreValues}
use Rattle.cpa_expr.specs.Traps.{Traps}
use Rattle.cpa_model.specs.declared.automaton.Act.{Act}
use Rattle.cpa_model.specs.declared.automaton.Cfa.{Cfa}
use Rattle.cpa_model.specs.Expressions.{types_of}
use Rattle.cpa_model.specs.Steps.{StepsStore}

-- the evaluation of the expression traps on no store
abbrev pub NeverTraps : Expr → Type 0
NeverTraps e = (values : List ℤ) → Traps values e → ⊥

-- the act leads on from each store
abbrev pub AlwaysSteps : Cfa → Act → Type 0
AlwaysSteps cfa act =
    (old : List ℤ) → AreValues (types_of cfa.cells) old
    → (new : List ℤ) × StepsStore cfa.cells act old new
