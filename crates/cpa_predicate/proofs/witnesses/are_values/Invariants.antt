-- All numbers are values of their cells where those that are left are.
use Rattle.std.proofs.Common.{drop}
use Rattle.cpa_expr.specs.Cells.{AreValues}
use Rattle.cpa_model.specs.Expressions.{types_of}
use Rattle.cpa_predicate.proofs.witnesses.are_values.Given as goal

abbrev pub invariant-loop-cell : goal.invariant-loop-cell
invariant-loop-cell l =
    AreValues (types_of (drop l.cell-index l.cells)) l.rest
    → AreValues (types_of l.cells) l.values
