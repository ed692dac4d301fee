-- The types so far, and behind them those of the cells that are left.
use Rattle.std.proofs.Common.{◌≡◌, ◌++◌, drop}
use Rattle.cpa_model.specs.Expressions.{types_of}
use Rattle.cpa_predicate.proofs.known.types_of.Given as goal

abbrev pub invariant-loop-cell : goal.invariant-loop-cell
invariant-loop-cell l =
    l.types ++ types_of (drop l.cell-index l.cells) ≡ types_of l.cells
