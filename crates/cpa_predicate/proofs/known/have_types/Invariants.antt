-- All types are those of their cells where those that are left are.
use Rattle.std.proofs.Common.{◌≡◌, drop}
use Rattle.cpa_model.specs.Expressions.{types_of}
use Rattle.cpa_predicate.proofs.known.have_types.Given as goal

abbrev pub invariant-loop-cell : goal.invariant-loop-cell
invariant-loop-cell l =
    types_of (drop l.cell-index l.cells) ≡ l.rest → types_of l.cells ≡ l.types
