-- No cell before this one may be read.
use Rattle.std.proofs.Common.{◌≡◌, ℕ, ◌≤◌, ◌<◌, false}
use Rattle.cpa_expr.specs.Cells.{may_read}
use Rattle.cpa_predicate.proofs.standing.reads_among.Given as goal

abbrev pub invariant-loop-cell : goal.invariant-loop-cell
invariant-loop-cell l =
    (cell : ℕ) → l.base ≤ cell → cell < l.cell → may_read l.p cell ≡ false
