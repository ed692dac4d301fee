use Rattle.std.proofs.Common.{◌≡◌, ◌≤◌, ◌<◌, ℕ, false}
use Rattle.cpa_expr.specs.Cells.{may_read}
use Rattle.cpa_recheck_bounds.proofs.standing.reads_between.Given as goal

abbrev pub invariant-loop-cell : goal.invariant-loop-cell
invariant-loop-cell l = (cell : ℕ) → l.first ≤ cell → cell < l.cell → may_read l.e cell ≡ false
