-- No cell before this one may be read.
use Rattle.std.proofs.Common.{◌≡◌, ℕ, ◌<◌, false}
use Rattle.cpa_expr.specs.Cells.{may_read}
use Rattle.cpa_craig.proofs.reading.reads_cell.Given as goal

abbrev pub invariant-loop-cell : goal.invariant-loop-cell
invariant-loop-cell l = (cell : ℕ) → cell < l.cell → may_read l.e cell ≡ false
