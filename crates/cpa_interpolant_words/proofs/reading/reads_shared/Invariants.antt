-- Each cell before this one that the expression reads is shared.
use Rattle.std.proofs.Common.{ℕ, ◌<◌, IsTrue}
use Rattle.cpa_expr.specs.Cells.{may_read}
use Rattle.cpa_folds.specs.Along.{acts_along}
use Rattle.cpa_interpolant_words.specs.Words.{IsShared}
use Rattle.cpa_interpolant_words.proofs.reading.reads_shared.Given as goal

abbrev pub invariant-loop-cell : goal.invariant-loop-cell
invariant-loop-cell l =
    (cell : ℕ) → cell < l.cell → IsTrue (may_read l.f cell)
    → IsShared l.e l.act (acts_along l.cfa l.behind) cell
