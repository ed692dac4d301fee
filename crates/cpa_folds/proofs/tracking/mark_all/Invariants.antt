-- The marked cells are those so far.
use Rattle.std.proofs.Common.{◌≡◌, ℕ, take}
use Rattle.std.specs.Prelude.{◌==◌}
use Rattle.std.specs.List.{list_any}
use Rattle.cpa_query.specs.Queries.{is_marked}
use Rattle.cpa_folds.proofs.tracking.mark_all.Given as goal

abbrev pub invariant-loop-cell : goal.invariant-loop-cell
invariant-loop-cell l = (cell : ℕ) → is_marked l.marks cell
    ≡ list_any (λ own. own == cell) (take l.cell-index l.cells)
