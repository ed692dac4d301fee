-- The cells so far that are not marked.
use Rattle.std.proofs.Common.{◌≡◌, ◌++◌, take}
use Rattle.std.specs.Prelude.{not}
use Rattle.std.specs.List.{filter}
use Rattle.cpa_query.specs.Queries.{is_marked}
use Rattle.cpa_folds.proofs.tracking.append_unmarked.Given as goal

abbrev pub invariant-loop-cell : goal.invariant-loop-cell
invariant-loop-cell l = l.list ≡ l.fn.list
    ++ filter (λ cell. not (is_marked l.marks cell)) (take l.cell-index l.cells)
