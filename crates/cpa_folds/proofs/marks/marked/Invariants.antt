-- The cells so far are the marked ones so far.
use Rattle.std.proofs.Common.{◌≡◌}
use Rattle.std.specs.List.{filter, range_with_len}
use Rattle.cpa_query.specs.Queries.{is_marked}
use Rattle.cpa_folds.proofs.marks.marked.Given as goal

abbrev pub invariant-loop-cell : goal.invariant-loop-cell
invariant-loop-cell l = l.cells ≡ filter (is_marked l.marks) (range_with_len 0 l.cell)
