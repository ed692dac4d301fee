-- What is left gives what the whole gives.
use Rattle.std.proofs.Common.{◌≡◌}
use Rattle.cpa_recheck_bounds.specs.Cutting.{cut_by_all}
use Rattle.cpa_recheck_bounds.proofs.behind.cut_by_all.Given as goal

abbrev pub invariant-loop-fact : goal.invariant-loop-fact
invariant-loop-fact l =
    (l.all.cells ≡ l.fn.all.cells)
    × (cut_by_all l.facts l.fn.all.each ≡ cut_by_all l.fact-iterator l.all.each)
