-- What is left gives what the whole gives.
use Rattle.std.proofs.Common.{◌≡◌, drop}
use Rattle.cpa_folds.specs.Tracking.{is_tracked}
use Rattle.cpa_interval.specs.Strengthening.{met_elems}
use Rattle.cpa_interval.proofs.strengthening.meet_elems.Given as goal

abbrev pub invariant-loop-other : goal.invariant-loop-other
invariant-loop-other l =
    (l.all.cells ≡ l.fn.all.cells)
    × (met_elems (is_tracked l.tracked) l.others l.fn.all.each
    ≡ met_elems (is_tracked l.tracked) (drop l.other-index l.others) l.all.each)
