-- What is left gives what the whole gives.
use Rattle.std.proofs.Common.{◌≡◌, drop}
use Rattle.cpa_folds.specs.Tracking.{is_tracked}
use Rattle.cpa_value.specs.Strengthening.{met_elems}
use Rattle.cpa_value.proofs.strengthening.meet_elems.Given as goal

abbrev pub invariant-loop-other : goal.invariant-loop-other
invariant-loop-other l = met_elems (is_tracked l.tracked) l.others l.fn.cells
    ≡ met_elems (is_tracked l.tracked) (drop l.other-index l.others) l.cells
