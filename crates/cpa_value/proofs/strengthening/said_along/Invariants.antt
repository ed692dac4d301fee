-- What is left says what all say.
use Rattle.std.proofs.Common.{◌≡◌, drop}
use Rattle.cpa_folds.specs.Tracking.{is_tracked}
use Rattle.cpa_value.specs.Strengthening.{met_elems}
use Rattle.cpa_value.proofs.strengthening.said_along.Given as goal

abbrev pub invariant-loop-other : goal.invariant-loop-other
invariant-loop-other l = met_elems (is_tracked l.tracked) l.others l.cells
    ≡ met_elems (is_tracked l.tracked) (drop l.other-index l.others) l.cells
