-- The facts of the cells from this place on are there.
use Rattle.cpa_folds.specs.Tracking.{is_tracked}
use Rattle.cpa_interval.proofs.KnownLemmas.{Says}
use Rattle.cpa_interval.proofs.cells.push_tracked.Given as goal

abbrev pub invariant-loop-place : goal.invariant-loop-place
invariant-loop-place l = Says (is_tracked l.tracked) l.cells l.known l.place l.fn.facts l.facts

abbrev pub decreases-loop-place : goal.decreases-loop-place
decreases-loop-place l = l.place
