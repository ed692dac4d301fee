-- What is left gives what the whole gives.
use Rattle.std.proofs.Common.{◌≡◌}
use Rattle.cpa_folds.specs.Tracking.{is_tracked}
use Rattle.cpa_interval.specs.Strengthening.{met_facts}
use Rattle.cpa_interval.proofs.strengthening.meet_facts.Given as goal

abbrev pub invariant-loop-fact : goal.invariant-loop-fact
invariant-loop-fact l =
    (l.all.cells ≡ l.fn.all.cells)
    × (met_facts (is_tracked l.tracked) l.facts l.fn.all.each
    ≡ met_facts (is_tracked l.tracked) l.fact-iterator l.all.each)
