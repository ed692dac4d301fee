-- What is left says what all say.
use Rattle.std.proofs.Common.{◌≡◌}
use Rattle.cpa_folds.specs.Tracking.{is_tracked}
use Rattle.cpa_value.specs.Strengthening.{met_facts}
use Rattle.cpa_value.proofs.strengthening.said_by_facts.Given as goal

abbrev pub invariant-loop-fact : goal.invariant-loop-fact
invariant-loop-fact l = met_facts (is_tracked l.tracked) l.facts l.cells
    ≡ met_facts (is_tracked l.tracked) l.fact-iterator l.cells
