-- The cells of the run are tracked, so its facts say values of tracked cells.
use Rattle.std.proofs.Common.{◌∙◌}
use Rattle.cpa_folds.specs.Tracking.{is_tracked}
use Rattle.cpa_value.proofs.PlaceLemmas.{run_within}
use Rattle.cpa_value.proofs.transfer.is_run_within.Goals as goal

pub returns-then-first-cells : goal.returns-then-first-cells
returns-then-first-cells c = λ facts is seen.
    run_within (is_tracked c.args.tracked.now) c.args.count c.in-Some.run' facts
    (is ∙ c.in-Some.is) c.if-first-cells.true (c.has_run.ensures.tracked seen)
