use Rattle.cpa_top_recheck.proofs.Reading.{are_shaped}
use Rattle.cpa_top_recheck.proofs.rechecking.check_report.Goals as goal

pub confirm-requires-clause-shaped : goal.confirm-requires-clause-shaped
confirm-requires-clause-shaped g c κs within =
    are_shaped c.args.cfa.now c.args.report.now.body c.requires.verdict c.requires.inside
