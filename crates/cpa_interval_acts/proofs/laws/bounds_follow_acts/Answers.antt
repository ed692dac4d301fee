use Rattle.cpa_interval_acts.specs.Laws.{bounds_follow_acts}
use Rattle.cpa_interval_acts.proofs.laws.bounds_follow_acts.Goals as goal

pub returns : goal.returns
returns c = bounds_follow_acts c.wrap_keeps_the_range.ensures.stays
