use Rattle.std.proofs.Common.{length}
use Rattle.cpa_composite.proofs.comparing.+have_one_each.Given as goal

abbrev pub decreases-have_one_each : goal.decreases-have_one_each
decreases-have_one_each l = length l.lists.now
