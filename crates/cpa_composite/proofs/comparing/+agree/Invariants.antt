use Rattle.std.proofs.Common.{length}
use Rattle.cpa_composite.proofs.comparing.+agree.Given as goal

abbrev pub decreases-agree : goal.decreases-agree
decreases-agree l = length l.picks.now
