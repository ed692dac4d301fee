use Rattle.std.proofs.Common.{length}
use Rattle.cpa_composite.proofs.comparing.+some_longer.Given as goal

abbrev pub decreases-some_longer : goal.decreases-some_longer
decreases-some_longer l = length l.old.now
