use Rattle.std.proofs.Common.{length}
use Rattle.cpa_iface.proofs.precisions.+same_precisions.Given as goal

abbrev pub decreases-same_precisions : goal.decreases-same_precisions
decreases-same_precisions l = length l.precisions.now
