use Rattle.std.proofs.Common.{length}
use Rattle.cpa_reached_key.proofs.comparing.+same_row.Given as goal

abbrev pub decreases-same_row : goal.decreases-same_row
decreases-same_row l = length l.elems.now
