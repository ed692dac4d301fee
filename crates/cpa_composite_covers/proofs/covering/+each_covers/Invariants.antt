use Rattle.std.proofs.Common.{length}
use Rattle.cpa_composite_covers.proofs.covering.+each_covers.Given as goal

abbrev pub decreases-each_covers : goal.decreases-each_covers
decreases-each_covers g l = length l.picks.now
