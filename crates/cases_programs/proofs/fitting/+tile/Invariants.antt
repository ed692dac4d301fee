use Rattle.std.proofs.Common.{length}
use Rattle.cases_programs.proofs.fitting.+tile.Given as goal

abbrev pub decreases-tile : goal.decreases-tile
decreases-tile l = length l.parts.now
