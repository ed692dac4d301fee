-- Each turn leaves fewer indices.
use Rattle.std.proofs.Common.{length}
use Rattle.cases_turns.proofs.reached.reading.pairs_of.Given as goal

abbrev pub decreases-loop-rest : goal.decreases-loop-rest
decreases-loop-rest l = length l.rest
