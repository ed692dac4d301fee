-- Each turn leaves fewer words.
use Rattle.std.proofs.Common.{length}
use Rattle.cases_turns.proofs.composites.picking.picks_of.Given as goal

abbrev pub decreases-loop-rest : goal.decreases-loop-rest
decreases-loop-rest l = length l.rest
