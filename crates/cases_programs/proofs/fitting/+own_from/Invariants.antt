use Rattle.std.proofs.Common.{length}
use Rattle.cases_programs.proofs.fitting.+own_from.Given as goal

abbrev pub decreases-own_from : goal.decreases-own_from
decreases-own_from l = length l.bodies.now
