use Rattle.std.proofs.Common.{length}
use Rattle.cases_programs.proofs.fitting.+fit_from.Given as goal

abbrev pub decreases-fit_from : goal.decreases-fit_from
decreases-fit_from l = length l.stmts.now
