use Rattle.std.proofs.Common.{length}
use Rattle.cases_programs.proofs.fitting.+are_owned.Given as goal

abbrev pub decreases-are_owned : goal.decreases-are_owned
decreases-are_owned l = length l.parts.now
