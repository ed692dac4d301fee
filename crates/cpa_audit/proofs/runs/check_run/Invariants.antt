use Rattle.std.proofs.Common.{◌≡◌}
use Rattle.cpa_audit.specs.LeastBad.{AreGoodBetween}
use Rattle.cpa_audit.proofs.runs.check_run.Given as goal

abbrev pub invariant-loop-i : goal.invariant-loop-i
invariant-loop-i l = (l.marks ≡ l.cnf.vars) × AreGoodBetween l.cnf l.log l.from l.i
