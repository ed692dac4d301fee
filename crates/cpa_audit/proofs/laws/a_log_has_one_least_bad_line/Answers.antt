use Rattle.cpa_audit.proofs.Neighbours.{one_least}
use Rattle.cpa_audit.proofs.laws.a_log_has_one_least_bad_line.Goals as goal

pub returns : goal.returns
returns c = λ cnf log a b one other. one_least cnf log a b one other
