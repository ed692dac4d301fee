use Rattle.cpa_audit.proofs.Dividing.{even}
use Rattle.cpa_audit.proofs.laws.runs_are_even.Goals as goal

pub returns-clause-each : goal.returns-clause-each
returns-clause-each c = λ lines workers part some. even lines workers part some
