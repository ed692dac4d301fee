use Rattle.std.proofs.Common.{◌≡◌}
use Rattle.cases_queries.proofs.clause_rows.push_signs.Given as goal

abbrev pub invariant-loop-i : goal.invariant-loop-i
invariant-loop-i l = l.marks ≡ l.cnf.vars
