use Rattle.std.proofs.Common.{◌≡◌, take, reverse}
use Rattle.cpa_blast_gates.specs.Clauses.{clauses_of}
use Rattle.cpa_blast_gates.proofs.clauses.all_of.Given as goal

abbrev pub invariant-loop-i : goal.invariant-loop-i
invariant-loop-i l = l.clauses ≡ clauses_of (reverse (take l.i l.gates))
