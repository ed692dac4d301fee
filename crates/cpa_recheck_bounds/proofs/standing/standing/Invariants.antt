use Rattle.cpa_recheck_bounds.proofs.Stood.{IsUnderWay}
use Rattle.cpa_recheck_bounds.proofs.standing.standing.Given as goal

abbrev pub invariant-loop-fact : goal.invariant-loop-fact
invariant-loop-fact l = IsUnderWay l.act l.elem l.facts l.fact-iterator
