use Rattle.cpa_sat_trail.specs.Findings.{AreValues}
use Rattle.cpa_sat_trail.proofs.finding.values.Given as goal

abbrev pub invariant-loop-var : goal.invariant-loop-var
invariant-loop-var l = AreValues l.trail l.var l.values.items
