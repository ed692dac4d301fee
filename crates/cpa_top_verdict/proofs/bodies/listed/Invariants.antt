use Rattle.std.proofs.Common.{◌≡◌}
use Rattle.cpa_top_verdict.specs.Verdicts.{listed}
use Rattle.cpa_top_verdict.proofs.bodies.listed.Given as goal

abbrev pub invariant-loop-entry : goal.invariant-loop-entry
invariant-loop-entry l = l.found ≡ listed l.yielded
