-- What is left says what the whole element says.
use Rattle.std.proofs.Common.{◌≡◌}
use Rattle.cpa_predicate.specs.Standing.{first_said}
use Rattle.cpa_predicate.proofs.standing.first_said.Given as goal

abbrev pub invariant-loop-fact : goal.invariant-loop-fact
invariant-loop-fact l = first_said l.p l.fact-iterator ≡ first_said l.p l.elem.facts
