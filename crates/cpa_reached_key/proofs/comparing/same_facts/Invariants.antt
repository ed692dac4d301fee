-- What is left of both is the same exactly where both are.
use Rattle.std.proofs.Common.{◌≡◌}
use Rattle.cpa_reached_key.specs.Rows.{same_facts}
use Rattle.cpa_reached_key.proofs.comparing.same_facts.Given as goal

abbrev pub invariant-loop-fact : goal.invariant-loop-fact
invariant-loop-fact l = same_facts l.fact-iterator l.left ≡ same_facts l.facts l.others
