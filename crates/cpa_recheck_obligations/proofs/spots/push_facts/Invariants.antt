use Rattle.std.proofs.Common.{◌≡◌, ◌++◌}
use Rattle.cpa_recheck_obligations.proofs.spots.push_facts.Given as goal

abbrev pub invariant-loop-fact : goal.invariant-loop-fact
invariant-loop-fact l = l.facts ++ l.fact-iterator ≡ l.initial.facts ++ l.elem.facts
