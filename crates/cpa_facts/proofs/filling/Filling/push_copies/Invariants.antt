-- What is put in and what is left is the whole.
use Rattle.std.proofs.Common.{◌≡◌, ◌++◌, drop}
use Rattle.cpa_facts.proofs.filling.Filling.push_copies.Given as goal

abbrev pub invariant-loop-fact : goal.invariant-loop-fact
invariant-loop-fact l = l.self ++ drop l.fact-index l.facts ≡ l.fn.self ++ l.facts
