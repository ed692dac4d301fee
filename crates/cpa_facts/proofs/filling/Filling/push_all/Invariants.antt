-- What is put in and what is left is the whole.
use Rattle.std.proofs.Common.{◌≡◌, ◌++◌}
use Rattle.std.specs.Vec.Iter.{into_iter_items}
use Rattle.cpa_facts.proofs.filling.Filling.push_all.Given as goal

abbrev pub invariant-loop-fact : goal.invariant-loop-fact
invariant-loop-fact l = l.self ++ into_iter_items l.fact-iterator ≡ l.fn.self ++ l.fn.facts
