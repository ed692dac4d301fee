-- With what is left it becomes what it does with all.
use Rattle.std.proofs.Common.{◌≡◌, drop}
use Rattle.cpa_predicate.specs.Refining.{with_missing}
use Rattle.cpa_predicate.proofs.refining.push_missing.Given as goal

abbrev pub invariant-loop-e : goal.invariant-loop-e
invariant-loop-e l = with_missing (drop l.e-index l.more) l.es ≡ with_missing l.more l.initial.es
