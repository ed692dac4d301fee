-- The facts so far, and behind them those of the predicates that are left.
use Rattle.std.proofs.Common.{◌≡◌, ◌++◌, drop}
use Rattle.cpa_predicate.specs.Transfer.{facts_of}
use Rattle.cpa_predicate.proofs.transfer.elem_of.Given as goal

abbrev pub invariant-loop-p : goal.invariant-loop-p
invariant-loop-p l =
    l.facts ++ facts_of (drop l.p-index l.preds) l.rest ≡ facts_of l.preds l.truths
