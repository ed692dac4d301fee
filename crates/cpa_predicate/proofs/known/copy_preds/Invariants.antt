-- The copies so far, and behind them the predicates that are left.
use Rattle.std.proofs.Common.{◌≡◌, ◌++◌, drop}
use Rattle.cpa_predicate.proofs.known.copy_preds.Given as goal

abbrev pub invariant-loop-p : goal.invariant-loop-p
invariant-loop-p l = l.copies ++ drop l.p-index l.preds ≡ l.preds
