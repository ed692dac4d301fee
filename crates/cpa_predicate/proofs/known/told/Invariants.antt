-- The truths so far, and behind them those of the facts that are left.
use Rattle.std.proofs.Common.{◌≡◌, ◌++◌}
use Rattle.cpa_predicate.specs.Known.{told}
use Rattle.cpa_predicate.proofs.known.told.Given as goal

abbrev pub invariant-loop-fact : goal.invariant-loop-fact
invariant-loop-fact l =
    l.truths ++ told l.fact-iterator ≡ told l.facts
