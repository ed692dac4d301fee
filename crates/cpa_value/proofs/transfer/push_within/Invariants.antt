-- What is added and what is left is the whole.
use Rattle.std.proofs.Common.{◌≡◌, ◌++◌}
use Rattle.cpa_folds.specs.Tracking.{is_tracked}
use Rattle.cpa_value.specs.Tables.{facts_within}
use Rattle.cpa_value.proofs.transfer.push_within.Given as goal

abbrev pub invariant-loop-fact : goal.invariant-loop-fact
invariant-loop-fact l =
    let tracked = is_tracked l.tracked in
    l.left ++ facts_within tracked l.from l.to l.fact-iterator
    ≡ l.fn.left ++ facts_within tracked l.from l.to l.facts
