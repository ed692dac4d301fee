-- The facts on truths so far, and behind them those of the facts that are left.
use Rattle.std.proofs.Common.{◌≡◌, ◌++◌}
use Rattle.std.specs.List.{filter}
use Rattle.cpa_predicate.specs.Steps.{is_truth}
use Rattle.cpa_predicate.proofs.steps.truths.Given as goal

abbrev pub invariant-loop-fact : goal.invariant-loop-fact
invariant-loop-fact l =
    l.facts ++ filter is_truth l.fact-iterator ≡ filter is_truth l.elem.facts
