-- No fact is a truth where none of those that are left is.
use Rattle.std.proofs.Common.{◌≡◌, []}
use Rattle.std.specs.List.{filter}
use Rattle.cpa_predicate.specs.Steps.{is_truth}
use Rattle.cpa_predicate.proofs.steps.says_truth.Given as goal

abbrev pub invariant-loop-fact : goal.invariant-loop-fact
invariant-loop-fact l =
    filter is_truth l.fact-iterator ≡ [] → filter is_truth l.elem.facts ≡ []
