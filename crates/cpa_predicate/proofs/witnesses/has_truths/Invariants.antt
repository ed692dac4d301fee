-- All truths hold where those of the facts that are left do.
use Rattle.std.specs.List.{AllByRecursion, filter}
use Rattle.cpa_form_rules.specs.Runs.{StoreHolds, StoreFactHolds}
use Rattle.cpa_predicate.specs.Steps.{is_truth, truths}
use Rattle.cpa_predicate.proofs.witnesses.has_truths.Given as goal

abbrev pub invariant-loop-fact : goal.invariant-loop-fact
invariant-loop-fact l =
    AllByRecursion (StoreFactHolds l.store.values) (filter is_truth l.fact-iterator)
    → StoreHolds l.store.values (truths l.elem)
