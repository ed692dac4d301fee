-- What holds of the facts of the element holds of those so far, and of those that are left.
use Rattle.std.proofs.Common.{ℕ, ℤ, List}
use Rattle.std.specs.List.{AllByRecursion, filter}
use Rattle.cpa_model.specs.declared.program.Cell.{Cell}
use Rattle.cpa_model.specs.Facts.{IsFact, IsElem}
use Rattle.cpa_form_rules.specs.Runs.{StoreHolds, StoreFactHolds}
use Rattle.cpa_predicate.specs.Steps.{is_truth, truths}
use Rattle.cpa_predicate.proofs.nearness.marked_truths.Given as goal

abbrev pub invariant-loop-fact : goal.invariant-loop-fact
invariant-loop-fact l =
    ((cells : List Cell) (points : ℕ) → IsElem cells points l.elem
    → AllByRecursion (IsFact cells points) l.facts
    × AllByRecursion (IsFact cells points) l.fact-iterator)
    × ((values : List ℤ) → StoreHolds values (truths l.elem)
    → AllByRecursion (StoreFactHolds values) l.facts
    × AllByRecursion (StoreFactHolds values) (filter is_truth l.fact-iterator))
