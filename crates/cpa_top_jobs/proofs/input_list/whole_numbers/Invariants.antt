use Rattle.std.specs.Prelude.{◌≡◌}
use Rattle.std.specs.List.{AllByRecursion}
use Rattle.serde_json.specs.View.{items_view}
use Rattle.cpa_top_jobs.specs.Inputs.{IsInput, whole_numbers}
use Rattle.cpa_top_jobs.proofs.Numbers.{before, left}
use Rattle.cpa_top_jobs.proofs.input_list.whole_numbers.Given as goal

abbrev pub invariant-loop-value : goal.invariant-loop-value
invariant-loop-value l =
    (whole_numbers (items_view l.values) ≡ before l.numbers.items (left l.values l.value-index))
    × AllByRecursion IsInput l.numbers.items
