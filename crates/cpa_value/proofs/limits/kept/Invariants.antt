-- The kept facts so far, and behind them those that are kept of the facts that are left.
use Rattle.std.proofs.Common.{◌≡◌, ◌++◌, []}
use Rattle.std.specs.List.{filter, slice_index_or}
use Rattle.cpa_value.specs.Limits.{is_kept}
use Rattle.cpa_value.proofs.limits.kept.Given as goal

abbrev pub invariant-loop-fact : goal.invariant-loop-fact
invariant-loop-fact l =
    let keeps = is_kept l.limit (λ cell. slice_index_or l.values cell []) in
    l.facts ++ filter keeps l.fact-iterator ≡ filter keeps l.elem.facts
