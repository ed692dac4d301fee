-- What is added and what is left is the whole.
use Rattle.std.proofs.Common.{◌≡◌, ◌++◌, ◌-◌}
use Rattle.cpa_folds.specs.Tracking.{is_tracked}
use Rattle.cpa_value.specs.Tables.{facts_along}
use Rattle.cpa_value.proofs.transfer.push_along.Given as goal

abbrev pub invariant-loop-cell : goal.invariant-loop-cell
invariant-loop-cell l =
    let tracked = is_tracked l.tracked in
    l.left ++ facts_along tracked (λ _. l.value) l.cell (l.end - l.cell)
    ≡ l.fn.left ++ facts_along tracked (λ _. l.value) l.first (l.end - l.first)
