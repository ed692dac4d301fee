-- It holds of all exactly where it holds of those that are left.
use Rattle.std.proofs.Common.{◌↔◌}
use Rattle.std.specs.List.{AllByRecursion}
use Rattle.std.specs.Slice.Iter.{iter_rest}
use Rattle.cpa_report.specs.Ranges.{IsRefinedIn}
use Rattle.cpa_report.proofs.ranges.are_refined.Given as goal

abbrev pub invariant-loop-refined : goal.invariant-loop-refined
invariant-loop-refined l =
    AllByRecursion (IsRefinedIn l.cfa) (iter_rest l.refined-iterator)
    ↔ AllByRecursion (IsRefinedIn l.cfa) l.history
