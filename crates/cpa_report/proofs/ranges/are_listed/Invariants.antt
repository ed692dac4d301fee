-- It holds of all exactly where it holds of those that are left.
use Rattle.std.proofs.Common.{◌↔◌}
use Rattle.std.specs.List.{AllByRecursion}
use Rattle.std.specs.Slice.Iter.{iter_rest}
use Rattle.cpa_report.specs.Ranges.{IsListedIn}
use Rattle.cpa_report.proofs.ranges.are_listed.Given as goal

abbrev pub invariant-loop-entry : goal.invariant-loop-entry
invariant-loop-entry l =
    AllByRecursion (IsListedIn l.cfa) (iter_rest l.entry-iterator)
    ↔ AllByRecursion (IsListedIn l.cfa) l.entries
