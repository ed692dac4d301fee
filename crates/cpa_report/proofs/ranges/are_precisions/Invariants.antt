-- It holds of all exactly where it holds of those that are left.
use Rattle.std.proofs.Common.{◌↔◌}
use Rattle.std.specs.List.{AllByRecursion}
use Rattle.std.specs.Slice.Iter.{iter_rest}
use Rattle.cpa_iface.specs.Meanings.{IsPrecision}
use Rattle.cpa_report.proofs.ranges.are_precisions.Given as goal

abbrev pub invariant-loop-precision : goal.invariant-loop-precision
invariant-loop-precision l =
    AllByRecursion (IsPrecision l.cfa) (iter_rest l.precision-iterator)
    ↔ AllByRecursion (IsPrecision l.cfa) l.precisions
