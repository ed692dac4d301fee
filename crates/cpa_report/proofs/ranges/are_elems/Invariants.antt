-- It holds of all exactly where it holds of those that are left.
use Rattle.std.proofs.Common.{◌↔◌}
use Rattle.std.specs.List.{AllByRecursion}
use Rattle.std.specs.Slice.Iter.{iter_rest}
use Rattle.cpa_model.specs.Facts.{IsElem}
use Rattle.cpa_report.proofs.ranges.are_elems.Given as goal

abbrev pub invariant-loop-elem : goal.invariant-loop-elem
invariant-loop-elem l =
    AllByRecursion (IsElem l.cfa.cells l.cfa.points) (iter_rest l.elem-iterator)
    ↔ AllByRecursion (IsElem l.cfa.cells l.cfa.points) l.elems
