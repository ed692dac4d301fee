-- The precisions so far fit.
use Rattle.std.proofs.Common.{take}
use Rattle.std.specs.List.{AllByRecursion}
use Rattle.cpa_iface.specs.Meanings.{IsPrecision}
use Rattle.cases_programs.proofs.shapes.are_precisions.Given as goal

abbrev pub invariant-loop-precision : goal.invariant-loop-precision
invariant-loop-precision l = AllByRecursion (IsPrecision l.cfa)
    (take l.precision-index l.precisions)
