-- The starts so far are in range.
use Rattle.std.proofs.Common.{take}
use Rattle.std.specs.List.{AllByRecursion}
use Rattle.cpa_ints.specs.Integers.{IsInRange}
use Rattle.cases_programs.proofs.fitting.are_starts.Given as goal

abbrev pub invariant-loop-cell : goal.invariant-loop-cell
invariant-loop-cell l = AllByRecursion (λ cell. IsInRange cell.ty cell.start)
    (take l.cell-index l.cells)
