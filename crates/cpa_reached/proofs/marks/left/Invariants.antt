use Rattle.std.proofs.Common.{take}
use Rattle.cpa_reached.specs.Marks.{DiffersAt}
use Rattle.cpa_reached.specs.Passed.{LeavesOut}
use Rattle.cpa_reached.proofs.marks.left.Given as goal

abbrev pub invariant-loop-number : goal.invariant-loop-number
invariant-loop-number l =
    LeavesOut (DiffersAt l.mark l.marks) (take l.number-index l.numbers) l.left.items
