-- What the mark tells so far is told of the row.
use Rattle.cpa_reached.specs.Marks.{Tells}
use Rattle.cpa_reached.proofs.marks.mark_of.Given as goal

abbrev pub invariant-loop-place : goal.invariant-loop-place
invariant-loop-place l = Tells l.mark l.elems
