use Rattle.c_types_recursion.proofs.Marks.{IsPassed}
use Rattle.c_types_recursion.proofs.reach.pass.Given as goal

abbrev pub invariant-loop-call : goal.invariant-loop-call
invariant-loop-call l = IsPassed l.calls l.fn.seen l.seen l.changed l.call-index
