use Rattle.c_types_recursion.proofs.Circles.{NoneBelow}
use Rattle.c_types_recursion.proofs.least.first_circular.Given as goal

abbrev pub invariant-loop-call : goal.invariant-loop-call
invariant-loop-call l = NoneBelow l.calls l.found l.call-index
