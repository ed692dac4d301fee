-- A node's form is made of its parts: twice the nodes, and one more for the form alone.
use Rattle.std.proofs.Common.{◌+◌, ◌*◌}
use Rattle.cpa_expr.specs.Shape.{size}
use Rattle.cpa_blast_circuits.proofs.circuits.+making.Given as goal

abbrev pub decreases-circuit : goal.decreases-circuit
decreases-circuit l = 2 * size l.e.now

abbrev pub decreases-read_circuit : goal.decreases-read_circuit
decreases-read_circuit l = 2 * size l.index.now + 1

abbrev pub decreases-unary_circuit : goal.decreases-unary_circuit
decreases-unary_circuit l = 2 * size l.arg.now + 1

abbrev pub decreases-binary_circuit : goal.decreases-binary_circuit
decreases-binary_circuit l = 2 * (size l.left.now + size l.right.now) + 1

abbrev pub decreases-comparison_circuit : goal.decreases-comparison_circuit
decreases-comparison_circuit l = 2 * (size l.left.now + size l.right.now) + 1

abbrev pub decreases-cast_circuit : goal.decreases-cast_circuit
decreases-cast_circuit l = 2 * size l.arg.now + 1

abbrev pub decreases-both_circuit : goal.decreases-both_circuit
decreases-both_circuit l = 2 * (size l.left.now + size l.right.now) + 1

abbrev pub decreases-either_circuit : goal.decreases-either_circuit
decreases-either_circuit l = 2 * (size l.left.now + size l.right.now) + 1

abbrev pub decreases-not_circuit : goal.decreases-not_circuit
decreases-not_circuit l = 2 * size l.arg.now + 1

abbrev pub decreases-conditional_circuit : goal.decreases-conditional_circuit
decreases-conditional_circuit l = 2 * (size l.test.now + size l.yes.now + size l.no.now) + 1
