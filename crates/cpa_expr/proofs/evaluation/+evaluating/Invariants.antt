-- A node's form is evaluated by its parts: twice the nodes, and one more for the form alone.
use Rattle.std.proofs.Common.{◌+◌, ◌*◌}
use Rattle.cpa_expr.specs.Shape.{size}
use Rattle.cpa_expr.proofs.evaluation.+evaluating.Given as goal

abbrev pub decreases-value : goal.decreases-value
decreases-value l = 2 * size l.e.now

abbrev pub decreases-value_of_read : goal.decreases-value_of_read
decreases-value_of_read l = 2 * size l.index.now + 1

abbrev pub decreases-value_of_un : goal.decreases-value_of_un
decreases-value_of_un l = 2 * size l.arg.now + 1

abbrev pub decreases-value_of_bin : goal.decreases-value_of_bin
decreases-value_of_bin l = 2 * (size l.left.now + size l.right.now) + 1

abbrev pub decreases-value_of_cmp : goal.decreases-value_of_cmp
decreases-value_of_cmp l = 2 * (size l.left.now + size l.right.now) + 1

abbrev pub decreases-value_of_cast : goal.decreases-value_of_cast
decreases-value_of_cast l = 2 * size l.arg.now + 1

abbrev pub decreases-value_of_and : goal.decreases-value_of_and
decreases-value_of_and l = 2 * (size l.left.now + size l.right.now) + 1

abbrev pub decreases-value_of_or : goal.decreases-value_of_or
decreases-value_of_or l = 2 * (size l.left.now + size l.right.now) + 1

abbrev pub decreases-value_of_not : goal.decreases-value_of_not
decreases-value_of_not l = 2 * size l.arg.now + 1

abbrev pub decreases-value_of_cond : goal.decreases-value_of_cond
decreases-value_of_cond l = 2 * (size l.test.now + size l.yes.now + size l.no.now) + 1
