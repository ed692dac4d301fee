-- A node's form is evaluated by its parts: twice the nodes, and one more for the form alone.
use Rattle.std.proofs.Common.{◌+◌, ◌*◌}
use Rattle.cpa_expr.specs.Shape.{size}
use Rattle.cpa_value_changes.proofs.known.+knowing.Given as goal

abbrev pub decreases-known_value : goal.decreases-known_value
decreases-known_value l = 2 * size l.e.now

abbrev pub decreases-known_read : goal.decreases-known_read
decreases-known_read l = 2 * size l.index.now + 1

abbrev pub decreases-known_un : goal.decreases-known_un
decreases-known_un l = 2 * size l.arg.now + 1

abbrev pub decreases-known_bin : goal.decreases-known_bin
decreases-known_bin l = 2 * (size l.left.now + size l.right.now) + 1

abbrev pub decreases-known_cmp : goal.decreases-known_cmp
decreases-known_cmp l = 2 * (size l.left.now + size l.right.now) + 1

abbrev pub decreases-known_cast : goal.decreases-known_cast
decreases-known_cast l = 2 * size l.arg.now + 1

abbrev pub decreases-known_and : goal.decreases-known_and
decreases-known_and l = 2 * (size l.left.now + size l.right.now) + 1

abbrev pub decreases-known_or : goal.decreases-known_or
decreases-known_or l = 2 * (size l.left.now + size l.right.now) + 1

abbrev pub decreases-known_not : goal.decreases-known_not
decreases-known_not l = 2 * size l.arg.now + 1

abbrev pub decreases-known_cond : goal.decreases-known_cond
decreases-known_cond l = 2 * (size l.test.now + size l.yes.now + size l.no.now) + 1
