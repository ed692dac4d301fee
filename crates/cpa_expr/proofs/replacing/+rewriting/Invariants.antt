-- The nodes of the expression and those of one replacement; four steps for each.
use Rattle.std.proofs.Common.{◌+◌, ◌*◌}
use Rattle.cpa_expr.specs.Shape.{size}
use Rattle.cpa_expr.specs.Rewriting.{weight}
use Rattle.cpa_expr.proofs.replacing.+rewriting.Given as goal

abbrev pub decreases-rewrite : goal.decreases-rewrite
decreases-rewrite l = 4 * (size l.e.now + weight l.with) + 1

abbrev pub decreases-rewrite_parts : goal.decreases-rewrite_parts
decreases-rewrite_parts l = 4 * (size l.e.now + weight l.with)

abbrev pub decreases-rewrite_part : goal.decreases-rewrite_part
decreases-rewrite_part l = 4 * (size l.part.now + weight l.with) + 2

abbrev pub decreases-rewrite_pair : goal.decreases-rewrite_pair
decreases-rewrite_pair l = 4 * (size l.left.now + size l.right.now + weight l.with) + 3
