use Rattle.std.proofs.Common.{◌+◌, ◌*◌}
use Rattle.cpa_expr_text.proofs.trees.+trees.Given as goal

abbrev pub decreases-take_tree : goal.decreases-take_tree
decreases-take_tree l = 2 * l.levels

abbrev pub decreases-take_one : goal.decreases-take_one
decreases-take_one l = 2 * l.levels + 1

abbrev pub decreases-take_two : goal.decreases-take_two
decreases-take_two l = 2 * l.levels + 1

abbrev pub decreases-take_three : goal.decreases-take_three
decreases-take_three l = 2 * l.levels + 1
