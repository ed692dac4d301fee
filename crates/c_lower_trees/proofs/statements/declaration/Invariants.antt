-- What is left of a list makes what the whole makes.
use Rattle.std.proofs.Common.{◌≡◌, drop, map}
use Rattle.c_core_rules.specs.Statements.{declared}
use Rattle.c_lower_values.specs.Found.{so_far}
use Rattle.c_lower_trees.specs.Items.{in_behind}
use Rattle.c_lower_trees.proofs.statements.declaration.Given as goal

abbrev pub invariant-loop-declarator : goal.invariant-loop-declarator
invariant-loop-declarator l =
    in_behind l.before (map (declared l.frames) (drop l.declarator-index l.declarators))
    (so_far l.cells)
    ≡ in_behind l.fn.front (map (declared l.frames) l.declarators) (so_far l.fn.cells)
