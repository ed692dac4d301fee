-- What is left of a list makes what the whole makes.
use Rattle.std.proofs.Common.{◌≡◌, drop}
use Rattle.c_core_rules.specs.Cells.{in_order}
use Rattle.c_core_rules.specs.Statements.{initialized_each}
use Rattle.c_lower_values.specs.Found.{so_far}
use Rattle.c_lower_trees.specs.Items.{in_behind}
use Rattle.c_lower_trees.proofs.statements.initialized_each.Given as goal

abbrev pub invariant-loop-value : goal.invariant-loop-value
invariant-loop-value l =
    in_behind l.before (initialized_each l.origin l.frames l.ty l.cell
    (drop l.value-index l.values))
    (so_far l.cells)
    ≡ in_order (initialized_each l.origin l.frames l.ty l.first l.values) (so_far l.fn.cells)
