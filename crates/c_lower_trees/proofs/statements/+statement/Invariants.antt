-- What is left of a list makes what the whole makes.
use Rattle.std.proofs.Common.{◌≡◌, drop, map}
use Rattle.c_core_rules.specs.Statements.{item_rule}
use Rattle.c_lower_values.specs.Found.{so_far}
use Rattle.c_lower_trees.specs.Items.{in_behind}
use Rattle.c_lower_trees.proofs.statements.+statement.Given as goal

abbrev pub invariant-in_order-loop-item : goal.invariant-in_order-loop-item
invariant-in_order-loop-item l =
    in_behind l.before (map (item_rule l.frames l.place) (drop l.item-index l.items))
    (so_far l.cells)
    ≡ in_behind l.fn.front (map (item_rule l.frames l.place) l.items) (so_far l.fn.cells)
