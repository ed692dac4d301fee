-- The cells so far and those of the items that are left.
use Rattle.std.proofs.Common.{◌≡◌, ◌+◌, drop}
use Rattle.c_lower_layout.specs.ObjectCells.{items_cells}
use Rattle.c_lower_layout.proofs.declared.+declaring.Given as goal

abbrev pub invariant-items_cells-loop-item : goal.invariant-items_cells-loop-item
invariant-items_cells-loop-item l =
    l.cells + items_cells (drop l.item-index l.items) ≡ items_cells l.items
