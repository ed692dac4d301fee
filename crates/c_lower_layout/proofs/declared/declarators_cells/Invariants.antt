-- The cells so far and those of what is left.
use Rattle.std.proofs.Common.{◌≡◌, ◌+◌, drop}
use Rattle.c_lower_layout.specs.ObjectCells.{declarators_cells}
use Rattle.c_lower_layout.proofs.declared.declarators_cells.Given as goal

abbrev pub invariant-loop-declarator : goal.invariant-loop-declarator
invariant-loop-declarator l =
    l.cells + declarators_cells (drop l.declarator-index l.declarators)
    ≡ declarators_cells l.declarators
