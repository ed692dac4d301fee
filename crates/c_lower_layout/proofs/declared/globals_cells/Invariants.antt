-- The cells so far and those of what is left.
use Rattle.std.proofs.Common.{◌≡◌, ◌+◌, drop}
use Rattle.c_lower_layout.specs.ObjectCells.{globals_cells}
use Rattle.c_lower_layout.proofs.declared.globals_cells.Given as goal

abbrev pub invariant-loop-global : goal.invariant-loop-global
invariant-loop-global l =
    l.cells + globals_cells (drop l.global-index l.globals) ≡ globals_cells l.globals
