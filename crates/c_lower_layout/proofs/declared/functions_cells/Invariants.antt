-- The cells so far and those of what is left.
use Rattle.std.proofs.Common.{◌≡◌, ◌+◌, drop, map, sum}
use Rattle.c_lower_layout.specs.ObjectCells.{function_cells}
use Rattle.c_lower_layout.proofs.declared.functions_cells.Given as goal

abbrev pub invariant-loop-function : goal.invariant-loop-function
invariant-loop-function l =
    l.cells + sum (map function_cells (drop l.function-index l.functions))
    ≡ sum (map function_cells l.functions)
