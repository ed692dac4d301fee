-- The cells so far and those of what is left.
use Rattle.std.proofs.Common.{◌≡◌, ◌+◌, drop, map, sum}
use Rattle.c_types_rules.specs.Tables.{cells_of}
use Rattle.c_lower_layout.proofs.declared.objects_cells.Given as goal

abbrev pub invariant-loop-object : goal.invariant-loop-object
invariant-loop-object l =
    l.cells + sum (map cells_of (drop l.object-index l.objects)) ≡ sum (map cells_of l.objects)
