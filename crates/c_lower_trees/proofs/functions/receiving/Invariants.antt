-- What is left of a list makes what the whole makes.
use Rattle.std.proofs.Common.{◌≡◌, drop}
use Rattle.c_core_rules.specs.Statements.{receiving}
use Rattle.c_lower_values.specs.Found.{so_far}
use Rattle.c_lower_trees.proofs.functions.receiving.Given as goal

abbrev pub invariant-loop-object : goal.invariant-loop-object
invariant-loop-object l =
    (receiving (drop l.object-index l.objects) (so_far l.cells)).taken
    ≡ (receiving l.objects (so_far l.fn.cells)).taken
