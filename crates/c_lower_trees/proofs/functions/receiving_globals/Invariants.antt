-- What is left of a list makes what the whole makes.
use Rattle.std.proofs.Common.{◌≡◌, drop}
use Rattle.c_core_rules.specs.Statements.{receiving_globals}
use Rattle.c_lower_values.specs.Found.{so_far}
use Rattle.c_lower_trees.proofs.functions.receiving_globals.Given as goal

abbrev pub invariant-loop-global : goal.invariant-loop-global
invariant-loop-global l =
    (receiving_globals (drop l.global-index l.globals) (so_far l.cells)).taken
    ≡ (receiving_globals l.globals (so_far l.fn.cells)).taken
