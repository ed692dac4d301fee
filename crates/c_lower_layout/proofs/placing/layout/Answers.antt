-- What is found behind the cells of file scope.
use Rattle.std.proofs.Common.{subst}
use Rattle.c_lower_layout.specs.Rests.{IsFinding, AreMade}
use Rattle.c_lower_layout.proofs.LaidOut.{behind_file, found_behind, made_behind}
use Rattle.c_lower_layout.proofs.placing.layout.Goals as goal

pub settled-requires-clause-found : goal.settled-requires-clause-found
settled-requires-clause-found c =
    found_behind c.args.globals.now c.args.functions.now _ _ _ _ _ c.new-frames.ensures
    (behind_file c.args.globals.now _ _ c.new-cells.ensures c.in_ok-receiving_globals.ensures)
    (subst (IsFinding _ _ _ _) c.in-Some.is c.in_ok-found.ensures.found)

pub settled-requires-clause-made : goal.settled-requires-clause-made
settled-requires-clause-made c =
    made_behind c.args.globals.now c.args.functions.now _ _ _ _ _ c.new-frames.ensures
    (behind_file c.args.globals.now _ _ c.new-cells.ensures c.in_ok-receiving_globals.ensures)
    c.new-trees.ensures.items
    (subst (AreMade _ _ _ _ _) c.in-Some.is c.in_ok-found.ensures.made)
