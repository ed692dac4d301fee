use Rattle.cfa_build.proofs.Tables.{if_placed, loop_placed}
use Rattle.cfa_build.proofs.places.place_parts.Goals as goal

pub place_items-requires : goal.place_items-requires
place_items-requires c =
    let inside = rw c.in-Block.is at c.requires in
    let items = rw (c.statements_are_trees.ensures.items c.in-Block.items) at inside in
    rw c.as_slice.ensures items

pub returns-in-If : goal.returns-in-If
returns-in-If c =
    rw c.in-If.is (if_placed c.args.n c.in-If.test c.in-If.yes c.in-If.no c.args.whole
    c.args.places.now (rw c.in-If.is at c.requires))

pub returns-in-Loop : goal.returns-in-Loop
returns-in-Loop c =
    rw c.in-Loop.is (loop_placed c.args.n c.in-Loop.body c.in-Loop.step c.args.whole
    c.args.places.now (rw c.in-Loop.is at c.requires))
