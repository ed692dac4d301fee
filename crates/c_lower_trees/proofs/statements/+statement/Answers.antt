-- The items of a block, in order, and an if with an else.
use Rattle.std.proofs.Common.{◌∙◌, arith}
use Rattle.c_lower_values.specs.Found.{so_far}
use Rattle.c_lower_trees.proofs.InOrder.{in_kept, in_done}
use Rattle.c_lower_trees.proofs.StatementForms.{if_else}
use Rattle.c_lower_trees.proofs.statements.+statement.Goals as goal

pub in_order-loop-item-preserved : goal.in_order-loop-item-preserved
in_order-loop-item-preserved t c =
    in_kept _ _ _ c.args.items.now c.loop-item.item-index _ _ _ _ (omega arith)
    c.item-item.is c.in_ok-before.ensures.taken c.in_ok-before.ensures.made
    c.loop-item.invariant

pub in_order-returns-clause-taken : goal.in_order-returns-clause-taken
in_order-returns-clause-taken t c =
    (in_done _ c.args.front _ c.args.items.now c.loop-item.item-index _ _ (omega arith)
    c.loop-item.invariant).0

pub in_order-returns-clause-made : goal.in_order-returns-clause-made
in_order-returns-clause-made t c =
    (in_done _ c.args.front _ c.args.items.now c.loop-item.item-index _ _ (omega arith)
    c.loop-item.invariant).1

pub statement-returns-in_ok-trees-in-Some-clause-taken :
    goal.statement-returns-in_ok-trees-in-Some-clause-taken
statement-returns-in_ok-trees-in-Some-clause-taken t c =
    (if_else c.args.frames.now c.args.place c.args.s.now _ _ _ _ _ _ _
    (so_far c.args.cells.now) _ _ _ _ _ _ c.in-If.is c.in-Some.is c.get.ensures
    c.get-in-Some.ensures (rw c.get-test.ensures at c.in_ok-v-in-If.ensures.taken)
    (rw c.get-test.ensures at c.in_ok-v-in-If.ensures.made)
    c.in_ok-first-in-If.ensures.taken c.in_ok-first-in-If.ensures.made
    c.in_ok-second-in-Some.ensures.taken c.in_ok-second-in-Some.ensures.made).0

pub statement-returns-in_ok-trees-in-Some-clause-made :
    goal.statement-returns-in_ok-trees-in-Some-clause-made
statement-returns-in_ok-trees-in-Some-clause-made t c =
    c.in_ok-trees-in-Some.ensures
    ∙ (if_else c.args.frames.now c.args.place c.args.s.now _ _ _ _ _ _ _
    (so_far c.args.cells.now) _ _ _ _ _ _ c.in-If.is c.in-Some.is c.get.ensures
    c.get-in-Some.ensures (rw c.get-test.ensures at c.in_ok-v-in-If.ensures.taken)
    (rw c.get-test.ensures at c.in_ok-v-in-If.ensures.made)
    c.in_ok-first-in-If.ensures.taken c.in_ok-first-in-If.ensures.made
    c.in_ok-second-in-Some.ensures.taken c.in_ok-second-in-Some.ensures.made).1
