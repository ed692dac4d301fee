-- The declarators of a declaration, in order.
use Rattle.std.proofs.Common.{arith}
use Rattle.c_lower_trees.proofs.InOrder.{in_kept, in_done}
use Rattle.c_lower_trees.proofs.statements.declaration.Goals as goal

pub loop-declarator-preserved : goal.loop-declarator-preserved
loop-declarator-preserved c =
    in_kept _ _ _ c.args.declarators.now c.loop-declarator.declarator-index _ _ _ _ (omega arith)
    c.declarator-item.is c.in_ok-before.ensures.taken c.in_ok-before.ensures.made
    c.loop-declarator.invariant

pub returns-clause-taken : goal.returns-clause-taken
returns-clause-taken c =
    (in_done _ c.args.front _ c.args.declarators.now c.loop-declarator.declarator-index _ _
    (omega arith) c.loop-declarator.invariant).0

pub returns-clause-made : goal.returns-clause-made
returns-clause-made c =
    (in_done _ c.args.front _ c.args.declarators.now c.loop-declarator.declarator-index _ _
    (omega arith) c.loop-declarator.invariant).1
