-- The values of a list, in order.
use Rattle.std.proofs.Common.{arith}
use Rattle.c_lower_trees.proofs.Runs.{set_kept, set_done}
use Rattle.c_lower_trees.proofs.statements.initialized_each.Goals as goal

pub loop-value-preserved : goal.loop-value-preserved
loop-value-preserved c =
    set_kept c.args.origin _ _ _ _ _ _ c.args.values.now c.loop-value.value-index _ _ _ _
    (omega arith) c.value-item.is c.in_ok-cell.ensures
    c.in_ok-before.ensures.taken
    (rw c.cell_at.ensures at c.in_ok-before.ensures.made)
    c.loop-value.invariant

pub returns-clause-taken : goal.returns-clause-taken
returns-clause-taken c =
    (set_done c.args.origin _ _ _ _ c.args.values.now c.loop-value.value-index _ _
    (omega arith) c.loop-value.invariant).0

pub returns-clause-made : goal.returns-clause-made
returns-clause-made c =
    (set_done c.args.origin _ _ _ _ c.args.values.now c.loop-value.value-index _ _
    (omega arith) c.loop-value.invariant).1
