-- The names of the cells of an object, one by one.
use Rattle.std.proofs.Common.{arith}
use Rattle.c_lower_values.proofs.Filled.{name_kept, names_done}
use Rattle.c_lower_values.proofs.cells.push_names.Goals as goal

pub loop-cell-preserved : goal.loop-cell-preserved
loop-cell-preserved c =
    name_kept c.args.place _ _ c.args.count c.loop-cell._cell _ (omega arith)
    c.in_ok-push.ensures.items c.loop-cell.invariant

pub returns : goal.returns
returns c =
    names_done c.args.place _ c.args.count c.loop-cell._cell _ (omega arith)
    c.loop-cell.invariant
