-- The cells of an object, one by one.
use Rattle.std.proofs.Common.{arith}
use Rattle.c_lower_values.proofs.Filled.{fill_kept, fill_done}
use Rattle.c_lower_values.proofs.cells.fill.Goals as goal

pub loop-place-preserved : goal.loop-place-preserved
loop-place-preserved c =
    fill_kept c.args.ty _ _ c.args.count c.loop-place._place _ _ _ (omega arith)
    c.in_ok-push_cell.ensures c.values_behind-values.ensures c.loop-place.invariant

pub returns : goal.returns
returns c =
    fill_done c.args.ty _ c.args.count c.loop-place._place _ _ (omega arith)
    c.loop-place.invariant
