-- One more cell.
use Rattle.std.proofs.Common.{arith}
use Rattle.cpa_solver.proofs.Numbers.{one_cell, last_cell}
use Rattle.cpa_solver.proofs.stores.store_at.Goals as goal

pub loop-i-preserved : goal.loop-i-preserved
loop-i-preserved c =
    let l = c.loop-i in
    one_cell c.args.cells.now c.args.firsts.now c.args.truths.now l.i _ _ l.values
    c.push_value.new.values _ (omega arith) (omega (arith, c.requires)) c.in_ok-push_value.ensures
    l.invariant

pub returns : goal.returns
returns c =
    let l = c.loop-i in
    last_cell c.args.cells.now c.args.firsts.now c.args.truths.now l.i l.values _ (omega arith)
    l.invariant
