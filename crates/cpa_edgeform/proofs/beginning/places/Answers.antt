-- One cell more.
use Rattle.std.proofs.Common.{arith}
use Rattle.cpa_edgeform.proofs.Turns.{one_place, all_placed}
use Rattle.cpa_edgeform.proofs.beginning.places.Goals as goal

pub loop-i-preserved : goal.loop-i-preserved
loop-i-preserved c =
    let l = c.loop-i in
    one_place c.args.cells.now l.i _ l.places.items _ _ (omega arith) c.in_ok-push.ensures.items
    l.invariant

pub returns : goal.returns
returns c =
    let l = c.loop-i in
    all_placed c.args.cells.now l.i l.places.items _ (omega arith) l.invariant
