use Rattle.cpa_chains.proofs.Halving.{room_taken}
use Rattle.cpa_chains.proofs.parallel.rooms_for.Goals as goal

pub loop-line-preserved : goal.loop-line-preserved
loop-line-preserved c =
    rw c.in_ok-push.ensures.items
    (room_taken c.args.log.now c.loop-line.rooms.items c.loop-line.line-index c.line-item.result
    c.in_ok-room_for.field-0 c.loop-line-test.true c.line-item.is c.loop-line.invariant
    c.in_ok-room_for.ensures)
