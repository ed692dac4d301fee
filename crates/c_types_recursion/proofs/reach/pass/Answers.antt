use Rattle.std.proofs.Common.{arith}
use Rattle.c_types_recursion.proofs.Among.{among_item}
use Rattle.c_types_recursion.proofs.Marks.{passed_step, within_among}
use Rattle.c_types_recursion.proofs.reach.pass.Goals as goal

pub loop-call-preserved : goal.loop-call-preserved
loop-call-preserved c =
    let calls = c.args.calls.now in
    let call = c.call-item.result in
    passed_step calls c.args.seen.now c.loop-call.seen c.mark-is_fresh.new.seen c.loop-call.changed
    c.mark-is_fresh.result c.loop-call.call-index call c.loop-call.invariant (omega arith)
    c.call-item.is
    (within_among calls _ _ call c.requires c.loop-call.auto.seen
    (among_item calls c.loop-call.call-index call (omega arith) c.call-item.is)).callee
    c.mark-is_fresh.ensures.fresh c.mark-is_fresh.ensures.marked
