use Rattle.c_types_recursion.proofs.Marks.{within_among, grows_step, keeps_step}
use Rattle.c_types_recursion.proofs.reach.follow.Goals as goal

pub mark-requires : goal.mark-requires
mark-requires c =
    within_among c.args.calls.now _ _ c.in-Some.call.now c.requires c.loop.auto.seen
    c.in-Some.ensures

pub returns-in_err-push-clause-grown : goal.returns-in_err-push-clause-grown
returns-in_err-push-clause-grown c =
    grows_step c.args.calls.now c.args.seen.now c.loop.seen c.mark.new.seen c.in-Some.call.now
    c.mark.result c.loop.invariant.grown c.in-Some.ensures c.mark.ensures.fresh
    c.mark.ensures.marked

pub loop-preserved : goal.loop-preserved
loop-preserved c = record {
  kept = keeps_step c.args.seen.now c.loop.seen c.mark.new.seen c.in-Some.call.now c.mark.result
      c.loop.invariant.kept
      (within_among c.args.calls.now _ _ c.in-Some.call.now c.requires c.loop.auto.seen
      c.in-Some.ensures).callee
      c.mark.ensures.marked;
  grown = grows_step c.args.calls.now c.args.seen.now c.loop.seen c.mark.new.seen
      c.in-Some.call.now c.mark.result c.loop.invariant.grown c.in-Some.ensures
      c.mark.ensures.fresh c.mark.ensures.marked;
}
