use Rattle.std.proofs.Common.{ap, arith}
use Rattle.c_types_rules.specs.Items.{Call}
use Rattle.c_types_recursion.specs.Marks.{IsWithin}
use Rattle.c_types_recursion.proofs.Marks.{within_more, all_taken}
use Rattle.c_types_recursion.proofs.reach.bodies_of.Goals as goal

pub loop-call-preserved : goal.loop-call-preserved
loop-call-preserved c =
    let caller = ap (λ (one : Call). one.caller) c.call.view_is in
    let callee = ap (λ (one : Call). one.callee) c.call.view_is in
    within_more c.args.calls.now c.loop-call.bodies c.with_body-bodies.result c.loop-call.call-index
    c.call-item.result (omega arith) c.call-item.is (omega arith) (omega arith) (omega arith)
    c.loop-call.invariant

pub returns : goal.returns
returns c =
    all_taken (IsWithin c.loop-call.bodies) c.args.calls.now c.loop-call.call-index (omega arith)
    c.loop-call.invariant
