-- Operands, each held that has statements behind it.
use Rattle.std.specs.Vec.Iter.{into_iter_items}
use Rattle.c_lower_values.proofs.HeldOperands.{hold_kept}
use Rattle.c_lower_values.proofs.operands.hold_all.Goals as goal

pub loop-v-preserved : goal.loop-v-preserved
loop-v-preserved c =
    let at = c.loop-v in
    let kept = hold_kept c.args.origin at.kept.items c.push.new.self.items
    (into_iter_items c.next.new.self)
    (into_iter_items at.v-iterator) c.in-Some.v _ _ _ _ _ _ c.in-Some.ensures.steps.0
    at.invariant.left c.left_behind-left.ensures c.in_ok-held_where.ensures.taken
    c.in_ok-held_where.ensures.made c.in_ok-push.ensures.items at.invariant.taken
    at.invariant.made in
    record { left = kept.0; taken = kept.1; made = kept.2 }
